-- The row is written as every row of an equation is.
use Rattle.span_finder.proofs.Common.{◌≡◌, true, List, sym, ap, ◌∙◌, subst, err_from_is_err_and, IfErr, OnOk, all_fit, Rational, value_of, Var, Place, IsStop, gathered, gathered_formed, written_formed, span_name, Values, cost_terms, limit_formed}
use Rattle.span_finder.proofs.LimitLaws.{row-answer}
use Rattle.span_finder.proofs.LimitSteps.{fits-first, same-stop, stops-first}
use Rattle.span_finder.proofs.limiting.limit_row.Goals as goal

pub returns-in_err-terms-clause-stopped : goal.returns-in_err-terms-clause-stopped
returns-in_err-terms-clause-stopped c =
    let vars = c.args.vars.now in
    let limit = value_of c.args.limit in
    let p = err_from_is_err_and c.from_residual.result c.from_residual.ensures.1 in
    rw (p.1, p.2)
    (same-stop (Place.Row span_name) (all_fit (gathered_formed (cost_terms vars))) (all_fit (limit_formed vars limit)) c.in_err-terms.field-0.0
    (λ wide. stops-first (gathered_formed (cost_terms vars)) (written_formed (gathered (cost_terms vars)) limit) wide) c.in_err-terms.ensures.stopped)

-- what is formed after the terms
formed-after : (vars : List Var) (limit : Rational) (terms : Values) → terms ≡ gathered (cost_terms vars) → all_fit (gathered_formed (cost_terms vars)) ≡ true → all_fit (limit_formed vars limit) ≡ all_fit (written_formed terms limit)
formed-after vars limit terms is fit = fits-first (gathered_formed (cost_terms vars)) (written_formed (gathered (cost_terms vars)) limit) fit ∙ ap (λ (ts : Values). all_fit (written_formed ts limit)) (sym is)

pub returns-clause-row : goal.returns-clause-row
returns-clause-row c =
    row-answer c.args.vars.now (value_of c.args.limit) c.in_ok-terms.terms c.write_row.result c.args.limit.positive c.in_ok-terms.ensures.terms c.write_row.ensures.name c.write_row.ensures.sense c.write_row.ensures.entries
    c.write_row.ensures.right_side c.write_row.ensures.says c.write_row.ensures.variables

pub returns-clause-fits : goal.returns-clause-fits
returns-clause-fits c =
    subst (λ t. OnOk c.write_row.result (t ≡ true)) (sym (formed-after c.args.vars.now (value_of c.args.limit) c.in_ok-terms.terms c.in_ok-terms.ensures.terms c.in_ok-terms.ensures.fits)) c.write_row.ensures.fits

pub returns-clause-stopped : goal.returns-clause-stopped
returns-clause-stopped c =
    subst (λ t. IfErr c.write_row.result (IsStop (Place.Row span_name) t)) (sym (formed-after c.args.vars.now (value_of c.args.limit) c.in_ok-terms.terms c.in_ok-terms.ensures.terms c.in_ok-terms.ensures.fits)) c.write_row.ensures.stopped
