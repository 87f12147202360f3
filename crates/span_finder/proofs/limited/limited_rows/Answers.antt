-- What the elimination asks for, and what it comes to.
use Rattle.row_problem.proofs.Common.{ap₂, sym, ◌∙◌, subst, err_from_is_err_and, first_wide, value_of, elimination_steps, IsFirst}
use Rattle.span_finder.specs.LimitedRows.{StopsBefore}
use Rattle.span_finder.proofs.LimitedLaws.{limited-problem, limited-variables}
use Rattle.span_finder.proofs.SpanLaws.{stops-plain, stops-row}
use Rattle.span_finder.proofs.limited.limited_rows.Goals as goal

pub returns-in_err-all-clause-stopped : goal.returns-in_err-all-clause-stopped
returns-in_err-all-clause-stopped c =
    let e = c.in_err-all.field-0.0 in
    let stops : StopsBefore c.args.rows.now c.args.defs.now c.args.vars.now (value_of c.args.limit) e =
    λ var pivots. stops-row c.args.rows.now c.args.defs.now c.args.vars.now (value_of c.args.limit) var pivots e c.in_err-all.ensures.stopped in
    let r = err_from_is_err_and c.from_residual.result c.from_residual.ensures.1 in
    rw (r.1, r.2) stops

pub left_of-requires-clause-problem : goal.left_of-requires-clause-problem
left_of-requires-clause-problem c =
    rw (c.deref.ensures.value, c.deref-2.ensures.value ∙ c.in_ok-all_defs.ensures)
    (limited-problem c.args.rows.now c.args.defs.now c.args.vars.now (value_of c.args.limit) c.in_ok-all.all.items c.requires.problem c.requires.named c.in_ok-all.ensures.rows)

pub left_of-requires-clause-variables : goal.left_of-requires-clause-variables
left_of-requires-clause-variables c =
    rw c.deref.ensures.value
    (limited-variables c.args.rows.now c.args.defs.now c.args.vars.now (value_of c.args.limit) c.in_ok-all.all.items c.requires.problem c.requires.named c.in_ok-all.ensures.rows c.requires.variables)

pub returns-in_err-reduced-clause-stopped : goal.returns-in_err-reduced-clause-stopped
returns-in_err-reduced-clause-stopped c =
    let e = c.in_err-reduced.field-0.0 in
    let first = subst (λ o. IsFirst o e) (ap₂ (λ rs ds. first_wide (elimination_steps rs ds)) c.deref.ensures.value (c.deref-2.ensures.value ∙ c.in_ok-all_defs.ensures)) c.in_err-reduced.ensures.stopped in
    let stops : StopsBefore c.args.rows.now c.args.defs.now c.args.vars.now (value_of c.args.limit) e =
    λ var pivots. stops-plain c.args.rows.now c.args.defs.now c.args.vars.now (value_of c.args.limit) var pivots c.in_ok-all.all.items e c.in_ok-all.ensures.rows first in
    let r = err_from_is_err_and c.from_residual-in_err-reduced.result c.from_residual-in_err-reduced.ensures.1 in
    rw (r.1, r.2) stops

pub returns-clause-limited : goal.returns-clause-limited
returns-clause-limited c = record {
  of = c.in_ok-all.ensures.rows;
  define = c.in_ok-all_defs.ensures;
  program = rw (c.deref.ensures.value, c.deref-2.ensures.value) at c.in_ok-reduced.ensures.program;
  fit = sym (ap₂ (λ rs ds. first_wide (elimination_steps rs ds)) c.deref.ensures.value c.deref-2.ensures.value) ∙ c.in_ok-reduced.ensures.fits;
}
