-- Variable by variable.
use Rattle.row_problem.proofs.Common.{err_from_is_err_and, Var, Place, span_name}
use Rattle.span_finder.proofs.LimitSteps.{formed-all, formed-next, terms-all, terms-next, terms-stop}
use Rattle.span_finder.proofs.limiting.terms_of.Goals as goal

abbrev none : Var
none = record { kind = 0; index = record { region = 0; other = 0; slice = 0; tech = 0; fuel = 0; emission = 0; mode = 0; year = 0 } }

pub returns-in_err-push_cost-clause-stopped : goal.returns-in_err-push_cost-clause-stopped
returns-in_err-push_cost-clause-stopped c =
    let p = err_from_is_err_and c.from_residual.result c.from_residual.ensures.1 in
    rw (p.1, p.2) (terms-stop c.args.vars.now (Place.Row span_name) c.loop-var.var-index none c.loop-var.terms c.in_err-push_cost.field-0.0 c.loop-var-test.true c.in_err-push_cost.ensures.stopped c.loop-var.invariant.1)

pub loop-var-preserved : goal.loop-var-preserved
loop-var-preserved c = (
  terms-next c.args.vars.now c.loop-var.var-index none c.loop-var.terms c.push_cost.new.terms c.loop-var-test.true c.in_ok-push_cost.ensures.added c.loop-var.invariant.0,
  formed-next c.args.vars.now c.loop-var.var-index none c.loop-var.terms c.push_cost.new.terms c.loop-var-test.true c.in_ok-push_cost.ensures.added c.in_ok-push_cost.ensures.fits c.loop-var.invariant.1,
)

pub returns-clause-terms : goal.returns-clause-terms
returns-clause-terms c = terms-all c.args.vars.now c.loop-var.var-index c.loop-var.terms c.loop-var-test.false c.loop-var.invariant.0

pub returns-clause-fits : goal.returns-clause-fits
returns-clause-fits c = formed-all c.args.vars.now c.loop-var.var-index c.loop-var.terms c.loop-var-test.false c.loop-var.invariant.1
