-- Variable by variable.
use Rattle.certificate_checker.proofs.Common.{◌≡◌, ℤ, pos, true, false, get_or, sym, ap, ◌∙◌, all_fit, Rational, whole, value_of, is_ok-false, Var, sum_from, sum_from_formed, var_cmp, value_in, cost_entries, number_of}
use Rattle.certificate_checker.proofs.CostSteps.{cost_sum-next, cost_fits-next, cost_fits-stop, cost_fits-done}
use Rattle.certificate_checker.proofs.costs.cost_of.Goals as goal

abbrev none : Var
none = record { kind = 0; index = record { region = 0; other = 0; slice = 0; tech = 0; fuel = 0; emission = 0; mode = 0; year = 0 } }

pub returns-in_err-sum-clause-refused : goal.returns-in_err-sum-clause-refused
returns-in_err-sum-clause-refused c =
    let cost : Var → ℤ = number_of c.args.cost.now in
    let value : Var → Rational = value_in var_cmp c.args.plan.now in
    let vars = c.args.vars.now in
    is_ok-false c.from_residual.result c.from_residual.ensures.0
    ∙ sym (cost_fits-stop value cost vars c.loop-variable.variable-index none (value_of c.loop-variable.sum) (all_fit (sum_from_formed value (whole (pos 0)) (cost_entries cost vars)))
    c.loop-variable-test.true (sym c.in_err-sum.ensures.refused) c.loop-variable.invariant.formed)

pub loop-variable-preserved : goal.loop-variable-preserved
loop-variable-preserved c =
    let cost : Var → ℤ = number_of c.args.cost.now in
    let value : Var → Rational = value_in var_cmp c.args.plan.now in
    let vars = c.args.vars.now in
    let i = c.loop-variable.variable-index in
    let s = value_of c.loop-variable.sum in
    let next = value_of c.in_ok-sum.sum in
    record {
      so_far = cost_sum-next value cost vars i none s next (sum_from value (whole (pos 0)) (cost_entries cost vars)) c.loop-variable-test.true c.in_ok-sum.ensures.value c.loop-variable.invariant.so_far;
      formed = cost_fits-next value cost vars i none s next (all_fit (sum_from_formed value (whole (pos 0)) (cost_entries cost vars))) c.loop-variable-test.true c.in_ok-sum.ensures.value (sym c.in_ok-sum.ensures.refused) c.loop-variable.invariant.formed;
    }

pub returns-clause-refused : goal.returns-clause-refused
returns-clause-refused c =
    let cost : Var → ℤ = number_of c.args.cost.now in
    let value : Var → Rational = value_in var_cmp c.args.plan.now in
    let vars = c.args.vars.now in
    sym (cost_fits-done value cost vars c.loop-variable.variable-index (value_of c.loop-variable.sum) (all_fit (sum_from_formed value (whole (pos 0)) (cost_entries cost vars))) c.loop-variable-test.false c.loop-variable.invariant.formed)
