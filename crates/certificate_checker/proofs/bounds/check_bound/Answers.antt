-- What the answer says of the values says it of the multipliers, which are whole numbers over one denominator.
use Rattle.certificate_checker.proofs.Common.{ℕ, ℤ, subst, IfOk-weaker, value_of, RowName, Var, row_name_cmp, value_in, BoundsAll, number_of, bound_conditions, bound_value, IsVerdict, IfYes, AreOverSome}
use Rattle.certificate_checker.proofs.CertificateMeaning.{bound_yes, bound_no, bound_bounds}
use Rattle.certificate_checker.proofs.DenominatorLaws.{some_denominator}
use Rattle.certificate_checker.proofs.bounds.check_bound.Goals as goal

pub returns-clause-yes : goal.returns-clause-yes
returns-clause-yes c s y over =
    IfOk-weaker c.multiplier_verdict.result (IsVerdict (bound_conditions (number_of c.args.cost.now) c.args.rows.now c.args.vars.now c.args.multipliers.now) (bound_value c.args.rows.now (value_in row_name_cmp c.args.multipliers.now))) _
    (bound_yes c.args.rows.now c.args.vars.now c.args.multipliers.now s y over (number_of c.args.cost.now)) c.multiplier_verdict.ensures

pub returns-clause-no : goal.returns-clause-no
returns-clause-no c s y over =
    IfOk-weaker c.multiplier_verdict.result (IsVerdict (bound_conditions (number_of c.args.cost.now) c.args.rows.now c.args.vars.now c.args.multipliers.now) (bound_value c.args.rows.now (value_in row_name_cmp c.args.multipliers.now))) _
    (bound_no c.args.rows.now c.args.vars.now c.args.multipliers.now s y over (number_of c.args.cost.now)) c.multiplier_verdict.ensures

pub returns-clause-bounds : goal.returns-clause-bounds
returns-clause-bounds c all =
    let some : AreOverSome row_name_cmp c.args.multipliers.now = subst (AreOverSome row_name_cmp) c.entries-values.ensures.values (some_denominator row_name_cmp c.entries-values.result.now) in
    IfOk-weaker c.multiplier_verdict.result (IsVerdict (bound_conditions (number_of c.args.cost.now) c.args.rows.now c.args.vars.now c.args.multipliers.now) (bound_value c.args.rows.now (value_in row_name_cmp c.args.multipliers.now)))
    (λ v. IfYes v (λ bound. BoundsAll (number_of c.args.cost.now) c.args.rows.now c.args.vars.now (value_of bound)))
    (λ v. bound_bounds c.args.rows.now c.args.vars.now c.args.multipliers.now some.over some.number (some.positive, some.each) (number_of c.args.cost.now) v c.requires.ascending all)
    c.multiplier_verdict.ensures
