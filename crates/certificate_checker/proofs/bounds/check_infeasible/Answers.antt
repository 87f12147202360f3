-- What the answer says of the values says it of the multipliers, which are whole numbers over one denominator.
use Rattle.certificate_checker.proofs.Common.{ℕ, ℤ, subst, IfOk-weaker, RowName, Var, row_name_cmp, value_in, AdmitsNone, infeasible_conditions, bound_value, IsVerdict, OnYes, AreOverSome}
use Rattle.certificate_checker.proofs.CertificateMeaning.{infeasible_yes, infeasible_no, infeasible_none}
use Rattle.certificate_checker.proofs.DenominatorLaws.{some_denominator}
use Rattle.certificate_checker.proofs.bounds.check_infeasible.Goals as goal

pub returns-clause-yes : goal.returns-clause-yes
returns-clause-yes c s y over =
    IfOk-weaker c.multiplier_verdict.result (IsVerdict (infeasible_conditions c.args.rows.now c.args.vars.now c.args.multipliers.now) (bound_value c.args.rows.now (value_in row_name_cmp c.args.multipliers.now))) _
    (infeasible_yes c.args.rows.now c.args.vars.now c.args.multipliers.now s y over) c.multiplier_verdict.ensures

pub returns-clause-no : goal.returns-clause-no
returns-clause-no c s y over =
    IfOk-weaker c.multiplier_verdict.result (IsVerdict (infeasible_conditions c.args.rows.now c.args.vars.now c.args.multipliers.now) (bound_value c.args.rows.now (value_in row_name_cmp c.args.multipliers.now))) _
    (infeasible_no c.args.rows.now c.args.vars.now c.args.multipliers.now s y over) c.multiplier_verdict.ensures

pub returns-clause-none : goal.returns-clause-none
returns-clause-none c all =
    let some : AreOverSome row_name_cmp c.args.multipliers.now = subst (AreOverSome row_name_cmp) c.entries-values.ensures.values (some_denominator row_name_cmp c.entries-values.result.now) in
    IfOk-weaker c.multiplier_verdict.result (IsVerdict (infeasible_conditions c.args.rows.now c.args.vars.now c.args.multipliers.now) (bound_value c.args.rows.now (value_in row_name_cmp c.args.multipliers.now)))
    (λ v. OnYes v (AdmitsNone c.args.rows.now c.args.vars.now))
    (λ v. infeasible_none c.args.rows.now c.args.vars.now c.args.multipliers.now some.over some.number (some.positive, some.each) v c.requires all)
    c.multiplier_verdict.ensures
