-- The rows and variables of which `check` of a proof speaks are those of the sets, so their names can be written.
use Rattle.check_command.proofs.Common.{◌≡◌, Bool, true, false, if◌then◌else◌, List, [], ◌∷◌, Some, subst, same_Some, AllByRecursion, Rational, SetLists, Row, RowName, Var, var_cmp, row_name_cmp, value_in, HasNameWithin, IsWithinSets, AllByRecursion-append, AllByRecursion-map, AllByRecursion-weaker, Verdict, Yes, No, Width, Condition, first_failing, steps, model_cost, no_cost, column_condition, infeasible_conditions, multiplier_condition, direction_conditions, plan_conditions, sign_condition, Reason, reason_of, IsVerdict, IsRowOfSets, AreFormedKept, steps-kept, wide-kept, ReasonCanBeSaid, VerdictIsWithin}

module _ (sets : SetLists) where
  -- what is computed is at places of the sets, and what is said where the condition fails can be written
  pub record IsSayable (c : Condition) : Type 0 where
    pub formed : AreFormedKept sets (IsRowOfSets sets) c
    pub said : ReasonCanBeSaid sets c.reason

  fails-said : (cs : List Condition) (reason : Reason) → AllByRecursion IsSayable cs → first_failing cs ≡ Some reason → ReasonCanBeSaid sets reason
  fails-said [] reason within fails = absurd (cc fails)
  fails-said (c ∷ cs) reason within fails = cases (fails-said cs reason within.1) c.holds fails
    where
      cases : (first_failing cs ≡ Some reason → ReasonCanBeSaid sets reason) → (b : Bool) → (if b then first_failing cs else Some c.reason) ≡ Some reason → ReasonCanBeSaid sets reason
      cases later true h = later h
      cases later false h = subst (ReasonCanBeSaid sets) (same_Some _ _ h) within.0.said

  -- what a check answers of such conditions
  pub verdict-within : (cs : List Condition) (value : Rational) (verdict : Verdict) → AllByRecursion IsSayable cs → IsVerdict cs value verdict → VerdictIsWithin sets verdict
  verdict-within cs value (Yes found) within answer = tt
  verdict-within cs value (No rejection) within answer = fails-said cs (reason_of rejection) within answer.fails
  verdict-within cs value (Width place) within answer =
      wide-kept sets (IsRowOfSets sets) (steps cs) place (steps-kept sets (IsRowOfSets sets) cs (AllByRecursion-weaker IsSayable (AreFormedKept sets (IsRowOfSets sets)) (λ c of. of.formed) cs within)) answer

  module _ (rows : List Row) (vars : List Var) (named : AllByRecursion (HasNameWithin sets) rows) (listed : AllByRecursion (IsWithinSets sets) vars) where
    pub plan-sayable : (plan : List (Var × Rational)) → AllByRecursion IsSayable (plan_conditions model_cost rows vars plan)
    plan-sayable plan =
        AllByRecursion-append IsSayable _ _
        (AllByRecursion-map IsSayable _ rows (AllByRecursion-weaker (HasNameWithin sets) _ (λ row of. record { formed = ((of, tt), tt); said = of }) rows named))
        (AllByRecursion-append IsSayable _ _
        (AllByRecursion-map IsSayable (sign_condition (value_in var_cmp plan)) vars
        (AllByRecursion-weaker (IsWithinSets sets) (λ v. IsSayable (sign_condition (value_in var_cmp plan) v)) (λ v of. record { formed = (tt, tt); said = of }) vars listed))
        (record { formed = ((tt, tt), tt); said = tt }, tt))

    pub direction-sayable : (direction : List (Var × Rational)) → AllByRecursion IsSayable (direction_conditions model_cost rows vars direction)
    direction-sayable direction =
        AllByRecursion-append IsSayable _ _
        (AllByRecursion-map IsSayable _ rows (AllByRecursion-weaker (HasNameWithin sets) _ (λ row of. record { formed = ((of, tt), tt); said = of }) rows named))
        (AllByRecursion-append IsSayable _ _
        (AllByRecursion-map IsSayable (sign_condition (value_in var_cmp direction)) vars
        (AllByRecursion-weaker (IsWithinSets sets) (λ v. IsSayable (sign_condition (value_in var_cmp direction) v)) (λ v of. record { formed = (tt, tt); said = of }) vars listed))
        (record { formed = ((tt, tt), tt); said = tt }, tt))

    pub refutation-sayable : (multipliers : List (RowName × Rational)) → AllByRecursion IsSayable (infeasible_conditions rows vars multipliers)
    refutation-sayable multipliers =
        AllByRecursion-append IsSayable _ _
        (AllByRecursion-map IsSayable (multiplier_condition (value_in row_name_cmp multipliers)) rows
        (AllByRecursion-weaker (HasNameWithin sets) (λ row. IsSayable (multiplier_condition (value_in row_name_cmp multipliers) row)) (λ row of. record { formed = (tt, tt); said = of }) rows named))
        (AllByRecursion-append IsSayable _ _
        (AllByRecursion-map IsSayable (column_condition no_cost rows (value_in row_name_cmp multipliers)) vars
        (AllByRecursion-weaker (IsWithinSets sets) (λ v. IsSayable (column_condition no_cost rows (value_in row_name_cmp multipliers) v)) (λ v of. record { formed = ((of, tt), (of, tt)); said = of }) vars listed))
        (record { formed = ((tt, tt), tt); said = tt }, tt))
