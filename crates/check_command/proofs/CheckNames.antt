-- The rows and variables of which `check` speaks are those of the sets, so their names can be written.
use Rattle.check_command.proofs.Common.{◌≡◌, ◌⊎◌, ℕ, inl, inr, Bool, true, false, if◌then◌else◌, List, [], ◌∷◌, Some, refl, sym, ◌∙◌, subst, same_Some, AllByRecursion, Rational, SetLists, Row, RowName, Var, Place, var_cmp, row_name_cmp, value_in, HasNameWithin, IsWithinSets, AllByRecursion-append, AllByRecursion-map, AllByRecursion-weaker, Rejection, Condition, FailsFor, IsWideAt, first_failing, steps, model_cost, gap_condition, bound_conditions, column_condition, multiplier_condition, plan_conditions, sign_condition, Reason, reason_of, IsRowOfSets, PlaceIsWithin, ReasonIsWithin, RejectionIsWithin, AreFormedKept, steps-kept, wide-kept}

-- ---- conditions

module _ (sets : SetLists) where
  -- what is computed is at places of the sets, and so is what is said where the condition can fail
  pub record IsConditionWithin (c : Condition) : Type 0 where
    pub formed : AreFormedKept sets (IsRowOfSets sets) c
    pub said : (c.holds ≡ true) ⊎ ReasonIsWithin sets c.reason

  fails-within : (cs : List Condition) (reason : Reason) → AllByRecursion IsConditionWithin cs → first_failing cs ≡ Some reason → ReasonIsWithin sets reason
  fails-within [] reason within fails = absurd (cc fails)
  fails-within (c ∷ cs) reason within fails = cases (fails-within cs reason within.1) c.holds refl fails
    where
      of_it : c.holds ≡ false → (c.holds ≡ true) ⊎ ReasonIsWithin sets c.reason → ReasonIsWithin sets c.reason
      of_it is (inl other) = absurd (cc (sym is ∙ other))
      of_it is (inr said) = said

      cases : (first_failing cs ≡ Some reason → ReasonIsWithin sets reason) → (b : Bool) → c.holds ≡ b → (if b then first_failing cs else Some c.reason) ≡ Some reason → ReasonIsWithin sets reason
      cases later true is h = later h
      cases later false is h = subst (ReasonIsWithin sets) (same_Some _ _ h) (of_it is within.0.said)

  -- ---- the conditions of `check`

  module _ (rows : List Row) (vars : List Var) (named : AllByRecursion (HasNameWithin sets) rows) (listed : AllByRecursion (IsWithinSets sets) vars) where
    pub plan-within : (plan : List (Var × Rational)) → AllByRecursion IsConditionWithin (plan_conditions model_cost rows vars plan)
    plan-within plan =
        AllByRecursion-append IsConditionWithin _ _
        (AllByRecursion-map IsConditionWithin _ rows (AllByRecursion-weaker (HasNameWithin sets) _ (λ row of. record { formed = ((of, tt), tt); said = inr of }) rows named))
        (AllByRecursion-append IsConditionWithin _ _
        (AllByRecursion-map IsConditionWithin (sign_condition (value_in var_cmp plan)) vars
        (AllByRecursion-weaker (IsWithinSets sets) (λ v. IsConditionWithin (sign_condition (value_in var_cmp plan) v)) (λ v of. record { formed = (tt, tt); said = inr of }) vars listed))
        (record { formed = ((tt, tt), tt); said = inl refl }, tt))

    pub bound-within : (multipliers : List (RowName × Rational)) → AllByRecursion IsConditionWithin (bound_conditions model_cost rows vars multipliers)
    bound-within multipliers =
        AllByRecursion-append IsConditionWithin _ _
        (AllByRecursion-map IsConditionWithin (multiplier_condition (value_in row_name_cmp multipliers)) rows
        (AllByRecursion-weaker (HasNameWithin sets) (λ row. IsConditionWithin (multiplier_condition (value_in row_name_cmp multipliers) row)) (λ row of. record { formed = (tt, tt); said = inr of }) rows named))
        (AllByRecursion-append IsConditionWithin _ _
        (AllByRecursion-map IsConditionWithin (column_condition model_cost rows (value_in row_name_cmp multipliers)) vars
        (AllByRecursion-weaker (IsWithinSets sets) (λ v. IsConditionWithin (column_condition model_cost rows (value_in row_name_cmp multipliers) v)) (λ v of. record { formed = ((of, tt), (of, tt)); said = inr of }) vars listed))
        (record { formed = ((tt, tt), tt); said = inl refl }, tt))

  pub gap-within : (cost bound : Rational) (gap : ℕ) → AllByRecursion IsConditionWithin (gap_condition cost bound gap ∷ [])
  gap-within cost bound gap = (record { formed = ((tt, tt), tt); said = inr tt }, tt)

  -- ---- what is said of them

  pub fails-named : (cs : List Condition) (rejection : Rejection) → AllByRecursion IsConditionWithin cs → FailsFor cs (reason_of rejection) → RejectionIsWithin sets rejection
  fails-named cs rejection within fails = fails-within cs (reason_of rejection) within fails.fails

  pub wide-named : (cs : List Condition) (place : Place) → AllByRecursion IsConditionWithin cs → IsWideAt cs place → PlaceIsWithin sets place
  wide-named cs place within wide =
      wide-kept sets (IsRowOfSets sets) (steps cs) place (steps-kept sets (IsRowOfSets sets) cs (AllByRecursion-weaker IsConditionWithin (AreFormedKept sets (IsRowOfSets sets)) (λ c of. of.formed) cs within)) wide
