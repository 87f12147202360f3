-- What it means that all conditions on values pass.
use Rattle.certificate_checker.proofs.Common.{◌≡◌, ℕ, ◌<◌, ℤ, pos, ◌-ℤ◌, ◌*ℤ◌, Bool, true, false, ◌||◌, List, [], ◌∷◌, ◌++◌, map, Some, None, refl, sym, ap, ◌∙◌, arith, inl, inr, ints, Rational, ≤ℤ_or_<ℤ, Row, Var, evaluated, AreOver, kind_is_free, row_sum, Stands, stands, IsOver, evaluated-IsOver, Subject, Plan, Direction, Condition, first_failing, cost_value, cost_of, right_of, cost_passes, row_condition, sign_condition, cost_condition, value_conditions, AllStand, IsRight, HaveRightSigns}
use Rattle.std.specs.Prelude.{Option, int_le, int_lt, ◌<ℤ◌, ◌≤ℤ◌, ◌↔◌}
use Rattle.row_core.proofs.StatementLaws.{stands_sound, stands_complete}
use Rattle.certificate_checker.proofs.FailingLaws.{first_holds, rest_hold, hold_both, hold_parts}
use Rattle.certificate_checker.proofs.OverLaws.{over_stands, over_nonnegative, cost-IsOver}

module _ (subject : Subject) (q : ℕ) (x : Var → ℤ) (value : Var → Rational) (positive : pos 0 <ℤ pos q) (over : AreOver (pos q) x value) where
  -- ---- rows

  row_means : (row : Row) → Stands row.sense (evaluated value row.entries.items (right_of subject row)).top (pos 0) ↔ Stands row.sense (row_sum x row.entries.items) (right_of subject row *ℤ pos q)
  row_means row =
      over_stands row.sense (pos q) (evaluated value row.entries.items (right_of subject row)) (row_sum x row.entries.items) (right_of subject row *ℤ pos q) positive
      (evaluated-IsOver (pos q) x value row.entries.items (right_of subject row) over)

  pub rows_stand : (rows : List Row) → first_failing (map (row_condition subject value) rows) ≡ None → AllStand (λ row. right_of subject row *ℤ pos q) rows x
  rows_stand [] h = tt
  rows_stand (row ∷ rows) h = (
    (row_means row).0 (stands_sound row.sense (evaluated value row.entries.items (right_of subject row)).top (pos 0) (first_holds (row_condition subject value row) (map (row_condition subject value) rows) h)),
    rows_stand rows (rest_hold (row_condition subject value row) (map (row_condition subject value) rows) h),
  )

  pub rows_pass : (rows : List Row) → AllStand (λ row. right_of subject row *ℤ pos q) rows x → first_failing (map (row_condition subject value) rows) ≡ None
  rows_pass [] h = refl
  rows_pass (row ∷ rows) h =
      hold_both (row_condition subject value row) (map (row_condition subject value) rows)
      (stands_complete row.sense (evaluated value row.entries.items (right_of subject row)).top (pos 0) ((row_means row).1 h.0)) (rows_pass rows h.1)

  -- ---- signs

  sign_means : (free : Bool) (v : Var) → (free || int_le (pos 0) (value v).top) ≡ true → IsRight free (x v)
  sign_means true v h = tt
  sign_means false v h = (over_nonnegative (pos q) (value v) (x v) positive (over v)).0 (le_from_test (value v).top h)
    where
      le_from_test : (z : ℤ) → int_le (pos 0) z ≡ true → pos 0 ≤ℤ z
      le_from_test z h = grind (arith, ints)

  sign_is : (free : Bool) (v : Var) → IsRight free (x v) → (free || int_le (pos 0) (value v).top) ≡ true
  sign_is true v h = refl
  sign_is false v h = le_to_test (value v).top ((over_nonnegative (pos q) (value v) (x v) positive (over v)).1 h)
    where
      le_to_test : (z : ℤ) → pos 0 ≤ℤ z → int_le (pos 0) z ≡ true
      le_to_test z h = grind (arith, ints)

  pub signs_right : (vars : List Var) → first_failing (map (sign_condition value) vars) ≡ None → HaveRightSigns vars x
  signs_right [] h = tt
  signs_right (v ∷ vs) h = (
    sign_means (kind_is_free v.kind) v (first_holds (sign_condition value v) (map (sign_condition value) vs) h),
    signs_right vs (rest_hold (sign_condition value v) (map (sign_condition value) vs) h),
  )

  pub signs_pass : (vars : List Var) → HaveRightSigns vars x → first_failing (map (sign_condition value) vars) ≡ None
  signs_pass [] h = refl
  signs_pass (v ∷ vs) h =
      hold_both (sign_condition value v) (map (sign_condition value) vs) (sign_is (kind_is_free v.kind) v h.0) (signs_pass vs h.1)

  -- ---- the cost

  falls_from_test : (z : ℤ) → int_lt z (pos 0) ≡ true → z <ℤ pos 0
  falls_from_test z h = grind (arith, ints)

  falls_to_test : (z : ℤ) → z <ℤ pos 0 → int_lt z (pos 0) ≡ true
  falls_to_test z h = grind (arith, ints)

  pub cost_falls : (cost : Var → ℤ) (vars : List Var) → int_lt (cost_value cost vars value).top (pos 0) ≡ true → cost_of cost vars x <ℤ pos 0
  cost_falls cost vars h =
      let means = over_nonnegative (pos q) (cost_value cost vars value) (cost_of cost vars x) positive (cost-IsOver (pos q) x value cost vars over) in
      elim (≤ℤ_or_<ℤ (pos 0) (cost_of cost vars x)) [
        | inl not_below ↦ let above = means.1 not_below in let below = falls_from_test (cost_value cost vars value).top h in absurd (omega (arith, ints))
        | inr below ↦ below
      ]

  pub cost_below : (cost : Var → ℤ) (vars : List Var) → cost_of cost vars x <ℤ pos 0 → int_lt (cost_value cost vars value).top (pos 0) ≡ true
  cost_below cost vars h =
      let means = over_nonnegative (pos q) (cost_value cost vars value) (cost_of cost vars x) positive (cost-IsOver (pos q) x value cost vars over) in
      falls_to_test (cost_value cost vars value).top (elim (≤ℤ_or_<ℤ (pos 0) (cost_value cost vars value).top) [
        | inl not_below ↦ let above = means.0 not_below in absurd (omega (arith, ints))
        | inr below ↦ below
      ])
