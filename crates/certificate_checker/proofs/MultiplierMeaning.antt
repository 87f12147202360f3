-- What it means that all conditions on multipliers pass.
use Rattle.certificate_checker.proofs.Common.{◌≡◌, ℕ, ◌<◌, ℤ, pos, ◌+ℤ◌, ◌*ℤ◌, Bool, true, false, List, [], ◌∷◌, ◌++◌, map, filter, None, refl, sym, ap, ap₂, ◌∙◌, subst, arith, inl, inr, if◌then◌else◌, int_lt, int_le, ◌<ℤ◌, ◌≤ℤ◌, ◌↔◌, is_eq, int_cmp, ints, Rational, whole, plus, times, order_of, ≤ℤ_or_<ℤ, int_cmp-equal, ring, products, zero-*ℤ, zero-+ℤ, +ℤ-zero, Row, RowName, Sense, Least, Equal, Most, Var, sum_from, kind_is_free, var_cmp, number_at, row_sum, IsOver, alone, term-IsOver, row_sum-alone, IsOver-plus, IsOver-whole, IsOver-zero, Aim, IsSigned, AreSigned, IsWithin, AreWithin, bound_of, Proves, first_failing, total, row_in_column, column_of, is_signed, multiplier_condition, is_within, column_condition, right_sides, bound_value, bound_condition, multiplier_conditions, column_sum}
use Rattle.certificate_checker.proofs.FailingLaws.{first_holds, rest_hold, hold_both, hold_parts, hold_joined}
use Rattle.certificate_checker.proofs.OverLaws.{over_nonnegative, over_nonpositive, over_order, equal_from, most_from, most_to}

-- ---- sums by names of rows

-- the sum of each number times its key's whole number
abbrev key_sum : (RowName → ℤ) → List (RowName × ℤ) → ℤ
key_sum y [] = pos 0
key_sum y (e ∷ es) = (e.1 *ℤ y e.0) +ℤ key_sum y es

key_sum-append : (y : RowName → ℤ) (es fs : List (RowName × ℤ)) → key_sum y (es ++ fs) ≡ key_sum y es +ℤ key_sum y fs
key_sum-append y [] fs = sym (zero-+ℤ (key_sum y fs))
key_sum-append y (e ∷ es) fs = ap (λ z. (e.1 *ℤ y e.0) +ℤ z) (key_sum-append y es fs) ∙ assoc (e.1 *ℤ y e.0) (key_sum y es) (key_sum y fs)
  where
    assoc : (a b c : ℤ) → a +ℤ (b +ℤ c) ≡ (a +ℤ b) +ℤ c
    assoc a b c = omega (arith, ints)

entries_sum : (y : RowName → ℤ) (name : RowName) (v : Var) (es : List (Var × ℤ)) → key_sum y (map (λ e. (name, e.1)) (filter (λ e. is_eq (var_cmp e.0 v)) es)) ≡ row_sum (alone v) es *ℤ y name
entries_sum y name v [] = sym (zero-*ℤ (y name))
entries_sum y name v (e ∷ es) = cases (is_eq (var_cmp e.0 v)) (entries_sum y name v es)
  where
    at_it : (n r z : ℤ) → (n *ℤ z) +ℤ (r *ℤ z) ≡ ((n *ℤ pos 1) +ℤ r) *ℤ z
    at_it n r z = simp ring

    elsewhere : (n r z : ℤ) → r *ℤ z ≡ ((n *ℤ pos 0) +ℤ r) *ℤ z
    elsewhere n r z = simp ring

    cases : (b : Bool) → key_sum y (map (λ x. (name, x.1)) (filter (λ x. is_eq (var_cmp x.0 v)) es)) ≡ row_sum (alone v) es *ℤ y name
        → key_sum y (map (λ x. (name, x.1)) (if b then (e ∷ filter (λ x. is_eq (var_cmp x.0 v)) es) else filter (λ x. is_eq (var_cmp x.0 v)) es)) ≡ ((e.1 *ℤ (if b then pos 1 else pos 0)) +ℤ row_sum (alone v) es) *ℤ y name
    cases true rest = ap (λ z. (e.1 *ℤ y name) +ℤ z) rest ∙ at_it e.1 (row_sum (alone v) es) (y name)
    cases false rest = rest ∙ elsewhere e.1 (row_sum (alone v) es) (y name)

swapped : (a b : ℤ) → a *ℤ b ≡ b *ℤ a
swapped a b = simp products

row_in_column-sum : (y : RowName → ℤ) (v : Var) (row : Row) → key_sum y (row_in_column v row) ≡ y row.name *ℤ number_at row.entries.items v
row_in_column-sum y v row =
    entries_sum y row.name v row.entries.items ∙ ap (λ n. n *ℤ y row.name) (row_sum-alone v row.entries.items row.ascending) ∙ swapped (number_at row.entries.items v) (y row.name)

column_of-sum : (y : RowName → ℤ) (v : Var) (rows : List Row) → key_sum y (column_of rows v) ≡ column_sum y rows v
column_of-sum y v [] = refl
column_of-sum y v (row ∷ rows) =
    key_sum-append y (row_in_column v row) (column_of rows v) ∙ ap₂ (λ a b. a +ℤ b) (row_in_column-sum y v row) (column_of-sum y v rows)

right_sides-sum : (y : RowName → ℤ) (rows : List Row) → key_sum y (right_sides rows) ≡ bound_of y rows
right_sides-sum y [] = refl
right_sides-sum y (row ∷ rows) = ap₂ (λ a b. a +ℤ b) (swapped row.rhs (y row.name)) (right_sides-sum y rows)

module _ (s : ℕ) (y : RowName → ℤ) (value : RowName → Rational) (positive : pos 0 <ℤ pos s) (over : (name : RowName) → IsOver (pos s) (value name) (y name)) where
  -- ---- exact sums as whole numbers over s

  sum-over : (t : Rational) (z : ℤ) (es : List (RowName × ℤ)) → IsOver (pos s) t z → IsOver (pos s) (sum_from value t es) (z +ℤ key_sum y es)
  sum-over t z [] h = subst (IsOver (pos s) t) (sym (+ℤ-zero z)) h
  sum-over t z (e ∷ es) h =
      subst (IsOver (pos s) (sum_from value (plus t (times (whole e.1) (value e.0))) es)) (assoc z (e.1 *ℤ y e.0) (key_sum y es))
      (sum-over (plus t (times (whole e.1) (value e.0))) (z +ℤ (e.1 *ℤ y e.0)) es (IsOver-plus (pos s) t (times (whole e.1) (value e.0)) z (e.1 *ℤ y e.0) h (term-IsOver (pos s) e.1 (y e.0) (value e.0) (over e.0))))
    where
      assoc : (a b c : ℤ) → (a +ℤ b) +ℤ c ≡ a +ℤ (b +ℤ c)
      assoc a b c = omega (arith, ints)

  total-over : (es : List (RowName × ℤ)) → IsOver (pos s) (total value es) (key_sum y es)
  total-over es = subst (IsOver (pos s) (total value es)) (zero-+ℤ (key_sum y es)) (sum-over (whole (pos 0)) (pos 0) es (IsOver-zero (pos s)))

  column-over : (rows : List Row) (v : Var) → IsOver (pos s) (total value (column_of rows v)) (column_sum y rows v)
  column-over rows v = subst (IsOver (pos s) (total value (column_of rows v))) (column_of-sum y v rows) (total-over (column_of rows v))

  pub bound-over : (rows : List Row) → IsOver (pos s) (bound_value rows value) (bound_of y rows)
  bound-over rows = subst (IsOver (pos s) (bound_value rows value)) (right_sides-sum y rows) (total-over (right_sides rows))

  -- ---- signs

  le_from_test : (a b : ℤ) → int_le a b ≡ true → a ≤ℤ b
  le_from_test a b h = grind (arith, ints)

  le_to_test : (a b : ℤ) → a ≤ℤ b → int_le a b ≡ true
  le_to_test a b h = grind (arith, ints)

  signed_from : (sense : Sense) (name : RowName) → is_signed sense (value name).top ≡ true → IsSigned sense (y name)
  signed_from Least name h = (over_nonnegative (pos s) (value name) (y name) positive (over name)).0 (le_from_test (pos 0) (value name).top h)
  signed_from Equal name h = tt
  signed_from Most name h = (over_nonpositive (pos s) (value name) (y name) positive (over name)).0 (le_from_test (value name).top (pos 0) h)

  signed_to : (sense : Sense) (name : RowName) → IsSigned sense (y name) → is_signed sense (value name).top ≡ true
  signed_to Least name h = le_to_test (pos 0) (value name).top ((over_nonnegative (pos s) (value name) (y name) positive (over name)).1 h)
  signed_to Equal name h = refl
  signed_to Most name h = le_to_test (value name).top (pos 0) ((over_nonpositive (pos s) (value name) (y name) positive (over name)).1 h)

  signs_from : (rows : List Row) → first_failing (map (multiplier_condition value) rows) ≡ None → AreSigned y rows
  signs_from [] h = tt
  signs_from (row ∷ rows) h = (
    signed_from row.sense row.name (first_holds (multiplier_condition value row) (map (multiplier_condition value) rows) h),
    signs_from rows (rest_hold (multiplier_condition value row) (map (multiplier_condition value) rows) h),
  )

  signs_to : (rows : List Row) → AreSigned y rows → first_failing (map (multiplier_condition value) rows) ≡ None
  signs_to [] h = refl
  signs_to (row ∷ rows) h = hold_both (multiplier_condition value row) (map (multiplier_condition value) rows) (signed_to row.sense row.name h.0) (signs_to rows h.1)

  -- ---- columns

  within_from : (free : Bool) (a b : ℤ) → is_within free (int_cmp a b) ≡ true → IsWithin free a b
  within_from true a b h = equal_from a b h
  within_from false a b h = most_from a b h

  within_to : (free : Bool) (a b : ℤ) → IsWithin free a b → is_within free (int_cmp a b) ≡ true
  within_to true a b h = ap is_eq (int_cmp-equal a b h)
  within_to false a b h = most_to a b h

  column_order : (cost : Var → ℤ) (rows : List Row) (v : Var) → order_of (total value (column_of rows v)) (whole (cost v)) ≡ int_cmp (column_sum y rows v) (cost v *ℤ pos s)
  column_order cost rows v =
      over_order (pos s) (total value (column_of rows v)) (whole (cost v)) (column_sum y rows v) (cost v *ℤ pos s) positive (column-over rows v) (IsOver-whole (pos s) (cost v))

  columns_from : (cost : Var → ℤ) (rows : List Row) (vars : List Var) → first_failing (map (column_condition cost rows value) vars) ≡ None → AreWithin vars (column_sum y rows) (λ v. cost v *ℤ pos s)
  columns_from cost rows [] h = tt
  columns_from cost rows (v ∷ vs) h = (
    within_from (kind_is_free v.kind) (column_sum y rows v) (cost v *ℤ pos s)
        (ap (is_within (kind_is_free v.kind)) (sym (column_order cost rows v)) ∙ first_holds (column_condition cost rows value v) (map (column_condition cost rows value) vs) h),
    columns_from cost rows vs (rest_hold (column_condition cost rows value v) (map (column_condition cost rows value) vs) h),
  )

  columns_to : (cost : Var → ℤ) (rows : List Row) (vars : List Var) → AreWithin vars (column_sum y rows) (λ v. cost v *ℤ pos s) → first_failing (map (column_condition cost rows value) vars) ≡ None
  columns_to cost rows [] h = refl
  columns_to cost rows (v ∷ vs) h =
      hold_both (column_condition cost rows value v) (map (column_condition cost rows value) vs)
      (ap (is_within (kind_is_free v.kind)) (column_order cost rows v) ∙ within_to (kind_is_free v.kind) (column_sum y rows v) (cost v *ℤ pos s) h.0)
      (columns_to cost rows vs h.1)

  -- ---- both

  pub proves_from : (aim : Aim) (cost : Var → ℤ) (rows : List Row) (vars : List Var) → first_failing (multiplier_conditions aim cost rows vars value) ≡ None → Proves cost rows vars s y
  proves_from aim cost rows vars h =
      let parts = hold_parts (map (multiplier_condition value) rows) _ h in
      let columns = hold_parts (map (column_condition cost rows value) vars) _ parts.1 in
      record { signs = signs_from rows parts.0; columns = columns_from cost rows vars columns.0 }

  pub bound_passed : (aim : Aim) (cost : Var → ℤ) (rows : List Row) (vars : List Var) → first_failing (multiplier_conditions aim cost rows vars value) ≡ None → (bound_condition aim rows value).holds ≡ true
  bound_passed aim cost rows vars h =
      let parts = hold_parts (map (multiplier_condition value) rows) _ h in
      first_holds (bound_condition aim rows value) [] (hold_parts (map (column_condition cost rows value) vars) _ parts.1).1

  pub proves_to : (aim : Aim) (cost : Var → ℤ) (rows : List Row) (vars : List Var) → Proves cost rows vars s y → (bound_condition aim rows value).holds ≡ true → first_failing (multiplier_conditions aim cost rows vars value) ≡ None
  proves_to aim cost rows vars h passed =
      hold_joined (map (multiplier_condition value) rows) _ (signs_to rows h.signs)
      (hold_joined (map (column_condition cost rows value) vars) _ (columns_to cost rows vars h.columns) (hold_both (bound_condition aim rows value) [] passed refl))

  -- ---- the sum above 0

  above_from_test : (z : ℤ) → int_lt (pos 0) z ≡ true → pos 0 <ℤ z
  above_from_test z h = grind (arith, ints)

  above_to_test : (z : ℤ) → pos 0 <ℤ z → int_lt (pos 0) z ≡ true
  above_to_test z h = grind (arith, ints)

  pub positive_from : (rows : List Row) → int_lt (pos 0) (bound_value rows value).top ≡ true → pos 0 <ℤ bound_of y rows
  positive_from rows h =
      let means = over_nonpositive (pos s) (bound_value rows value) (bound_of y rows) positive (bound-over rows) in
      elim (≤ℤ_or_<ℤ (bound_of y rows) (pos 0)) [
        | inl most ↦ let below = means.1 most in let above = above_from_test (bound_value rows value).top h in absurd (omega (arith, ints))
        | inr above ↦ above
      ]

  pub positive_to : (rows : List Row) → pos 0 <ℤ bound_of y rows → int_lt (pos 0) (bound_value rows value).top ≡ true
  positive_to rows h =
      let means = over_nonpositive (pos s) (bound_value rows value) (bound_of y rows) positive (bound-over rows) in
      above_to_test (bound_value rows value).top (elim (≤ℤ_or_<ℤ (bound_value rows value).top (pos 0)) [
        | inl most ↦ let below = means.0 most in absurd (omega (arith, ints))
        | inr above ↦ above
      ])
