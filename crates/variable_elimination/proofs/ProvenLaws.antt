-- Multipliers that keep those of the reduced rows prove of the named rows what those prove of the reduced rows.
use Rattle.variable_elimination.proofs.Common.{◌≡◌, ℕ, ℤ, pos, neg_ℤ, ◌+ℤ◌, ◌*ℤ◌, Bool, true, false, ◌&&◌, ◌||◌, List, [], ◌∷◌, ◌++◌, ◌⊎◌, inl, inr, refl, sym, ap, ◌∙◌, subst, arith, if◌then◌else◌, ◌<ℤ◌, ◌==◌, nat_lt, eqb-true, ints, *ℤ_cancel, ≤ℤ_cancel, nonzero_of_pos, zero-*ℤ, *ℤ_comm, Row, RowName, Var, RATE_OF_ACTIVITY, NEW_CAPACITY, TRADE, TOTAL_DISCOUNTED_COST, kind_is_free, number_at, Reduced, Bounds, Refutes, IsWithin, number_sum, is_among, is_column, coefficient, is_split, program_of, IsAmong, column_sum, KeepBound, KeepSum, IsKnown, ProvesBound, RefutesRows, AreChosen}
use Rattle.variable_elimination.proofs.ReadyLaws.{contains-from_among}

-- ---- columns are freely chosen

either : (vs ws : List Var) (v : Var) → IsAmong v (vs ++ ws) → IsAmong v vs ⊎ IsAmong v ws
either [] ws v h = inr h
either (u ∷ vs) ws v (inl e) = inl (inl e)
either (u ∷ vs) ws v (inr h) = later (either vs ws v h)
  where
    later : IsAmong v vs ⊎ IsAmong v ws → IsAmong v (u ∷ vs) ⊎ IsAmong v ws
    later (inl k) = inl (inr k)
    later (inr k) = inr k

-- a freely chosen variable isn't of the cost, and may be negative where it is split
abbrev pub IsPlain : ℕ → Type 0
IsPlain kind = ((kind == TRADE) ≡ kind_is_free kind) × ((if true && (kind == TOTAL_DISCOUNTED_COST) then pos 1 else pos 0) ≡ pos 0)

pub chosen_plain : (v : Var) → is_column v ≡ true → IsPlain v.kind
chosen_plain v h = cases (v.kind == RATE_OF_ACTIVITY) refl (v.kind == NEW_CAPACITY) refl (v.kind == TRADE) refl h
  where
    cases : (a : Bool) → (v.kind == RATE_OF_ACTIVITY) ≡ a → (b : Bool) → (v.kind == NEW_CAPACITY) ≡ b → (c : Bool) → (v.kind == TRADE) ≡ c → (a || (b || (c && nat_lt v.index.region v.index.other))) ≡ true → IsPlain v.kind
    cases true e b f c g k = subst IsPlain (sym (eqb-true v.kind RATE_OF_ACTIVITY e)) (refl, refl)
    cases false e true f c g k = subst IsPlain (sym (eqb-true v.kind NEW_CAPACITY f)) (refl, refl)
    cases false e false f true g k = subst IsPlain (sym (eqb-true v.kind TRADE g)) (refl, refl)
    cases false e false f false g k = absurd (cc k)

-- ---- columns within

within-equal : (free : Bool) (a b : ℤ) → a ≡ b → IsWithin free a b
within-equal true a b e = e
within-equal false a b e = omega (arith, ints)

within-kept : (free : Bool) (own column sum s n : ℤ) → pos 0 <ℤ own → own *ℤ column ≡ (own *ℤ sum) +ℤ (s *ℤ n) → IsWithin free (own *ℤ sum) (neg_ℤ (s *ℤ n)) → IsWithin free column (pos 0)
within-kept true own column sum s n h e k =
    *ℤ_cancel column (pos 0) own (nonzero_of_pos own h) (*ℤ_comm column own ∙ e ∙ ap (λ z. z +ℤ (s *ℤ n)) k ∙ cancels (s *ℤ n) ∙ sym (zero-*ℤ own))
  where
    cancels : (z : ℤ) → neg_ℤ z +ℤ z ≡ pos 0
    cancels z = omega (arith, ints)
within-kept false own column sum s n h e k =
    let turned = *ℤ_comm column own in
    let zero_is = zero-*ℤ own in
    ≤ℤ_cancel column (pos 0) own h (omega (arith, ints))

module _ (rows : List Row) (vars : List Var) (reduced : Reduced) (y : RowName → ℤ) (l : ℕ → ℤ) (are : AreChosen reduced.columns.items) where
  abbrev Right : ℤ → Var → Type 0
  Right c v = IsWithin (kind_is_free v.kind) (column_sum y rows v) c

  pub proves : (s : ℤ) → pos 0 <ℤ reduced.cost_own → KeepBound rows vars reduced s y l → Bounds (program_of reduced) s l → ProvesBound rows vars reduced.columns.items s y
  proves s positive keep bounds = record { signs = keep.signs bounds.signs; within = known }
    where
      as_defined : (v : Var) → is_among vars v ≡ true → Right (coefficient true v *ℤ s) v
      as_defined v h = within-equal (kind_is_free v.kind) (column_sum y rows v) (coefficient true v *ℤ s) (keep.defined v h)

      as_column : (v : Var) → IsAmong v reduced.columns.items → is_among vars v ≡ false → Right (coefficient true v *ℤ s) v
      as_column v c h =
          let kind : IsPlain v.kind = chosen_plain v (are v (contains-from_among reduced.columns.items v c)) in
          let below : IsWithin (is_split v) (column_sum y rows v) (pos 0) =
          within-kept (is_split v) reduced.cost_own (column_sum y rows v) (number_sum l 0 (program_of reduced).rows v) s (number_at reduced.cost.items v) positive (keep.columns v h) (bounds.columns v c) in
          subst (λ z. Right z v) (sym (ap (λ z. z *ℤ s) kind.1 ∙ zero-*ℤ s)) (subst (λ t. IsWithin t (column_sum y rows v) (pos 0)) kind.0 below)

      known : (v : Var) → IsKnown vars reduced.columns.items v → Right (coefficient true v *ℤ s) v
      known v (inl h) = as_defined v h
      known v (inr c) = cases (is_among vars v) refl
        where
          cases : (t : Bool) → is_among vars v ≡ t → Right (coefficient true v *ℤ s) v
          cases true is = as_defined v is
          cases false is = as_column v c is

  pub refutes : KeepSum rows vars reduced y l → Refutes (program_of reduced) l → RefutesRows rows vars reduced.columns.items y
  refutes keep refute = record { signs = keep.signs refute.signs; within = known; positive = subst (λ z. pos 0 <ℤ z) (sym keep.bound) refute.right }
    where
      as_defined : (v : Var) → is_among vars v ≡ true → Right (pos 0) v
      as_defined v h = within-equal (kind_is_free v.kind) (column_sum y rows v) (pos 0) (keep.defined v h)

      as_column : (v : Var) → IsAmong v reduced.columns.items → is_among vars v ≡ false → Right (pos 0) v
      as_column v c h =
          let kind : IsPlain v.kind = chosen_plain v (are v (contains-from_among reduced.columns.items v c)) in
          subst (λ t. IsWithin t (column_sum y rows v) (pos 0)) kind.0 (subst (λ z. IsWithin (is_split v) z (pos 0)) (sym (keep.columns v h)) (refute.columns v c))

      known : (v : Var) → IsKnown vars reduced.columns.items v → Right (pos 0) v
      known v (inl h) = as_defined v h
      known v (inr c) = cases (is_among vars v) refl
        where
          cases : (t : Bool) → is_among vars v ≡ t → Right (pos 0) v
          cases true is = as_defined v is
          cases false is = as_column v c is
