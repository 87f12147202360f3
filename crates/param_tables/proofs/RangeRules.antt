-- A value has no fault exactly where it lies in its range.
use Rattle.std.proofs.Common.{◌≡◌, ℕ, ◌*◌, ◌/◌, ◌%◌, ◌≤◌, Bool, true, false, ◌&&◌, ◌||◌, None, Some, pos, negsuc, refl, sym, ap, ◌∙◌, subst, inl, inr, ◌⊎◌, arith, T}
use Rattle.param_tables.proofs.Common.{ℤ, ◌≤ℤ◌, ◌<ℤ◌, int_le, int_lt, if◌then◌else◌, int_eq, eq-eqb, eqb-true, false≢true, leb-true, le-leb, IsInRange, RangesAreTold, is_whole, life_fault, minus_one, range_fault, unless, whole, CellFault, Negative, NotPositive, NotWhole, OutOfRange, WholeUnits, Range, Any, AtLeastZero, AboveZero, ZeroToOne, OneOrTwo, Lifetime, ZeroOnly, MinusOneOrAtLeastZero}
use Rattle.std.specs.Cmp.{signed_Decides}

true_so : (t : Bool) → T t → t ≡ true
true_so true h = refl
true_so false h = absurd h

le_from : (a b : ℤ) → int_le a b ≡ true → a ≤ℤ b
le_from a b e = record { le = subst T (sym e) tt }

le_to : (a b : ℤ) → a ≤ℤ b → int_le a b ≡ true
le_to a b h = true_so (int_le a b) h.le

lt_from : (a b : ℤ) → int_lt a b ≡ true → a <ℤ b
lt_from a b e = record { lt = subst T (sym e) tt }

lt_to : (a b : ℤ) → a <ℤ b → int_lt a b ≡ true
lt_to a b h = true_so (int_lt a b) h.lt

passed : (t : Bool) (fault : CellFault) → unless t fault ≡ None → t ≡ true
passed true fault e = refl
passed false fault e = absurd (some_none fault e)
  where
    some_none : (f : CellFault) → Some f ≡ None → ⊥
    some_none f e = cc

passes : (t : Bool) (fault : CellFault) → t ≡ true → unless t fault ≡ None
passes t fault e = ap (λ b. unless b fault) e

both_from : (a b : Bool) → (a && b) ≡ true → (a ≡ true) × (b ≡ true)
both_from true b e = (refl, e)
both_from false b e = absurd cc

both_to : (a b : Bool) → a ≡ true → b ≡ true → (a && b) ≡ true
both_to a b e f = ap (λ t. t && b) e ∙ f

either_from : (a b : Bool) → (a || b) ≡ true → (a ≡ true) ⊎ (b ≡ true)
either_from true b e = inl refl
either_from false b e = inr e

left_to : (a b : Bool) → a ≡ true → (a || b) ≡ true
left_to a b e = ap (λ t. t || b) e

right_to : (a b : Bool) → b ≡ true → (a || b) ≡ true
right_to true b e = refl
right_to false b e = e

-- ---- lives

life_parts : (v : ℤ) (w : Bool) → is_whole v ≡ w → (if w then unless (int_le (whole 1) v && int_le v (whole 200)) OutOfRange else Some NotWhole) ≡ None → (is_whole v ≡ true) × ((int_le (whole 1) v && int_le v (whole 200)) ≡ true)
life_parts v true e f = (e, passed (int_le (whole 1) v && int_le v (whole 200)) OutOfRange f)
life_parts v false e f = absurd (some_none NotWhole f)
  where
    some_none : (f : CellFault) → Some f ≡ None → ⊥
    some_none f e = cc

life_from : (v : ℤ) → life_fault v ≡ None → IsInRange Lifetime v
life_from (pos m) e =
    let parts = life_parts (pos m) (is_whole (pos m)) refl e in
    let bounds = both_from (int_le (whole 1) (pos m)) (int_le (pos m) (whole 200)) parts.1 in
    let exact : m % 1000000000 ≡ 0 = eqb-true (m % 1000000000) 0 parts.0 in
    let low : 1000000000 ≤ m = leb-true 1000000000 m bounds.0 in
    let high : m ≤ 200000000000 = leb-true m 200000000000 bounds.1 in
    let is : m ≡ m / 1000000000 * 1000000000 = omega arith in
    (m / 1000000000, ap pos is, omega arith, omega arith)
life_from (negsuc m) e =
    let parts = life_parts (negsuc m) (is_whole (negsuc m)) refl e in
    let bounds = both_from (int_le (whole 1) (negsuc m)) (int_le (negsuc m) (whole 200)) parts.1 in
    absurd (false≢true bounds.0)

life_at : (n : ℕ) → 1 ≤ n → n ≤ 200 → life_fault (whole n) ≡ None
life_at n low high =
    let exact : n * 1000000000 % 1000000000 ≡ 0 = omega arith in
    let first : 1000000000 ≤ n * 1000000000 = omega arith in
    let last : n * 1000000000 ≤ 200000000000 = omega arith in
    ap (λ b. if b then unless (int_le (whole 1) (whole n) && int_le (whole n) (whole 200)) OutOfRange else Some NotWhole) (eq-eqb (n * 1000000000 % 1000000000) 0 exact)
    ∙ passes (int_le (whole 1) (whole n) && int_le (whole n) (whole 200)) OutOfRange (both_to (int_le (whole 1) (whole n)) (int_le (whole n) (whole 200)) (le-leb 1000000000 (n * 1000000000) first) (le-leb (n * 1000000000) 200000000000 last))

life_to : (v : ℤ) → IsInRange Lifetime v → life_fault v ≡ None
life_to v is = subst (λ w. life_fault w ≡ None) (sym is.1) (life_at is.0 is.2 is.3)

-- ---- all ranges

pub in_range_from : (range : Range) (v : ℤ) → range_fault range v ≡ None → IsInRange range v
in_range_from Any v e = tt
in_range_from AtLeastZero v e = le_from (pos 0) v (passed (int_le (pos 0) v) Negative e)
in_range_from AboveZero v e = lt_from (pos 0) v (passed (int_lt (pos 0) v) NotPositive e)
in_range_from ZeroToOne v e =
    let both = both_from (int_le (pos 0) v) (int_le v (whole 1)) (passed (int_le (pos 0) v && int_le v (whole 1)) OutOfRange e) in
    (le_from (pos 0) v both.0, le_from v (whole 1) both.1)
in_range_from OneOrTwo v e = elim (either_from (int_eq v (whole 1)) (int_eq v (whole 2)) (passed (int_eq v (whole 1) || int_eq v (whole 2)) OutOfRange e)) [
  | inl one ↦ inl ((signed_Decides v (whole 1)).0 one)
  | inr two ↦ inr ((signed_Decides v (whole 2)).0 two)
]
in_range_from Lifetime v e = life_from v e
in_range_from ZeroOnly v e = (signed_Decides v (pos 0)).0 (passed (int_eq v (pos 0)) WholeUnits e)
in_range_from MinusOneOrAtLeastZero v e = elim (either_from (int_eq v minus_one) (int_le (pos 0) v) (passed (int_eq v minus_one || int_le (pos 0) v) OutOfRange e)) [
  | inl one ↦ inl ((signed_Decides v minus_one).0 one)
  | inr least ↦ inr (le_from (pos 0) v least)
]

pub in_range_to : (range : Range) (v : ℤ) → IsInRange range v → range_fault range v ≡ None
in_range_to Any v is = refl
in_range_to AtLeastZero v is = passes (int_le (pos 0) v) Negative (le_to (pos 0) v is)
in_range_to AboveZero v is = passes (int_lt (pos 0) v) NotPositive (lt_to (pos 0) v is)
in_range_to ZeroToOne v is = passes (int_le (pos 0) v && int_le v (whole 1)) OutOfRange (both_to (int_le (pos 0) v) (int_le v (whole 1)) (le_to (pos 0) v is.0) (le_to v (whole 1) is.1))
in_range_to OneOrTwo v is = passes (int_eq v (whole 1) || int_eq v (whole 2)) OutOfRange (elim is [
  | inl one ↦ left_to (int_eq v (whole 1)) (int_eq v (whole 2)) ((signed_Decides v (whole 1)).1 one)
  | inr two ↦ right_to (int_eq v (whole 1)) (int_eq v (whole 2)) ((signed_Decides v (whole 2)).1 two)
])
in_range_to Lifetime v is = life_to v is
in_range_to ZeroOnly v is = passes (int_eq v (pos 0)) WholeUnits ((signed_Decides v (pos 0)).1 is)
in_range_to MinusOneOrAtLeastZero v is = passes (int_eq v minus_one || int_le (pos 0) v) OutOfRange (elim is [
  | inl one ↦ left_to (int_eq v minus_one) (int_le (pos 0) v) ((signed_Decides v minus_one).1 one)
  | inr least ↦ right_to (int_eq v minus_one) (int_le (pos 0) v) (le_to (pos 0) v least)
])

pub ranges_are_told : RangesAreTold
ranges_are_told range v = (in_range_from range v, in_range_to range v)
