-- A life and a method are whole numbers, and so the numerator of their fraction is the number; a rate is above 0 exactly where its numerator is.
use Rattle.std.proofs.Common.{◌≡◌, ℕ, ◌*◌, ◌/◌, ◌^◌, ◌≤◌, inl, inr, pos, negsuc, ℤ, nat_lt, Option, Some, None, refl, sym, ap, ◌∙◌, arith, to_z, of_z}
use Rattle.equation_parts.proofs.Common.{◌≤ℤ◌, int_lt, unsigned_abs, unwrap_or, IsSomeAnd, w128, ints, mul-div_cancel, InRange, Rational, lowest, whole, lowest_is, whole-IsLowest, nonzero_of_pos, *ℤ-one, DISCOUNT_RATE, DEPRECIATION_METHOD, OPERATIONAL_LIFE, IsValueIn, billion, range_of}
use Rattle.equation_parts.proofs.ValueLaws.{positive-coded}

-- ---- whole numbers

-- the value z is a whole number from 1 up to the greatest, and x is its fraction
pub record IsWholeUpTo (greatest : ℕ) (z : ℤ) (x : Rational) : Type 0 where
  pub number : ℕ
  pub some : 1 ≤ number
  pub top : x.top ≡ pos number
  pub short : number ≤ greatest
  pub is : number ≡ unsigned_abs z / 10 ^ 9

divided_again : (n : ℕ) → n ≡ n * billion / 10 ^ 9
divided_again n = sym (mul-div_cancel n (omega arith))

whole-is : (greatest n : ℕ) (z : ℤ) (x : Rational) → x ≡ lowest z (pos billion) → z ≡ pos (n * billion) → 1 ≤ n → n ≤ greatest → IsWholeUpTo greatest z x
whole-is greatest n z x e is from to =
    let nonzero = nonzero_of_pos (pos billion) (omega (arith, ints)) in
    let same : whole (pos n) ≡ lowest z (pos billion) = lowest_is z (pos billion) (whole (pos n)) nonzero (whole-IsLowest (pos n)) (sym is ∙ sym (*ℤ-one z)) in
    record {
      number = n;
      some = from;
      top = ap (λ y. y.top) (e ∙ sym same);
      short = to;
      is = divided_again n ∙ ap (λ y. unsigned_abs y / 10 ^ 9) (sym is);
    }

-- a life that data give
pub life-given : (given : Option ℤ) (x : Rational) → x ≡ lowest (unwrap_or given (pos 0)) (pos billion) → IsSomeAnd given (IsValueIn (range_of OPERATIONAL_LIFE)) → IsWholeUpTo 200 (unwrap_or given (pos 0)) x
life-given None x e h = absurd h
life-given (Some z) x e h = let (n, is, from, to) = h.within in whole-is 200 n z x e is from to

-- a method that data give
pub method-given : (given : Option ℤ) (x : Rational) → x ≡ lowest (unwrap_or given (pos 0)) (pos billion) → IsSomeAnd given (IsValueIn (range_of DEPRECIATION_METHOD)) → IsWholeUpTo 2 (unwrap_or given (pos 0)) x
method-given None x e h = absurd h
method-given (Some z) x e h = elim h.within [ inl one ↦ whole-is 2 1 z x e one (omega arith) (omega arith) | inr two ↦ whole-is 2 2 z x e two (omega arith) (omega arith) ]

-- ---- rates

-- what isn't below 0 is above it exactly where its absolute value is
above_0 : (z : ℤ) → pos 0 ≤ℤ z → int_lt (pos 0) z ≡ nat_lt 0 (unsigned_abs z)
above_0 (pos n) from = refl
above_0 (negsuc n) from = absurd (omega (arith, ints, from))

-- a rate that data give
pub rate-given : (given : Option ℤ) (x : Rational) → x ≡ lowest (unwrap_or given (pos 0)) (pos billion) → InRange x.top → IsSomeAnd given (IsValueIn (range_of DISCOUNT_RATE))
    → int_lt (pos 0) (to_z w128 (of_z w128 x.top)) ≡ nat_lt 0 (unsigned_abs (unwrap_or given (pos 0)))
rate-given None x e fits h = absurd h
rate-given (Some z) x e fits h = positive-coded z x e fits ∙ above_0 z h.within.0
