-- The printed form of a value is a text with that value.
use Rattle.plan_files.proofs.Common.{◌≡◌, ◌≢◌, ℕ, ◌*◌, ◌<◌, ◌≤◌, ◌^◌, pos, zero, suc, Bool, true, false, List, [], ◌∷◌, Result, Ok, Err, refl, sym, ap, ◌∙◌, arith, unsigned_abs, gcd_of, InRange, all_fit, in_range, Rational, lowest, value_of, Frac, both_passed, FractionText, SpellsValue, below_of, bottom_of, top_of, fraction_text, HasValue}
use Rattle.exact_num.proofs.GcdLaws.{gcd_of_pos_right}
use Rattle.exact_num.proofs.Integers.{unsigned_abs-signed_by}
use Rattle.exact_num.proofs.RangeLaws.{InRange-from_test}
use Rattle.std.proofs.Math.Nat.{le-mul_of_pos_right}
use Rattle.std.proofs.lemmas.Int.{unsigned_abs-mul}
use Rattle.exact_num.proofs.StepLaws.{all_fit-cons}
use Rattle.exact_num.proofs.RationalLaws.{lowest-IsLowest, lowest-bottom, lowest-top}
use Rattle.scaled_decimals.specs.declared.reading.DecFault.{DecFault}
use Rattle.scaled_decimals.specs.declared.reading.DecFault.TheVariants.{TooLarge}
use Rattle.scaled_decimals.specs.PrintedParts.{printed_parts}
use Rattle.scaled_decimals.proofs.InverseLaws.{inverse, spelled}

-- the numbers as written fit, for else the text would be refused
printed_fits : (v : Frac) → all_fit (top_of (printed_parts (value_of v)) ∷ bottom_of (printed_parts (value_of v)) ∷ []) ≡ true
printed_fits v = by_test (all_fit (top_of (printed_parts (value_of v)) ∷ bottom_of (printed_parts (value_of v)) ∷ [])) refl
  where
    by_test : (b : Bool) → all_fit (top_of (printed_parts (value_of v)) ∷ bottom_of (printed_parts (value_of v)) ∷ []) ≡ b → b ≡ true
    by_test true is = refl
    by_test false is = let none = inverse v (Err TooLarge) (printed_parts (value_of v), spelled v, is) in absurd (cc none.1)

-- a factor is at most the product with a number above 0
factor_below : (a g b n : ℕ) → a * g ≡ b → 0 < g → b < n → a < n
factor_below a g b n e h l = let small : a ≤ a * g = le-mul_of_pos_right a h in omega (arith, small, e, l)

gcd_positive : (f : FractionText) (text : List ℕ) → SpellsValue f text → 0 < gcd_of (unsigned_abs (top_of f)) (unsigned_abs (bottom_of f))
gcd_positive f text s = gcd_of_pos_right (unsigned_abs (top_of f)) (below_of f.form) (positive (below_of f.form) s.nonzero)
  where
    positive : (n : ℕ) → (n ≡ 0 → ⊥) → 0 < n
    positive zero h = absurd (h refl)
    positive (suc n) h = omega arith

abbrev or_read : Frac → Result Frac DecFault → Rational
or_read v (Ok w) = value_of w
or_read v (Err fault) = value_of v

module _ (v : Frac) where
  abbrev f : FractionText
  f = printed_parts (value_of v)

  abbrev x : Rational
  x = lowest (top_of f) (bottom_of f)

  abbrev g : ℕ
  g = gcd_of (unsigned_abs (top_of f)) (unsigned_abs (bottom_of f))

  bottom_nonzero : bottom_of f ≢ pos 0
  bottom_nonzero e = (spelled v).nonzero (ap unsigned_abs e)

  top_fits : InRange x.top
  top_fits =
      let product : unsigned_abs x.top * g ≡ unsigned_abs (top_of f) = sym (unsigned_abs-mul x.top (pos g)) ∙ ap unsigned_abs (lowest-top (top_of f) (bottom_of f)) ∙ unsigned_abs-signed_by (bottom_of f) (top_of f) in
      factor_below (unsigned_abs x.top) g (unsigned_abs (top_of f)) (2 ^ 127) product (gcd_positive f (fraction_text (value_of v)) (spelled v)) (InRange-from_test (top_of f) (both_passed (in_range (top_of f)) (all_fit (bottom_of f ∷ [])) (sym (all_fit-cons (top_of f) (bottom_of f ∷ [])) ∙ printed_fits v)).0)

  bottom_fits : InRange x.bottom
  bottom_fits =
      let product : unsigned_abs x.bottom * g ≡ unsigned_abs (bottom_of f) = sym (unsigned_abs-mul x.bottom (pos g)) ∙ ap unsigned_abs (lowest-bottom (top_of f) (bottom_of f)) in
      let rest : all_fit (bottom_of f ∷ []) ≡ true = (both_passed (in_range (top_of f)) (all_fit (bottom_of f ∷ [])) (sym (all_fit-cons (top_of f) (bottom_of f ∷ [])) ∙ printed_fits v)).1 in
      factor_below (unsigned_abs x.bottom) g (unsigned_abs (bottom_of f)) (2 ^ 127) product (gcd_positive f (fraction_text (value_of v)) (spelled v)) (InRange-from_test (bottom_of f) (both_passed (in_range (bottom_of f)) (all_fit []) (sym (all_fit-cons (bottom_of f) []) ∙ rest)).0)

  -- the fraction that the text reads as
  read : Frac
  read =
      let lowest_terms = lowest-IsLowest (top_of f) (bottom_of f) bottom_nonzero in
      record { num = x.top; den = x.bottom; num_fits = top_fits; den_fits = bottom_fits; positive = lowest_terms.positive; lowest = lowest_terms.coprime }

  pub printed_value : HasValue (fraction_text (value_of v)) (value_of v)
  unfolding read
  printed_value =
      let back = inverse v (Ok read) (f, spelled v, printed_fits v, refl) in
      (f, spelled v, printed_fits v, sym back.2 ∙ ap (or_read read) (sym back.1))
