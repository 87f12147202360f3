-- Whole numbers of words.
use Rattle.solver_answers.proofs.Common.{◌≡◌, ℕ, ◌^◌, ◌<◌, Bool, true, false, ◌&&◌, ltb, ltb-true, List, [], ◌∷◌, None, Some, refl, arith, lt-ltb, list_all, if◌then◌else◌, whole_in}
use Rattle.std.specs.Str.Parse.{AllDigits, IsNumeral, digits_value, without_leading_plus}
use Rattle.mps_meaning.specs.Statements.{is_digit, is_numeral}

both : (a b : Bool) → (a && b) ≡ true → (a ≡ true) × (b ≡ true)
both true b e = (refl, e)
both false b e = absurd (cc e)

all_digits : (ds : List ℕ) → list_all is_digit ds ≡ true → AllDigits 10 ds
all_digits [] e = tt
all_digits (d ∷ ds) e = let p = both (is_digit d) (list_all is_digit ds) e in (ltb-true _ _ p.0, all_digits ds p.1)

digits_pass : (ds : List ℕ) → AllDigits 10 ds → list_all is_digit ds ≡ true
digits_pass [] all = refl
digits_pass (d ∷ ds) all = rw (lt-ltb _ _ all.0) (digits_pass ds all.1)

numeral-is : (ds : List ℕ) → is_numeral ds ≡ true → IsNumeral 10 ds
numeral-is [] e = absurd (cc e)
numeral-is (d ∷ ds) e = (omega arith, all_digits (d ∷ ds) e)

numeral-passes : (ds : List ℕ) → IsNumeral 10 ds → is_numeral ds ≡ true
numeral-passes [] is = absurd (omega (arith, is.0))
numeral-passes (d ∷ ds) is = digits_pass (d ∷ ds) is.1

pub whole : (word : List ℕ) (n : ℕ) → (IsNumeral 10 (without_leading_plus word) × (digits_value 10 (without_leading_plus word) < 2 ^ 64)) × (n ≡ digits_value 10 (without_leading_plus word)) → Some n ≡ whole_in word
unfolding whole_in
whole word n is = rw (numeral-passes (without_leading_plus word) is.0.0, lt-ltb _ _ is.0.1) (rw is.1 refl)

pub no_whole : (word : List ℕ) → ¬ (IsNumeral 10 (without_leading_plus word) × (digits_value 10 (without_leading_plus word) < 2 ^ 64)) → None ≡ whole_in word
unfolding whole_in
no_whole word none = by_test (is_numeral (without_leading_plus word)) (ltb (digits_value 10 (without_leading_plus word)) (2 ^ 64)) (λ e f. none (numeral-is _ e, ltb-true _ _ f))
  where
    by_test : (a b : Bool) → (a ≡ true → b ≡ true → ⊥) → None ≡ (if a && b then Some (digits_value 10 (without_leading_plus word)) else None)
    by_test true true never = absurd (never refl refl)
    by_test true false never = refl
    by_test false b never = refl
