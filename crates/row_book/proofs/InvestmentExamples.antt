-- The row of CC1 on the base example with a life of two years and a rate of the technology's own of 0.1, under both profiles and at both scales.
use Rattle.row_book.proofs.Common.{◌≡◌, ℕ, ℤ, pos, negsuc, Bool, true, false, List, [], ◌∷◌, refl, gcd_of, gcd_within, lowest, plus, times, DISCOUNT_RATE_IDV, OPERATIONAL_LIFE, Data, Var, CC1, right_of, terms_of, written_entries, capital_investment, new_capacity, terms_at}
use Rattle.discount_factors.specs.Factors.{annuity, discounted, recovery_factor}
use Rattle.row_book.proofs.Examples.{at_zeros, base, defaults, whole}

abbrev pub spread : Bool → Data
spread second = record {
  sets = base.sets;
  given = [];
  defaults = record { param = OPERATIONAL_LIFE; value = whole 2 } ∷ record { param = DISCOUNT_RATE_IDV; value = pos 100000000 } ∷ defaults (whole 1);
  second = second;
}

abbrev entries : Bool → ℕ → List (Var × ℤ)
entries second places =
    let terms = terms_at places (spread second) (at_zeros CC1) in
    written_entries (terms_of terms) (right_of terms)

-- 5 at once
at_once : entries false 9 ≡ (new_capacity 0 0 0, negsuc 4) ∷ (capital_investment 0 0 0, pos 1) ∷ []
unfolding lowest times plus gcd_of gcd_within
at_once = refl

-- 5 times 0.523809 times 2
at_six_places : entries true 6 ≡ (new_capacity 0 0 0, negsuc 523808) ∷ (capital_investment 0 0 0, pos 100000) ∷ []
unfolding annuity discounted recovery_factor lowest times plus gcd_of gcd_within
at_six_places = refl

-- 5 times 0.523809523 times 2
at_nine_places : entries true 9 ≡ (new_capacity 0 0 0, negsuc 523809522) ∷ (capital_investment 0 0 0, pos 100000000) ∷ []
unfolding annuity discounted recovery_factor lowest times plus gcd_of gcd_within
at_nine_places = refl
