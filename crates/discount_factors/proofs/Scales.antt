-- The two scales of factors: what is true of both, each computed.
use Rattle.discount_factors.proofs.Common.{◌≡◌, ℕ, ◌*◌, ◌/◌, ◌^◌, ◌≤◌, refl, sym, subst, inl, inr, arith, unit_of, IsPlaces}

-- what is true at 6 and at 9 is true of the number of places
pub at_places : (P : ℕ → Type 0) → P 6 → P 9 → (places : ℕ) → IsPlaces places → P places
at_places P six nine places is = elim is [ inl same ↦ subst P (sym same) six | inr same ↦ subst P (sym same) nine ]

-- ---- one of the last place is the whole of a scale over the unit, and the quotient is whole
pub steps : (places : ℕ) → IsPlaces places → unit_of places * (10 ^ 18 / unit_of places) ≡ 10 ^ 18
steps places is = at_places (λ p. unit_of p * (10 ^ 18 / unit_of p) ≡ 10 ^ 18) refl refl places is

pub half_year_steps : (places : ℕ) → IsPlaces places → unit_of places * (10 ^ 30 / unit_of places) ≡ 10 ^ 30
half_year_steps places is = at_places (λ p. unit_of p * (10 ^ 30 / unit_of p) ≡ 10 ^ 30) refl refl places is

pub step_above : (places : ℕ) → IsPlaces places → 10 ^ 9 ≤ 10 ^ 18 / unit_of places
step_above places is = at_places (λ p. 10 ^ 9 ≤ 10 ^ 18 / unit_of p) (omega arith) (omega arith) places is

pub half_year_step_above : (places : ℕ) → IsPlaces places → 10 ^ 21 ≤ 10 ^ 30 / unit_of places
half_year_step_above places is = at_places (λ p. 10 ^ 21 ≤ 10 ^ 30 / unit_of p) (omega arith) (omega arith) places is

pub unit_most : (places : ℕ) → IsPlaces places → unit_of places ≤ 10 ^ 9
unit_most places is = at_places (λ p. unit_of p ≤ 10 ^ 9) (omega arith) (omega arith) places is
