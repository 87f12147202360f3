-- The bits of the bytes that may stand in a bare symbol.
use Rattle.mathprog_data.proofs.Common.{◌≡◌, ℕ, zero, suc, ◌<◌, ◌≤◌, ◌+◌, ◌-◌, ◌/◌, ◌%◌, ◌^◌, Bool, true, false, ◌&&◌, nat_eq, refl, sym, ap, subst, ◌∙◌, inl, inr, arith, cases_lt, is_symbol_byte}

same : Bool → Bool → Bool
same true b = b
same false true = false
same false false = true

from-same : (a b : Bool) → same a b ≡ true → a ≡ b
unfolding same
from-same true true h = refl
from-same true false h = absurd (cc h)
from-same false true h = absurd (cc h)
from-same false false h = refl

-- whether the bits are right of as many bytes from this one on
are_right : ℕ → ℕ → ℕ → Bool
are_right bits from zero = true
are_right bits from (suc n) = same (nat_eq (bits / 2 ^ (n % 64) % 2) 1) (is_symbol_byte (from + n)) && are_right bits from n

and-left : (a b : Bool) → (a && b) ≡ true → a ≡ true
and-left true b h = refl
and-left false b h = absurd (cc h)

and-right : (a b : Bool) → (a && b) ≡ true → b ≡ true
and-right true b h = h
and-right false b h = absurd (cc h)

right-at : (bits from n i : ℕ) → are_right bits from n ≡ true → i < n → nat_eq (bits / 2 ^ (i % 64) % 2) 1 ≡ is_symbol_byte (from + i)
unfolding are_right
right-at bits from zero i all below = absurd (omega (arith, below))
right-at bits from (suc n) i all below =
    elim (cases_lt i n) [
      | inl less ↦ right-at bits from n i (and-right (same (nat_eq (bits / 2 ^ (n % 64) % 2) 1) (is_symbol_byte (from + n))) (are_right bits from n) all) less
      | inr last ↦ (let is : n ≡ i = omega (arith, last, below) in subst (λ k. nat_eq (bits / 2 ^ (k % 64) % 2) 1 ≡ is_symbol_byte (from + k)) is (from-same (nat_eq (bits / 2 ^ (n % 64) % 2) 1) (is_symbol_byte (from + n)) (and-left (same (nat_eq (bits / 2 ^ (n % 64) % 2) 1) (is_symbol_byte (from + n))) (are_right bits from n) all)))
    ]

low_right : are_right 288063250384289792 0 64 ≡ true
unfolding are_right same
low_right = refl

high_right : are_right 576460745995190270 64 64 ≡ true
unfolding are_right same
high_right = refl

pub low_bit : (byte : ℕ) → byte < 64 → nat_eq (288063250384289792 / 2 ^ (byte % 64) % 2) 1 ≡ is_symbol_byte byte
low_bit byte below = right-at 288063250384289792 0 64 byte low_right below ∙ (let bare : 0 + byte ≡ byte = omega arith in ap is_symbol_byte bare)

pub high_bit : (byte : ℕ) → 64 ≤ byte → byte < 128 → nat_eq (576460745995190270 / 2 ^ (byte % 64) % 2) 1 ≡ is_symbol_byte byte
high_bit byte low high =
    let rest : 64 + (byte - 64) ≡ byte = omega (arith, low) in
    let bit : (byte - 64) % 64 ≡ byte % 64 = omega (arith, low, high) in
    sym (ap (λ k. nat_eq (576460745995190270 / 2 ^ k % 2) 1) bit)
    ∙ right-at 576460745995190270 64 64 (byte - 64) high_right (omega (arith, low, high))
    ∙ ap is_symbol_byte rest
