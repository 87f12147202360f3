-- What rounding downward keeps.
use Rattle.std.proofs.Common.{◌≡◌, ◌≢◌, ℤ, pos, negsuc, neg_ℤ, ◌+ℤ◌, ◌*ℤ◌, ◌<◌, sym, ap, ◌∙◌, subst, inl, inr, arith}
use Rattle.std.specs.Prelude.{◌<ℤ◌, ◌≤ℤ◌, int_div, int_rem, unsigned_abs}
use Rattle.std.specs.declared.cmp.Ordering.{Ordering}
use Rattle.std.specs.declared.cmp.Ordering.TheVariants.{Greater}
use Rattle.std.proofs.lemmas.Int.{ints, quot-rem, rem_below}
use Rattle.exact_num.specs.Rational.{Rational, IsLowest, whole, times, divided, order_of}
use Rattle.exact_num.proofs.ArithmeticLaws.{divided-times}
use Rattle.exact_num.proofs.Integers.{≤ℤ_or_<ℤ, nonzero_of_pos}
use Rattle.exact_num.proofs.OrderLaws.{int_cmp-less, int_cmp-equal, order_of-times}
use Rattle.exact_num.proofs.RationalLaws.{divided-IsLowest}
use Rattle.exact_num.proofs.Ring.{*ℤ-one, one-*ℤ, neg_ℤ-*ℤ, +ℤ-*ℤ}
use Rattle.presolved_program.specs.Roundings.{IsAtMost}

-- a quotient of n by p is at most y where n is at most y times p
pub over-at_most : (x y p : Rational) → IsLowest x → IsLowest y → IsLowest p → pos 0 <ℤ p.top → IsAtMost x (times y p) → IsAtMost (divided x p) y
over-at_most x y p hx hy hp positive h =
    let nonzero : p.top ≢ pos 0 = nonzero_of_pos p.top positive in
    subst (λ o. o ≢ Greater) (order_of-times (divided x p) y p (divided-IsLowest x p hx hp nonzero) hy hp positive)
    (subst (λ z. order_of z (times y p) ≢ Greater) (sym (divided-times x p hx hp nonzero)) h)

-- a product of x and p is at most y where x is at most y over p
pub by-at_most : (x y p : Rational) → IsLowest x → IsLowest y → IsLowest p → pos 0 <ℤ p.top → IsAtMost x (divided y p) → IsAtMost (times x p) y
by-at_most x y p hx hy hp positive h =
    let nonzero : p.top ≢ pos 0 = nonzero_of_pos p.top positive in
    subst (λ z. order_of (times x p) z ≢ Greater) (divided-times y p hy hp nonzero)
    (subst (λ o. o ≢ Greater) (sym (order_of-times x (divided y p) p hx (divided-IsLowest y p hy hp nonzero) hp positive)) h)

-- a whole number is at most y where it times the denominator is at most the numerator
pub whole-at_most : (n : ℤ) (y : Rational) → (n *ℤ y.bottom) ≤ℤ y.top → IsAtMost (whole n) y
unfolding order_of
whole-at_most n y h =
    let P : Ordering → Type 0 = λ o. o ≢ Greater in
    let bound : y.top *ℤ pos 1 ≡ y.top = *ℤ-one y.top in
    elim (≤ℤ_or_<ℤ y.top (n *ℤ y.bottom)) [
      | inl le ↦
          let equal : n *ℤ y.bottom ≡ y.top = omega (arith, ints) in
          subst P (sym (int_cmp-equal (n *ℤ y.bottom) (y.top *ℤ pos 1) (equal ∙ sym bound))) (λ e. cc)
      | inr lt ↦
          let less : (n *ℤ y.bottom) <ℤ (y.top *ℤ pos 1) = subst (λ z. (n *ℤ y.bottom) <ℤ z) (sym bound) lt in
          subst P (sym (int_cmp-less (n *ℤ y.bottom) (y.top *ℤ pos 1) less)) (λ e. cc)
    ]

-- the quotient that is cut off is at most the number, where the rest isn't below 0
pub cut-at_most : (n d : ℤ) → pos 0 ≤ℤ int_rem n d → (int_div n d *ℤ d) ≤ℤ n
cut-at_most n d h = omega (arith, ints, quot-rem n d)

-- one less is at most the number in any case
pub below_cut-at_most : (n d : ℤ) → pos 0 <ℤ d → ((int_div n d +ℤ negsuc 0) *ℤ d) ≤ℤ n
below_cut-at_most n d positive =
    let rest : unsigned_abs (int_rem n d) < unsigned_abs d = rem_below n d (omega (arith, ints)) in
    let one : negsuc 0 *ℤ d ≡ neg_ℤ d = neg_ℤ-*ℤ (pos 1) d ∙ ap neg_ℤ (one-*ℤ d) in
    let apart : (int_div n d +ℤ negsuc 0) *ℤ d ≡ int_div n d *ℤ d +ℤ neg_ℤ d = +ℤ-*ℤ (int_div n d) (negsuc 0) d ∙ ap (λ z. int_div n d *ℤ d +ℤ z) one in
    omega (arith, ints, quot-rem n d, rest, apart)
