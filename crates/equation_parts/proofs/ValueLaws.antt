-- The tests of the code are those of the data values: a value is 0, or above 0, exactly where the numerator of its fraction is, and it is -1 exactly where the numerator is the negative of the denominator.
use Rattle.equation_parts.proofs.Common.{◌≡◌, ◌≢◌, ℕ, ◌^◌, inl, inr, ℤ, pos, neg_ℤ, ◌-ℤ◌, ◌*ℤ◌, Bool, true, false, not, nat_eq, eqb-true, refl, sym, ap, ◌∙◌, subst, arith, to_z, of_z, T, ◌≤ℤ◌, ◌<ℤ◌, int_lt, w128, eq-eqb, ints, InRange, Rational, lowest, ≤ℤ_or_<ℤ, *ℤ_cancel, nonzero_of_pos, back_in_range, InRange-neg_ℤ, lowest-cross, neg_ℤ-*ℤ, zero-+ℤ, *ℤ_comm, is_limit, is_not_zero, is_positive, no_limit}
use Rattle.std.specs.Ordering.{is_eq, is_gt, int_cmp, int_eq}
use Rattle.exact_num.proofs.OrderLaws.{int_cmp-less, int_cmp-equal, int_cmp-greater, lowest-sign}

-- ---- numbers that differ

alike : (a b : ℤ) → a ≡ b → not (int_eq a b) ≡ false
alike a b h = ap (λ o. not (is_eq o)) (int_cmp-equal a b h)

apart : (a b : ℤ) → a ≢ b → not (int_eq a b) ≡ true
apart a b h =
    elim (≤ℤ_or_<ℤ b a) [
      | inl from ↦
          elim (≤ℤ_or_<ℤ a b) [
            | inl to ↦ absurd (h (omega (arith, ints, from, to)))
            | inr above ↦ ap (λ o. not (is_eq o)) (int_cmp-greater a b above)
          ]
      | inr below ↦ ap (λ o. not (is_eq o)) (int_cmp-less a b below)
    ]

-- two numbers differ exactly where what is kept of them does
coded : (a b : ℤ) → InRange a → InRange b → not (nat_eq (of_z w128 a) (of_z w128 b)) ≡ not (int_eq a b)
coded a b h k =
    let m : ℕ = of_z w128 a in
    let n : ℕ = of_z w128 b in
    let Same : Bool → Type 0 = λ t. not t ≡ not (int_eq a b) in
    let equal : nat_eq m n ≡ true → Same true =
    λ e. sym (alike a b (sym (back_in_range a h) ∙ ap (λ i. to_z w128 i) (eqb-true m n e) ∙ back_in_range b k)) in
    let differ : nat_eq m n ≡ false → Same false =
    λ e. sym (apart a b (λ is. let back : nat_eq m n ≡ true = eq-eqb m n (ap (λ i. of_z w128 i) is) in cc (back, e))) in
    let cases : (t : Bool) → nat_eq m n ≡ t → Same t = λ t. elim t as (λ u. nat_eq m n ≡ u → Same u) [ true ↦ equal | false ↦ differ ] in
    cases (nat_eq m n) refl

-- ---- signs

-- a fraction compares with 0 as its value does
same_order : (z : ℤ) (x : Rational) → x ≡ lowest z (pos (10 ^ 9)) → int_cmp x.top (pos 0) ≡ int_cmp z (pos 0)
same_order z x e = ap (λ y. int_cmp y.top (pos 0)) e ∙ lowest-sign z (pos (10 ^ 9)) (omega (arith, ints))

-- a data value isn't 0 where the numerator of its fraction isn't
pub nonzero-coded : (z : ℤ) (x : Rational) → x ≡ lowest z (pos (10 ^ 9)) → InRange x.top → not (nat_eq (of_z w128 x.top) 0) ≡ is_not_zero z
nonzero-coded z x e h = coded x.top (pos 0) h (omega arith) ∙ ap (λ o. not (is_eq o)) (same_order z x e)

true_so : (t : Bool) → T t → t ≡ true
true_so true h = refl
true_so false h = absurd h

-- a test that fails isn't passed
false_so : (t : Bool) → (t ≡ true → ⊥) → t ≡ false
false_so true h = absurd (h refl)
false_so false h = refl

above : (z : ℤ) → pos 0 <ℤ z → int_lt (pos 0) z ≡ true
above z h = true_so (int_lt (pos 0) z) h.lt

at_most : (z : ℤ) → z ≤ℤ pos 0 → int_lt (pos 0) z ≡ false
at_most z h = false_so (int_lt (pos 0) z) (λ e. let from : pos 0 <ℤ z = record { lt = subst T (sym e) tt } in omega (arith, ints, from, h))

above-order : (z : ℤ) → int_lt (pos 0) z ≡ is_gt (int_cmp z (pos 0))
above-order z =
    elim (≤ℤ_or_<ℤ z (pos 0)) [
      | inl to ↦
          elim (≤ℤ_or_<ℤ (pos 0) z) [
            | inl from ↦ at_most z to ∙ sym (ap is_gt (int_cmp-equal z (pos 0) (omega (arith, ints, from, to))))
            | inr below ↦ at_most z to ∙ sym (ap is_gt (int_cmp-less z (pos 0) below))
          ]
      | inr more ↦ above z more ∙ sym (ap is_gt (int_cmp-greater z (pos 0) more))
    ]

-- a data value is above 0 where the numerator of its fraction is
pub positive-coded : (z : ℤ) (x : Rational) → x ≡ lowest z (pos (10 ^ 9)) → InRange x.top → int_lt (pos 0) (to_z w128 (of_z w128 x.top)) ≡ is_positive z
positive-coded z x e h =
    ap (int_lt (pos 0)) (back_in_range x.top h)
    ∙ above-order x.top
    ∙ ap is_gt (same_order z x e)
    ∙ sym (above-order z)

-- ---- limits

-- a number of billionths is -1 where the numerator is the negative of the denominator
minus_one : (top bottom z : ℤ) → pos 0 <ℤ bottom → (top *ℤ pos (10 ^ 9)) ≡ z *ℤ bottom → top ≡ neg_ℤ bottom → z ≡ no_limit
minus_one top bottom z h cross is =
    let product : (z *ℤ bottom) ≡ no_limit *ℤ bottom =
    sym cross ∙ ap (λ t. t *ℤ pos (10 ^ 9)) is ∙ neg_ℤ-*ℤ bottom (pos (10 ^ 9)) ∙ ap neg_ℤ (*ℤ_comm bottom (pos (10 ^ 9))) ∙ sym (neg_ℤ-*ℤ (pos (10 ^ 9)) bottom) in
    *ℤ_cancel z no_limit bottom (nonzero_of_pos bottom h) product

-- and nowhere else
of_minus_one : (top bottom z : ℤ) → (top *ℤ pos (10 ^ 9)) ≡ z *ℤ bottom → z ≡ no_limit → top ≡ neg_ℤ bottom
of_minus_one top bottom z cross is =
    let product : (top *ℤ pos (10 ^ 9)) ≡ neg_ℤ bottom *ℤ pos (10 ^ 9) =
    cross ∙ ap (λ t. t *ℤ bottom) is ∙ neg_ℤ-*ℤ (pos (10 ^ 9)) bottom ∙ ap neg_ℤ (*ℤ_comm (pos (10 ^ 9)) bottom) ∙ sym (neg_ℤ-*ℤ bottom (pos (10 ^ 9))) in
    *ℤ_cancel top (neg_ℤ bottom) (pos (10 ^ 9)) (nonzero_of_pos (pos (10 ^ 9)) (omega (arith, ints))) product

same_test : (top bottom z : ℤ) → pos 0 <ℤ bottom → (top *ℤ pos (10 ^ 9)) ≡ z *ℤ bottom → not (int_eq top (neg_ℤ bottom)) ≡ is_limit z
same_test top bottom z h cross =
    elim (≤ℤ_or_<ℤ z no_limit) [
      | inl to ↦
          elim (≤ℤ_or_<ℤ no_limit z) [
            | inl from ↦
                let is : z ≡ no_limit = omega (arith, ints, from, to) in alike top (neg_ℤ bottom) (of_minus_one top bottom z cross is) ∙ sym (alike z no_limit is)
            | inr below ↦
                apart top (neg_ℤ bottom) (λ is. let one : z ≡ no_limit = minus_one top bottom z h cross is in omega (arith, ints, one, below))
                ∙ sym (apart z no_limit (λ is. omega (arith, ints, is, below)))
          ]
      | inr above ↦
          apart top (neg_ℤ bottom) (λ is. let one : z ≡ no_limit = minus_one top bottom z h cross is in omega (arith, ints, one, above))
          ∙ sym (apart z no_limit (λ is. omega (arith, ints, is, above)))
    ]

-- the negative that the code makes
negated-coded : (b : ℤ) → InRange b → pos 0 -ℤ to_z w128 (of_z w128 b) ≡ neg_ℤ b
negated-coded b h = ap (λ k. pos 0 -ℤ k) (back_in_range b h) ∙ zero-+ℤ (neg_ℤ b)

pub limit-coded : (z : ℤ) (x : Rational) → x ≡ lowest z (pos (10 ^ 9)) → pos 0 <ℤ x.bottom → InRange x.top → InRange x.bottom
    → not (nat_eq (of_z w128 x.top) (of_z w128 (pos 0 -ℤ to_z w128 (of_z w128 x.bottom)))) ≡ is_limit z
limit-coded z x e positive h k =
    let cross : (x.top *ℤ pos (10 ^ 9)) ≡ z *ℤ x.bottom =
    ap (λ y. y.top *ℤ pos (10 ^ 9)) e ∙ lowest-cross z (pos (10 ^ 9)) (nonzero_of_pos (pos (10 ^ 9)) (omega (arith, ints))) ∙ ap (λ y. z *ℤ y.bottom) (sym e) in
    ap (λ b. not (nat_eq (of_z w128 x.top) (of_z w128 b))) (negated-coded x.bottom k)
    ∙ coded x.top (neg_ℤ x.bottom) h (InRange-neg_ℤ x.bottom k)
    ∙ same_test x.top x.bottom z positive cross
