-- The gap and what is allowed as they were formed.
use Rattle.certificate_checker.proofs.Common.{◌≡◌, ◌<◌, ◌^◌, ℕ, ℤ, pos, true, false, sym, ap, ap₂, ◌∙◌, subst, arith, to_z, of_z, ◌≤ℤ◌, int_lt, w128, le_z, is_le, product_formed, InRange, all_fit, Rational, lowest, minus, times, order_of, value_of, back_in_range, part_of, absolute}
use Rattle.certificate_checker.proofs.GapLaws.{gap_wide_at_once, gap_wide_at_last, gap_passes_below, gap_passes_above, gap_fails, at_most, not_above, above}
use Rattle.certificate_checker.proofs.gaps.gap_of.Goals as goal

abbrev read : ℤ → ℤ
read z = to_z w128 (of_z w128 z)

fits_wide : (n : ℕ) → n < 2 ^ 32 → InRange (pos n)
fits_wide n h = omega arith

pub returns-in_default-clause-halted : goal.returns-in_default-clause-halted
returns-in_default-clause-halted c = gap_wide_at_once (value_of c.args.cost) (value_of c.args.bound) c.args.ppm (sym c.in_default.ensures.refused)

pub returns-then-gap-le0-clause-passed : goal.returns-then-gap-le0-clause-passed
returns-then-gap-le0-clause-passed c =
    let gap = c.in-Ok.gap in
    let test : le_z gap.num (pos 0) ≡ true = ap (λ n. le_z n (pos 0)) (sym (back_in_range gap.num gap.num_fits)) ∙ c.if-gap-le0.true in
    gap_passes_below (value_of c.args.cost) (value_of c.args.bound) c.args.ppm c.args.cost.positive c.args.bound.positive (sym c.in-Ok.ensures.refused)
    (subst (λ (r : Rational). r.top ≤ℤ pos 0) c.in-Ok.ensures.value (at_most gap.num test))
    (sym (ap (λ (r : Rational). int_lt (pos 0) r.top) c.in-Ok.ensures.value) ∙ not_above gap.num test)

pub returns-in_default-mul-clause-halted : goal.returns-in_default-mul-clause-halted
returns-in_default-mul-clause-halted c =
    let gap = c.in-Ok.gap in
    let test : le_z gap.num (pos 0) ≡ false = ap (λ n. le_z n (pos 0)) (sym (back_in_range gap.num gap.num_fits)) ∙ c.if-gap-le0.false in
    let number : read c.from.result ≡ pos c.args.ppm = ap read c.from.ensures ∙ back_in_range (pos c.args.ppm) (fits_wide c.args.ppm c.ranges.ppm.fits) in
    let part : value_of c.ratio.result ≡ lowest (pos c.args.ppm) (pos 1000000) = c.ratio.ensures ∙ ap (λ n. lowest n (pos 1000000)) number in
    gap_wide_at_last (value_of c.args.cost) (value_of c.args.bound) c.args.ppm
    (sym (ap (λ (r : Rational). int_lt (pos 0) r.top) c.in-Ok.ensures.value) ∙ above gap.num test)
    (ap₂ (λ a b. all_fit (product_formed a b)) (sym c.absolute.ensures) (sym part) ∙ sym c.in_default-mul.ensures.refused)

pub returns-then-is_le-clause-passed : goal.returns-then-is_le-clause-passed
returns-then-is_le-clause-passed c =
    let gap = c.in-Ok.gap in
    let test : le_z gap.num (pos 0) ≡ false = ap (λ n. le_z n (pos 0)) (sym (back_in_range gap.num gap.num_fits)) ∙ c.if-gap-le0.false in
    let number : read c.from.result ≡ pos c.args.ppm = ap read c.from.ensures ∙ back_in_range (pos c.args.ppm) (fits_wide c.args.ppm c.ranges.ppm.fits) in
    let part : value_of c.ratio.result ≡ lowest (pos c.args.ppm) (pos 1000000) = c.ratio.ensures ∙ ap (λ n. lowest n (pos 1000000)) number in
    let allowed : value_of c.in-Ok-mul.allowed ≡ part_of c.args.ppm (value_of c.args.bound) = c.in-Ok-mul.ensures.value ∙ ap₂ times c.absolute.ensures part in
    gap_passes_above (value_of c.args.cost) (value_of c.args.bound) c.args.ppm (sym c.in-Ok.ensures.refused)
    (sym (ap (λ (r : Rational). int_lt (pos 0) r.top) c.in-Ok.ensures.value) ∙ above gap.num test)
    (ap₂ (λ a b. all_fit (product_formed a b)) (sym c.absolute.ensures) (sym part) ∙ sym c.in-Ok-mul.ensures.refused)
    (sym (c.is_le.ensures ∙ ap is_le (c.cmp_frac.ensures ∙ ap₂ order_of c.in-Ok.ensures.value allowed)) ∙ c.if-is_le.true)

pub returns-else-is_le-clause-halted : goal.returns-else-is_le-clause-halted
returns-else-is_le-clause-halted c =
    let gap = c.in-Ok.gap in
    let test : le_z gap.num (pos 0) ≡ false = ap (λ n. le_z n (pos 0)) (sym (back_in_range gap.num gap.num_fits)) ∙ c.if-gap-le0.false in
    let number : read c.from.result ≡ pos c.args.ppm = ap read c.from.ensures ∙ back_in_range (pos c.args.ppm) (fits_wide c.args.ppm c.ranges.ppm.fits) in
    let part : value_of c.ratio.result ≡ lowest (pos c.args.ppm) (pos 1000000) = c.ratio.ensures ∙ ap (λ n. lowest n (pos 1000000)) number in
    let allowed : value_of c.in-Ok-mul.allowed ≡ part_of c.args.ppm (value_of c.args.bound) = c.in-Ok-mul.ensures.value ∙ ap₂ times c.absolute.ensures part in
    gap_fails (value_of c.args.cost) (value_of c.args.bound) c.args.ppm (value_of gap) c.in-Ok.ensures.value (sym c.in-Ok.ensures.refused)
    (sym (ap (λ (r : Rational). int_lt (pos 0) r.top) c.in-Ok.ensures.value) ∙ above gap.num test)
    (ap₂ (λ a b. all_fit (product_formed a b)) (sym c.absolute.ensures) (sym part) ∙ sym c.in-Ok-mul.ensures.refused)
    (sym (c.is_le.ensures ∙ ap is_le (c.cmp_frac.ensures ∙ ap₂ order_of c.in-Ok.ensures.value allowed)) ∙ c.if-is_le.false)
