-- When a cost is within the gap, and what is formed to see it.
use Rattle.certificate_checker.proofs.Common.{◌≡◌, ℕ, ℤ, pos, ◌-ℤ◌, ◌*ℤ◌, Bool, true, false, ◌&&◌, List, [], ◌∷◌, ◌++◌, Some, None, refl, sym, ap, ap₂, ◌∙◌, subst, arith, if◌then◌else◌, int_lt, unsigned_abs, ◌<ℤ◌, ◌≤ℤ◌, ◌↔◌, le_z, is_le, int_cmp, ints, difference_formed, product_formed, all_fit, Rational, lowest, minus, times, order_of, *ℤ_pos, *ℤ_nonnegative, *ℤ-≤ℤ, products, zero-*ℤ, all_fit-append, all_fit-nil, SumGap, IsOver, IsOver-ratio, IsOver-times, IsOver-own, IsOver-multiplied, Verdict, Condition, AllPass, FailsFor, IsWideAt, first_failing, Within, part_of, gap_formed, gap_condition, absolute, Reason, gap_passed, IsVerdict, OnYes, OnNo}
use Rattle.certificate_checker.specs.declared.verdicts.Verdict.TheVariants.{Yes, No, Width}
use Rattle.certificate_checker.proofs.ConditionLaws.{Passes-alone}
use Rattle.certificate_checker.proofs.FailingLaws.{first_holds}
use Rattle.certificate_checker.proofs.OverLaws.{over_order, over_nonpositive, most_from, most_to}
use Rattle.certificate_checker.proofs.ValueChecks.{formed_fit, formed_wide, fails_plainly, stops_at}

-- ---- what it means

module _ (cost bound : Rational) (ppm : ℕ) (paid : pos 0 <ℤ cost.bottom) (bounded : pos 0 <ℤ bound.bottom) where
  abbrev apart : ℤ
  apart = (cost.top *ℤ bound.bottom) -ℤ (bound.top *ℤ cost.bottom)

  abbrev size : ℤ
  size = pos (unsigned_abs bound.top)

  abbrev common : ℤ
  common = pos 1000000 *ℤ (cost.bottom *ℤ bound.bottom)

  million_positive : pos 0 <ℤ pos 1000000
  million_positive = omega (arith, ints)

  gap-over_both : IsOver (cost.bottom *ℤ bound.bottom) (minus cost bound) apart
  unfolding minus
  gap-over_both = IsOver-ratio apart (cost.bottom *ℤ bound.bottom) (*ℤ_pos cost.bottom bound.bottom paid bounded)

  gap-over : IsOver common (minus cost bound) (pos 1000000 *ℤ apart)
  gap-over = IsOver-multiplied (pos 1000000) (cost.bottom *ℤ bound.bottom) (minus cost bound) apart gap-over_both

  same_common : cost.bottom *ℤ (bound.bottom *ℤ pos 1000000) ≡ common
  same_common = simp products

  part-over : IsOver common (part_of ppm bound) (cost.bottom *ℤ (size *ℤ pos ppm))
  part-over =
      subst (λ q. IsOver q (part_of ppm bound) (cost.bottom *ℤ (size *ℤ pos ppm))) same_common
      (IsOver-multiplied cost.bottom (bound.bottom *ℤ pos 1000000) (part_of ppm bound) (size *ℤ pos ppm)
      (IsOver-times bound.bottom (pos 1000000) (absolute bound) (lowest (pos ppm) (pos 1000000)) size (pos ppm) (IsOver-own (absolute bound) bounded) (IsOver-ratio (pos ppm) (pos 1000000) million_positive)))

  common_positive : pos 0 <ℤ common
  common_positive = *ℤ_pos (pos 1000000) (cost.bottom *ℤ bound.bottom) million_positive (*ℤ_pos cost.bottom bound.bottom paid bounded)

  left_side : pos 1000000 *ℤ apart ≡ apart *ℤ pos 1000000
  left_side = simp products

  right_side : cost.bottom *ℤ (size *ℤ pos ppm) ≡ (pos ppm *ℤ size) *ℤ cost.bottom
  right_side = simp products

  gap_order : order_of (minus cost bound) (part_of ppm bound) ≡ int_cmp (apart *ℤ pos 1000000) ((pos ppm *ℤ size) *ℤ cost.bottom)
  gap_order =
      over_order common (minus cost bound) (part_of ppm bound) (pos 1000000 *ℤ apart) (cost.bottom *ℤ (size *ℤ pos ppm)) common_positive gap-over part-over
      ∙ ap₂ int_cmp left_side right_side

  pub within_from : (gap_condition cost bound ppm).holds ≡ true → Within cost bound ppm
  within_from h = most_from (apart *ℤ pos 1000000) ((pos ppm *ℤ size) *ℤ cost.bottom) (sym (ap is_le gap_order) ∙ h)

  pub within_to : Within cost bound ppm → (gap_condition cost bound ppm).holds ≡ true
  within_to h = ap is_le gap_order ∙ most_to (apart *ℤ pos 1000000) ((pos ppm *ℤ size) *ℤ cost.bottom) h

  -- a cost that isn't above the bound is
  pub within_below : (minus cost bound).top ≤ℤ pos 0 → Within cost bound ppm
  within_below h =
      let below : apart ≤ℤ pos 0 = (over_nonpositive (cost.bottom *ℤ bound.bottom) (minus cost bound) apart (*ℤ_pos cost.bottom bound.bottom paid bounded) gap-over_both).0 h in
      let left : (apart *ℤ pos 1000000) ≤ℤ (pos 0 *ℤ pos 1000000) = *ℤ-≤ℤ apart (pos 0) (pos 1000000) (omega (arith, ints)) below in
      let none : pos 0 *ℤ pos 1000000 ≡ pos 0 = zero-*ℤ (pos 1000000) in
      let right : pos 0 ≤ℤ ((pos ppm *ℤ size) *ℤ cost.bottom) = *ℤ_nonnegative (pos ppm *ℤ size) cost.bottom (*ℤ_nonnegative (pos ppm) size (omega (arith, ints)) (omega (arith, ints))) (omega (arith, ints)) in
      omega (arith, ints)

-- ---- what is formed

and_false : (a : Bool) → (a && false) ≡ false
and_false true = refl
and_false false = refl

both_fit : (a b : Bool) → a ≡ true → b ≡ true → (a && b) ≡ true
both_fit true b h k = k
both_fit false b h k = absurd (cc h)

abbrev last_formed : Bool → Rational → ℕ → List ℤ
last_formed above bound ppm = if above then product_formed (absolute bound) (lowest (pos ppm) (pos 1000000)) else []

gap_parts : (cost bound : Rational) (ppm : ℕ) → all_fit (gap_formed cost bound ppm) ≡ (all_fit (difference_formed cost bound) && all_fit (last_formed (int_lt (pos 0) (minus cost bound).top) bound ppm))
gap_parts cost bound ppm = all_fit-append (difference_formed cost bound) (last_formed (int_lt (pos 0) (minus cost bound).top) bound ppm)

pub gap_wide_at_once : (cost bound : Rational) (ppm : ℕ) → all_fit (difference_formed cost bound) ≡ false → IsWideAt (gap_condition cost bound ppm ∷ []) SumGap
gap_wide_at_once cost bound ppm wide =
    stops_at (gap_condition cost bound ppm) SumGap
    (formed_wide SumGap (gap_formed cost bound ppm) (gap_parts cost bound ppm ∙ ap (λ b. b && all_fit (last_formed (int_lt (pos 0) (minus cost bound).top) bound ppm)) wide))

pub gap_wide_at_last : (cost bound : Rational) (ppm : ℕ) → int_lt (pos 0) (minus cost bound).top ≡ true → all_fit (product_formed (absolute bound) (lowest (pos ppm) (pos 1000000))) ≡ false
    → IsWideAt (gap_condition cost bound ppm ∷ []) SumGap
gap_wide_at_last cost bound ppm above wide =
    stops_at (gap_condition cost bound ppm) SumGap
    (formed_wide SumGap (gap_formed cost bound ppm)
    (gap_parts cost bound ppm ∙ ap (λ b. all_fit (difference_formed cost bound) && all_fit (last_formed b bound ppm)) above ∙ ap (λ b. all_fit (difference_formed cost bound) && b) wide ∙ and_false (all_fit (difference_formed cost bound))))

below_fits : (cost bound : Rational) (ppm : ℕ) → all_fit (difference_formed cost bound) ≡ true → int_lt (pos 0) (minus cost bound).top ≡ false → all_fit (gap_formed cost bound ppm) ≡ true
below_fits cost bound ppm fit below =
    gap_parts cost bound ppm
    ∙ both_fit (all_fit (difference_formed cost bound)) (all_fit (last_formed (int_lt (pos 0) (minus cost bound).top) bound ppm)) fit (ap (λ b. all_fit (last_formed b bound ppm)) below ∙ all_fit-nil)

above_fits : (cost bound : Rational) (ppm : ℕ) → all_fit (difference_formed cost bound) ≡ true → int_lt (pos 0) (minus cost bound).top ≡ true
    → all_fit (product_formed (absolute bound) (lowest (pos ppm) (pos 1000000))) ≡ true → all_fit (gap_formed cost bound ppm) ≡ true
above_fits cost bound ppm fit above fits =
    gap_parts cost bound ppm
    ∙ both_fit (all_fit (difference_formed cost bound)) (all_fit (last_formed (int_lt (pos 0) (minus cost bound).top) bound ppm)) fit (ap (λ b. all_fit (last_formed b bound ppm)) above ∙ fits)

pub gap_passes_below : (cost bound : Rational) (ppm : ℕ) → pos 0 <ℤ cost.bottom → pos 0 <ℤ bound.bottom → all_fit (difference_formed cost bound) ≡ true → (minus cost bound).top ≤ℤ pos 0 → int_lt (pos 0) (minus cost bound).top ≡ false
    → AllPass (gap_condition cost bound ppm ∷ [])
gap_passes_below cost bound ppm paid bounded fit below test = Passes-alone (gap_condition cost bound ppm) (record {
  fits = formed_fit SumGap (gap_formed cost bound ppm) (below_fits cost bound ppm fit test);
  is = within_to cost bound ppm paid bounded (within_below cost bound ppm paid bounded below);
})

pub gap_passes_above : (cost bound : Rational) (ppm : ℕ) → all_fit (difference_formed cost bound) ≡ true → int_lt (pos 0) (minus cost bound).top ≡ true
    → all_fit (product_formed (absolute bound) (lowest (pos ppm) (pos 1000000))) ≡ true → is_le (order_of (minus cost bound) (part_of ppm bound)) ≡ true → AllPass (gap_condition cost bound ppm ∷ [])
gap_passes_above cost bound ppm fit above fits holds = Passes-alone (gap_condition cost bound ppm) (record {
  fits = formed_fit SumGap (gap_formed cost bound ppm) (above_fits cost bound ppm fit above fits);
  is = holds;
})

pub gap_fails : (cost bound : Rational) (ppm : ℕ) (gap : Rational) → gap ≡ minus cost bound → all_fit (difference_formed cost bound) ≡ true → int_lt (pos 0) (minus cost bound).top ≡ true
    → all_fit (product_formed (absolute bound) (lowest (pos ppm) (pos 1000000))) ≡ true → is_le (order_of (minus cost bound) (part_of ppm bound)) ≡ false → FailsFor (gap_condition cost bound ppm ∷ []) (gap_passed gap)
gap_fails cost bound ppm gap is fit above fits fails =
    subst (λ r. FailsFor (gap_condition cost bound ppm ∷ []) (gap_passed r)) (sym is)
    (fails_plainly (gap_condition cost bound ppm) refl (formed_fit SumGap (gap_formed cost bound ppm) (above_fits cost bound ppm fit above fits)) fails)

-- ---- what the answer means

pub gap_yes : (cost bound : Rational) (ppm : ℕ) → pos 0 <ℤ cost.bottom → pos 0 <ℤ bound.bottom → (v : Verdict) → IsVerdict (gap_condition cost bound ppm ∷ []) (minus cost bound) v → OnYes v (Within cost bound ppm)
gap_yes cost bound ppm paid bounded (Yes gap) h = within_from cost bound ppm paid bounded (first_holds (gap_condition cost bound ppm) [] h.0.hold)
gap_yes cost bound ppm paid bounded (No rejection) h = tt
gap_yes cost bound ppm paid bounded (Width place) h = tt

fails_so : (c : Condition) (r : Reason) → first_failing (c ∷ []) ≡ Some r → c.holds ≡ true → ⊥
fails_so c r k h = let e : None ≡ Some r = sym (ap (λ b. if b then None else Some c.reason) h) ∙ k in cc

pub gap_no : (cost bound : Rational) (ppm : ℕ) → pos 0 <ℤ cost.bottom → pos 0 <ℤ bound.bottom → (v : Verdict) → IsVerdict (gap_condition cost bound ppm ∷ []) (minus cost bound) v → OnNo v (¬ (Within cost bound ppm))
gap_no cost bound ppm paid bounded (Yes gap) h = tt
gap_no cost bound ppm paid bounded (No rejection) h = λ within. fails_so (gap_condition cost bound ppm) _ h.fails (within_to cost bound ppm paid bounded within)
gap_no cost bound ppm paid bounded (Width place) h = tt

-- ---- what the code's tests say

pub at_most : (z : ℤ) → le_z z (pos 0) ≡ true → z ≤ℤ pos 0
at_most z h = grind (arith, ints)

pub not_above : (z : ℤ) → le_z z (pos 0) ≡ true → int_lt (pos 0) z ≡ false
not_above z h = grind (arith, ints)

pub above : (z : ℤ) → le_z z (pos 0) ≡ false → int_lt (pos 0) z ≡ true
above z h = grind (arith, ints)
