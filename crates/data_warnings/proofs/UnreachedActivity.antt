-- Where a least activity is above what the greatest capacity can do, there is no plan.
use Rattle.data_warnings.proofs.Common.{◌≡◌, ℕ, zero, suc, ◌+◌, ◌*◌, ◌/◌, ◌%◌, ◌^◌, ◌<◌, ◌≤◌, ℤ, pos, ◌+ℤ◌, ◌*ℤ◌, ◌≤ℤ◌, ◌<ℤ◌, Bool, true, false, not, ◌||◌, Option, Some, None, refl, ap, ap₂, sym, ◌∙◌, subst, arith, ltb-true, list_any, range_with_len, mod-add-div', mod-lt, mul_comm, mul-le-mul_right, mul_right_comm, ints, ≤ℤ-*ℤ, *ℤ-≤ℤ, ≤ℤ_cancel, pos-unsigned_abs, *ℤ_assoc, products, Data, Var, CAB1, TCC1, AAC1, AAC3, at_rty, scale_of, sum_over, capacity_factor, year_split, Feasible, count_of, timeslices, rate_of_total_activity, total_capacity_annual, billion, WideSlice, is_so, is_so_somewhere, is_within, effort, sum_of, is_above_zero, whole}
use Rattle.std.specs.Prelude.{int_le, ◌&&◌, unsigned_abs, if◌then◌else◌}
use Rattle.model_sets.specs.Names as sets
use Rattle.data_warnings.specs.declared.sums.Parts.TheVariants.{Effort}
use Rattle.data_warnings.specs.Reach.{activity_unit, availability_of, from_both, greatest_capacity, is_above_both, is_above_reach, is_unreachable, least_activity, size_within, up, usual_effort, usual_most}
use Rattle.data_warnings.proofs.CrossedLimits.{both, le_of, limit_test, lt_of, positive_test, some}
use Rattle.data_warnings.proofs.MetEquations.{In, index-rty, met}

-- ---- taking the test apart

size-is : (most v : ℤ) (n : ℕ) → size_within most v ≡ Some n → v ≡ pos n
size-is most v n h = cases (is_within most v) refl h
  where
    cases : (b : Bool) → is_within most v ≡ b → (if b then Some (unsigned_abs v) else None) ≡ Some n → v ≡ pos n
    cases true is h =
        let same : unsigned_abs v ≡ n = cc h in
        let tests = both (int_le (pos 0) v) (int_le v most) is in
        sym (pos-unsigned_abs v (le_of (pos 0) v tests.0)) ∙ ap (λ k. pos k) same
    cases false is h = absurd (cc h)

record AreBoth (a b : Option ℕ) (f : ℕ → ℕ → ℕ) (n : ℕ) : Type 0 where
  one : ℕ
  other : ℕ
  first : a ≡ Some one
  second : b ≡ Some other
  made : f one other ≡ n

from-both : (a b : Option ℕ) (f : ℕ → ℕ → ℕ) (n : ℕ) → from_both a b f ≡ Some n → AreBoth a b f n
from-both None b f n h = absurd (cc h)
from-both (Some one) None f n h = absurd (cc h)
from-both (Some one) (Some other) f n h = record { one = one; other = other; first = refl; second = refl; made = cc h }

record IsAbove (a b : Option ℕ) (n : ℕ) : Type 0 where
  one : ℕ
  other : ℕ
  first : a ≡ Some one
  second : b ≡ Some other
  less : other * one < n

above-both : (a b : Option ℕ) (n : ℕ) → is_above_both a b n ≡ true → IsAbove a b n
above-both None b n h = absurd (cc h)
above-both (Some one) None n h = absurd (cc h)
above-both (Some one) (Some other) n h = record { one = one; other = other; first = refl; second = refl; less = ltb-true (other * one) n h }

record IsEffort (wide : Bool) (inner : Option ℕ) (n : ℕ) : Type 0 where
  narrow : wide ≡ false
  size : inner ≡ Some n

effort-parts : (wide : Bool) (inner : Option ℕ) (n : ℕ) → (if wide then None else inner) ≡ Some n → IsEffort wide inner n
effort-parts true inner n h = absurd (cc h)
effort-parts false inner n h = record { narrow = refl; size = h }

-- ---- sums

off : (a : Bool) → not a ≡ false → a ≡ true
off true h = refl
off false h = absurd (cc h)

or_neither : (b c : Bool) → (b || c) ≡ false → (b ≡ false) × (c ≡ false)
or_neither false false h = (refl, refl)
or_neither false true h = absurd (cc h)
or_neither true c h = absurd (cc h)

-- two sums whose summands agree where a test fails, by a test that no position passes
sum-same : (P : ℕ → Bool) (f g : ℕ → ℤ) (a n : ℕ) → list_any P (range_with_len a n) ≡ false → ((i : ℕ) → P i ≡ false → f i ≡ g i)
    → sum_over (range_with_len a n) f ≡ sum_over (range_with_len a n) g
sum-same P f g a zero h same = refl
sum-same P f g a (suc n) h same =
    let parts = or_neither (P a) (list_any P (range_with_len (a + 1) n)) h in ap₂ (λ u v. u +ℤ v) (same a parts.0) (sum-same P f g (a + 1) n parts.1 same)

-- ---- numbers

up-law : (n : ℕ) → n ≤ up n * billion
up-law n =
    let parts : (n + 999999999) % billion + (n + 999999999) / billion * billion ≡ n + 999999999 = mod-add-div' (n + 999999999) billion in
    let small : (n + 999999999) % billion < billion = mod-lt (n + 999999999) (omega arith) in
    omega (arith, parts, small)

swap : (a b c : ℕ) → a * b * c ≡ a * c * b
swap a b c = mul_right_comm a b c

-- what is rounded up is no less than the product
step : (n w v b m : ℕ) → n ≤ w * b → w * v ≤ m * b → n * v ≤ m * b * b
step n w v b m first second =
    let one : n * v ≤ w * b * v = mul-le-mul_right v first in
    let two : w * v * b ≤ m * b * b = mul-le-mul_right b second in
    let same = swap w b v in
    omega (arith, one, two, same)

rounded : (e v u a : ℕ) → e * v * u * a ≤ up (up (up e * v) * u) * a * (billion * billion * billion)
rounded e v u a =
    let p = up (up e * v) in
    let w = up (p * u) in
    let inner : e * v ≤ p * billion * billion = step e (up e) v billion p (up-law e) (up-law (up e * v)) in
    let outer : e * v * u ≤ p * billion * billion * u = mul-le-mul_right u inner in
    let turned = swap p (billion * billion) u in
    let up_once : p * u ≤ w * billion = up-law (p * u) in
    let thrice : e * v * u ≤ w * (billion * billion * billion) = omega (arith, outer, turned, up_once) in
    let all : e * v * u * a ≤ w * (billion * billion * billion) * a = mul-le-mul_right a thrice in
    let last = swap w (billion * billion * billion) a in
    omega (arith, all, last)

-- a plan's activity isn't above what its capacity can do
reached : (s s3 least kz capacity qz act_sum x : ℤ) → pos 0 <ℤ qz → pos 0 ≤ℤ s → pos 0 ≤ℤ s3 → pos 0 ≤ℤ kz
    → (least *ℤ qz) ≤ℤ act_sum → (s3 *ℤ act_sum) ≤ℤ (x *ℤ kz) → (s *ℤ x) ≤ℤ (capacity *ℤ qz) → (s *ℤ s3 *ℤ least) ≤ℤ (capacity *ℤ kz)
reached s s3 least kz capacity qz act_sum x above s_low s3_low k_low asked within limited =
    let one = ≤ℤ-*ℤ (least *ℤ qz) act_sum s3 s3_low asked in
    let two : (s3 *ℤ (least *ℤ qz)) ≤ℤ (x *ℤ kz) = omega (arith, ints, one, within) in
    let three = ≤ℤ-*ℤ (s3 *ℤ (least *ℤ qz)) (x *ℤ kz) s s_low two in
    let four = *ℤ-≤ℤ (s *ℤ x) (capacity *ℤ qz) kz k_low limited in
    let turn = *ℤ_assoc s x kz in
    let five : (s *ℤ (s3 *ℤ (least *ℤ qz))) ≤ℤ ((capacity *ℤ qz) *ℤ kz) = omega (arith, ints, three, four, turn) in
    ≤ℤ_cancel (s *ℤ s3 *ℤ least) (capacity *ℤ kz) qz above (subst (λ z. z ≤ℤ ((capacity *ℤ kz) *ℤ qz)) left (subst (λ z. (s *ℤ (s3 *ℤ (least *ℤ qz))) ≤ℤ z) right five))
  where
    left : s *ℤ (s3 *ℤ (least *ℤ qz)) ≡ (s *ℤ s3 *ℤ least) *ℤ qz
    left = simp products

    right : (capacity *ℤ qz) *ℤ kz ≡ (capacity *ℤ kz) *ℤ qz
    right = simp products

contradiction : (e v u a l : ℕ) → (scale_of 1 *ℤ scale_of 3 *ℤ pos l) ≤ℤ (pos a *ℤ (pos e *ℤ pos v *ℤ pos u)) → up (up (up e * v) * u) * a < l * billion → ⊥
contradiction e v u a l can less =
    let up_all = rounded e v u a in
    let same : a * (e * v * u) ≡ e * v * u * a = mul_comm a (e * v * u) in
    let naturals : (scale_of 1 *ℤ scale_of 3 *ℤ pos l) ≤ℤ pos (a * (e * v * u)) = can in
    omega (arith, ints, naturals, same, up_all, less)

module _ (places : ℕ) (d : Data) (q : ℕ) (x : Var → ℤ) (plan : Feasible places d q x) where
  -- the least activity isn't above what the greatest capacity can do
  pub not_unreachable : (r t y : ℕ) → In d sets.region r → In d sets.technology t → In d sets.year y → is_unreachable d r t y ≡ true → ⊥
  not_unreachable r t y in_r in_t in_y h =
      let least = least_activity d r t y in
      let capacity = greatest_capacity d r t y in
      let tests = both (is_above_zero least) (is_above_reach d r t y least) h in
      let some_least = lt_of (pos 0) least tests.0 in
      let beyond = above-both (size_within (whole 10000000) capacity) (usual_most d r t y) (unsigned_abs least * billion) tests.1 in
      let whole_part = from-both (from_both (usual_effort d r t y) (size_within (whole 1) (availability_of d r t y)) (λ e v. up (up e * v))) (size_within (whole 1000000) (activity_unit d r t)) (λ p u. up (p * u)) beyond.other beyond.second in
      let inner = from-both (usual_effort d r t y) (size_within (whole 1) (availability_of d r t y)) (λ e v. up (up e * v)) whole_part.one whole_part.first in
      let parts = effort-parts (is_so_somewhere d (WideSlice r t y)) (size_within (pos (10 ^ 25)) (sum_of d (Effort r t y))) inner.one inner.first in
      let e = inner.one in
      let v = inner.other in
      let u = whole_part.other in
      let a = beyond.one in
      let l = unsigned_abs least in
      let capacity_is : capacity ≡ pos a = size-is (whole 10000000) capacity a beyond.first in
      let least_is : least ≡ pos l = sym (pos-unsigned_abs least (omega (arith, ints, some_least))) in
      let effort_is : sum_over (timeslices d) (λ i. capacity_factor d r t i y *ℤ year_split d i y) ≡ pos e =
      sym (sum-same (is_so d (WideSlice r t y)) (λ i. effort d r t i y) (λ i. capacity_factor d r t i y *ℤ year_split d i y) 0 (count_of d sets.timeslice) parts.narrow
      (λ i narrow. ap (λ b. if b then capacity_factor d r t i y *ℤ year_split d i y else pos 0) (off (is_within (whole 10) (capacity_factor d r t i y) && is_within (whole 10) (year_split d i y)) narrow)))
      ∙ size-is (pos (10 ^ 25)) (sum_of d (Effort r t y)) e parts.size in
      let available_is : availability_of d r t y ≡ pos v = size-is (whole 1) (availability_of d r t y) v inner.second in
      let unit_is : activity_unit d r t ≡ pos u = size-is (whole 1000000) (activity_unit d r t) u whole_part.second in
      let within = index-rty d r t y in_r in_t in_y in
      let act_sum = sum_over (timeslices d) (λ i. x (rate_of_total_activity r i t y) *ℤ year_split d i y) in
      let asked : (pos l *ℤ pos q) ≤ℤ act_sum =
      subst (λ z. (z *ℤ pos q) ≤ℤ act_sum) least_is
      (subst (λ z. (least *ℤ pos q) ≤ℤ z) (met places d q x plan AAC1 (at_rty r t y) refl within refl) (met places d q x plan AAC3 (at_rty r t y) refl within (positive_test least some_least))) in
      let k = ap₂ (λ f g. f *ℤ g) (ap₂ (λ f g. f *ℤ g) effort_is available_is) unit_is in
      let done : (scale_of 3 *ℤ act_sum) ≤ℤ (x (total_capacity_annual r t y) *ℤ (pos e *ℤ pos v *ℤ pos u)) =
      subst (λ z. (scale_of 3 *ℤ act_sum) ≤ℤ (x (total_capacity_annual r t y) *ℤ z)) k (met places d q x plan CAB1 (at_rty r t y) refl within refl) in
      let limited : (scale_of 1 *ℤ x (total_capacity_annual r t y)) ≤ℤ (pos a *ℤ pos q) =
      subst (λ z. (scale_of 1 *ℤ x (total_capacity_annual r t y)) ≤ℤ (z *ℤ pos q)) capacity_is
      (met places d q x plan TCC1 (at_rty r t y) refl within (limit_test capacity (subst (λ z. pos 0 ≤ℤ z) (sym capacity_is) (omega (arith, ints))))) in
      let can : (scale_of 1 *ℤ scale_of 3 *ℤ pos l) ≤ℤ (pos a *ℤ (pos e *ℤ pos v *ℤ pos u)) =
      reached (scale_of 1) (scale_of 3) (pos l) (pos e *ℤ pos v *ℤ pos u) (pos a) (pos q) act_sum (x (total_capacity_annual r t y)) (some places d q x plan) (omega (arith, ints)) (omega (arith, ints)) (omega (arith, ints)) asked done limited in
      let most : up (up (up e * v) * u) ≡ beyond.other = ap (λ p. up (p * u)) inner.made ∙ whole_part.made in
      let less : up (up (up e * v) * u) * a < l * billion = subst (λ m. m * a < l * billion) (sym most) beyond.less in
      contradiction e v u a l can less
