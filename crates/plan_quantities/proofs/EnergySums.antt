-- Capacity, activity, energy and trade of a feasible plan are their defining sums.
use Rattle.plan_quantities.proofs.Common.{◌≡◌, ℕ, ℤ, pos, ◌+ℤ◌, ◌*ℤ◌, Bool, true, false, List, [], ◌∷◌, filter, refl, sym, ap, ap₂, ◌∙◌, list_any, int_eq, not, ◌||◌, Decides-int_eq, products, ring, *ℤ_assoc, *ℤ-zero, Data, Var, scale_of, sum_over, input_activity_ratio, output_activity_ratio, residual_capacity, year_split, Feasible, modes, timeslices, rate_of_activity, total_capacity_annual, rate_of_total_activity, rate_of_production_by_technology_by_mode, rate_of_production_by_technology, rate_of_use_by_technology_by_mode, rate_of_use_by_technology, trade_annual, production_by_technology, use_by_technology, total_technology_annual_activity, production_by_technology_annual, use_by_technology_annual, is_not_zero, produces, uses, sum_over-same, sum_over-times, sum_over-zero, activity_in, activity_of_year, capacity_in_all, over_slices_and_modes, production_of_year, trade_of_year, use_of_year, In, positions-in}
use Rattle.model_sets.specs.Names as sets
use Rattle.plan_quantities.proofs.MetEquations.{aac1-met, acc1-met, acc2-met, caa1-met, caa2-met, caa3-met, eba1-met, eba2-met, eba4-met, eba5-met, ebb3-met, re1-met, re5-met}
use Rattle.plan_quantities.proofs.SumLaws.{all-filtered, sum-filtered, sum-same, sum-times}

-- ---- ratios

-- a ratio that the equations take for 0 is 0
pub zero-ratio : (z : ℤ) → is_not_zero z ≡ false → z ≡ pos 0
zero-ratio z is = by_test (int_eq z (pos 0)) refl is
  where
    by_test : (b : Bool) → int_eq z (pos 0) ≡ b → not b ≡ false → z ≡ pos 0
    by_test true same h = (Decides-int_eq z (pos 0)).0 same
    by_test false same h = absurd (cc h)

-- what has a ratio of 0 is 0
pub zero-product : (a z : ℤ) → z ≡ pos 0 → a *ℤ z ≡ pos 0
zero-product a z h = ap (λ w. a *ℤ w) h ∙ *ℤ-zero a

last_two : (a b c : ℤ) → a *ℤ b *ℤ c ≡ a *ℤ c *ℤ b
last_two a b c = simp products

chain : (s v b k : ℤ) → s *ℤ v ≡ b *ℤ k → s *ℤ s *ℤ v ≡ s *ℤ b *ℤ k
chain s v b k h = *ℤ_assoc s s v ∙ ap (λ z. s *ℤ z) h ∙ sym (*ℤ_assoc s b k)

-- ---- by ratios

-- what a technology makes or takes of a fuel in a year: the sum over the timeslices of its rate times their part of the year, the rate being the sum over
-- the modes whose ratio isn't 0 of their rates, each of which is the mode's activity times its ratio
module _ (d : Data) (s : ℤ) (ratio : ℕ → ℤ) (part : ℕ → ℤ) (rate by_mode : ℕ → ℕ → ℤ) (by_technology in_slice : ℕ → ℤ) (annual : ℤ)
    (of_year : annual ≡ sum_over (timeslices d) in_slice)
    (of_slice : (l : ℕ) → In d sets.timeslice l → s *ℤ in_slice l ≡ by_technology l *ℤ part l)
    (of_modes : (l : ℕ) → In d sets.timeslice l → by_technology l ≡ sum_over (filter (λ m. is_not_zero (ratio m)) (modes d)) (λ m. by_mode l m))
    (of_mode : (l m : ℕ) → In d sets.timeslice l → In d sets.mode m → is_not_zero (ratio m) ≡ true → s *ℤ by_mode l m ≡ rate l m *ℤ ratio m)
  where
    technology-sum : (l : ℕ) → In d sets.timeslice l → s *ℤ by_technology l ≡ sum_over (modes d) (λ m. rate l m *ℤ ratio m)
    technology-sum l in_l =
        let does : ℕ → Bool = λ m. is_not_zero (ratio m) in
        ap (λ z. s *ℤ z) (of_modes l in_l)
        ∙ sum_over-times (filter does (modes d)) s (λ m. by_mode l m)
        ∙ sum-same (λ m. In d sets.mode m × (does m ≡ true)) (filter does (modes d)) (λ m. s *ℤ by_mode l m) (λ m. rate l m *ℤ ratio m)
        (all-filtered (In d sets.mode) does (modes d) (positions-in d sets.mode)) (λ m known. of_mode l m in_l known.0 known.1)
        ∙ sum-filtered does (modes d) (λ m. rate l m *ℤ ratio m) (λ m none. zero-product (rate l m) (ratio m) (zero-ratio (ratio m) none))

    slice-sum : (l : ℕ) → In d sets.timeslice l → s *ℤ s *ℤ in_slice l ≡ sum_over (modes d) (λ m. rate l m *ℤ part l *ℤ ratio m)
    slice-sum l in_l =
        chain s (in_slice l) (by_technology l) (part l) (of_slice l in_l)
        ∙ ap (λ z. z *ℤ part l) (technology-sum l in_l)
        ∙ sum-times (modes d) (λ m. rate l m *ℤ ratio m) (part l)
        ∙ sum_over-same (modes d) (λ m. rate l m *ℤ ratio m *ℤ part l) (λ m. rate l m *ℤ part l *ℤ ratio m) (λ m. last_two (rate l m) (ratio m) (part l))

    pub by-ratios : s *ℤ s *ℤ annual ≡ sum_over (timeslices d) (λ l. sum_over (modes d) (λ m. rate l m *ℤ part l *ℤ ratio m))
    by-ratios =
        ap (λ z. s *ℤ s *ℤ z) of_year
        ∙ sum_over-times (timeslices d) (s *ℤ s) in_slice
        ∙ sum-same (In d sets.timeslice) (timeslices d) (λ l. s *ℤ s *ℤ in_slice l) (λ l. sum_over (modes d) (λ m. rate l m *ℤ part l *ℤ ratio m)) (positions-in d sets.timeslice) slice-sum

neither : (a b : Bool) → (a || b) ≡ false → (a ≡ false) × (b ≡ false)
neither true b h = absurd (cc h)
neither false b h = (refl, h)

module _ (places : ℕ) (d : Data) (q : ℕ) (x : Var → ℤ) (plan : Feasible places d q x) where
  -- ---- capacity and activity

  pub capacity-sum : (r t y : ℕ) → In d sets.region r → In d sets.technology t → In d sets.year y → scale_of 1 *ℤ x (total_capacity_annual r t y) ≡ capacity_in_all d q x r t y
  capacity-sum r t y in_r in_t in_y =
      caa2-met places d q x plan r t y in_r in_t in_y
      ∙ ap (λ z. scale_of 1 *ℤ z +ℤ residual_capacity d r t y *ℤ pos q) (caa1-met places d q x plan r t y in_r in_t in_y)

  pub activity-sum : (r t y : ℕ) → In d sets.region r → In d sets.technology t → In d sets.year y → scale_of 1 *ℤ x (total_technology_annual_activity r t y) ≡ activity_of_year d q x r t y
  activity-sum r t y in_r in_t in_y =
      aac1-met places d q x plan r t y in_r in_t in_y
      ∙ sum-same (In d sets.timeslice) (timeslices d) (λ l. x (rate_of_total_activity r l t y) *ℤ year_split d l y) (λ l. sum_over (modes d) (λ m. activity_in d x r l t m y)) (positions-in d sets.timeslice)
      (λ l in_l. ap (λ z. z *ℤ year_split d l y) (caa3-met places d q x plan r l t y in_r in_l in_t in_y) ∙ sum-times (modes d) (λ m. x (rate_of_activity r l t m y)) (year_split d l y))

  -- ---- production, use and trade

  pub production-sum : (r t f y : ℕ) → In d sets.region r → In d sets.technology t → In d sets.fuel f → In d sets.year y → produces d r t f y ≡ true
      → scale_of 2 *ℤ x (production_by_technology_annual r t f y) ≡ production_of_year d q x r t f y
  production-sum r t f y in_r in_t in_f in_y stands =
      by-ratios d (scale_of 1) (λ m. output_activity_ratio d r t f m y) (λ l. year_split d l y) (λ l m. x (rate_of_activity r l t m y))
      (λ l m. x (rate_of_production_by_technology_by_mode r l t f m y)) (λ l. x (rate_of_production_by_technology r l t f y)) (λ l. x (production_by_technology r l t f y))
      (x (production_by_technology_annual r t f y))
      (re1-met places d q x plan r t f y in_r in_t in_f in_y stands)
      (λ l in_l. acc1-met places d q x plan r l t f y in_r in_l in_t in_f in_y stands)
      (λ l in_l. eba2-met places d q x plan r l t f y in_r in_l in_t in_f in_y stands)
      (λ l m in_l in_m does. eba1-met places d q x plan r l t f m y in_r in_l in_t in_f in_m in_y does)

  pub use-sum : (r t f y : ℕ) → In d sets.region r → In d sets.technology t → In d sets.fuel f → In d sets.year y → uses d r t f y ≡ true
      → scale_of 2 *ℤ x (use_by_technology_annual r t f y) ≡ use_of_year d q x r t f y
  use-sum r t f y in_r in_t in_f in_y stands =
      by-ratios d (scale_of 1) (λ m. input_activity_ratio d r t f m y) (λ l. year_split d l y) (λ l m. x (rate_of_activity r l t m y))
      (λ l m. x (rate_of_use_by_technology_by_mode r l t f m y)) (λ l. x (rate_of_use_by_technology r l t f y)) (λ l. x (use_by_technology r l t f y))
      (x (use_by_technology_annual r t f y))
      (re5-met places d q x plan r t f y in_r in_t in_f in_y stands)
      (λ l in_l. acc2-met places d q x plan r l t f y in_r in_l in_t in_f in_y stands)
      (λ l in_l. eba5-met places d q x plan r l t f y in_r in_l in_t in_f in_y stands)
      (λ l m in_l in_m does. eba4-met places d q x plan r l t f m y in_r in_l in_t in_f in_m in_y does)

  pub trade-sum : (r rr f y : ℕ) → In d sets.region r → In d sets.region rr → In d sets.fuel f → In d sets.year y → pos 1 *ℤ x (trade_annual r rr f y) ≡ trade_of_year d q x r rr f y
  trade-sum r rr f y in_r in_rr in_f in_y = one (x (trade_annual r rr f y)) ∙ ebb3-met places d q x plan r rr f y in_r in_rr in_f in_y
    where
      one : (z : ℤ) → pos 1 *ℤ z ≡ z
      one z = simp ring

-- ---- where there is none

-- where the ratio of every mode is 0, so is the sum
pub none-sum : (d : Data) (activity : ℕ → ℕ → ℤ) (ratio : ℕ → ℤ) → list_any (λ m. is_not_zero (ratio m)) (modes d) ≡ false → over_slices_and_modes d (λ l m. activity l m *ℤ ratio m) ≡ pos 0
none-sum d activity ratio none =
    sum_over-zero (timeslices d) (λ l. sum_over (modes d) (λ m. activity l m *ℤ ratio m)) (λ l. none_in (modes d) (activity l) none)
  where
    none_in : (ms : List ℕ) (a : ℕ → ℤ) → list_any (λ m. is_not_zero (ratio m)) ms ≡ false → sum_over ms (λ m. a m *ℤ ratio m) ≡ pos 0
    none_in [] a none_is = refl
    none_in (m ∷ ms) a none_is =
        let two = neither (is_not_zero (ratio m)) (list_any (λ k. is_not_zero (ratio k)) ms) none_is in
        ap₂ (λ v w. v +ℤ w) (zero-product (a m) (ratio m) (zero-ratio (ratio m) two.0)) (none_in ms a two.1)
