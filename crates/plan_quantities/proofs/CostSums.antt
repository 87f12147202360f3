-- Emissions and costs of a feasible plan are their defining sums.
use Rattle.plan_quantities.proofs.Common.{◌≡◌, ℕ, ℤ, ◌+ℤ◌, ◌-ℤ◌, ◌*ℤ◌, Bool, true, filter, sym, ap, ap₂, ◌∙◌, products, ring, *ℤ_assoc, *ℤ-+ℤ, Data, Var, factor_scale, scale_of, sum_over, capital_cost, emission_activity_ratio, emissions_penalty, fixed_cost, variable_cost, Feasible, cost, all_years, emissions, modes, regions, technologies, timeslices, years_in_all, years_since_first, new_capacity, total_capacity_annual, total_annual_technology_activity_by_mode, capital_investment, discounted_capital_investment, salvage_value, discounted_salvage_value, annual_variable_operating_cost, annual_fixed_operating_cost, operating_cost, discounted_operating_cost, annual_technology_emission_by_mode, annual_technology_emission, annual_technology_emission_penalty_by_emission, annual_technology_emissions_penalty, discounted_technology_emissions_penalty, total_discounted_cost_by_technology, total_discounted_cost, annual_emissions, emits_in_mode, capital_factor_of, operating_factor_of, sum_over-same, sum_over-times, cost_of_year, investment, operation, paid_for_one, part_left, penalty, salvage, three_factors, two_factors, activity_in, capacity_in_all, emissions_of_year, over_slices_and_modes, In, positions-in}
use Rattle.model_sets.specs.Names as sets
use Rattle.plan_quantities.proofs.EnergySums.{capacity-sum, zero-product, zero-ratio}
use Rattle.plan_quantities.proofs.MetEquations.{acc3-met, cc1-met, cc2-met, e1-met, e2-met, e3-met, e4-met, e5-met, e6-met, oc1-met, oc2-met, oc3-met, oc4-met, sv-met, sv4-met, tdc1-met, tdc2-met}
use Rattle.plan_quantities.proofs.SumLaws.{all-filtered, sum-exchanged, sum-filtered, sum-same, sum-times}

-- ---- one step after another

-- v times f is u times k, and u times a is w
discounted : (a f v u k w : ℤ) → f *ℤ v ≡ u *ℤ k → a *ℤ u ≡ w → a *ℤ f *ℤ v ≡ w *ℤ k
discounted a f v u k w h g = *ℤ_assoc a f v ∙ ap (λ z. a *ℤ z) h ∙ sym (*ℤ_assoc a u k) ∙ ap (λ z. z *ℤ k) g

by_factor : (s v k u w : ℤ) → s *ℤ v ≡ k *ℤ u → s *ℤ u ≡ w → s *ℤ s *ℤ v ≡ w *ℤ k
by_factor s v k u w h g = *ℤ_assoc s s v ∙ ap (λ z. s *ℤ z) h ∙ turned s k u ∙ ap (λ z. z *ℤ k) g
  where
    turned : (s k u : ℤ) → s *ℤ (k *ℤ u) ≡ s *ℤ u *ℤ k
    turned s k u = simp products

-- ---- sums over modes, each the sum over the timeslices times a number

by_slices : (d : Data) (act : ℕ → ℕ → ℤ) (k : ℕ → ℤ) → sum_over (modes d) (λ m. sum_over (timeslices d) (λ l. act l m) *ℤ k m) ≡ over_slices_and_modes d (λ l m. act l m *ℤ k m)
by_slices d act k =
    sum_over-same (modes d) (λ m. sum_over (timeslices d) (λ l. act l m) *ℤ k m) (λ m. sum_over (timeslices d) (λ l. act l m *ℤ k m)) (λ m. sum-times (timeslices d) (λ l. act l m) (k m))
    ∙ sum-exchanged (modes d) (timeslices d) (λ m l. act l m *ℤ k m)

slices-times : (d : Data) (f : ℕ → ℕ → ℤ) (k : ℤ) → over_slices_and_modes d f *ℤ k ≡ over_slices_and_modes d (λ l m. f l m *ℤ k)
slices-times d f k =
    sum-times (timeslices d) (λ l. sum_over (modes d) (λ m. f l m)) k
    ∙ sum_over-same (timeslices d) (λ l. sum_over (modes d) (λ m. f l m) *ℤ k) (λ l. sum_over (modes d) (λ m. f l m *ℤ k)) (λ l. sum-times (modes d) (λ m. f l m) k)

-- ---- one scale for four parts

at_one_scale : (s f o i p v : ℤ) → s *ℤ s *ℤ s *ℤ (f *ℤ f *ℤ f) *ℤ (o +ℤ i +ℤ p -ℤ v)
    ≡ s *ℤ (f *ℤ f) *ℤ (s *ℤ s *ℤ f *ℤ o) +ℤ s *ℤ s *ℤ (s *ℤ (f *ℤ f *ℤ f) *ℤ i) +ℤ f *ℤ f *ℤ (s *ℤ s *ℤ s *ℤ f *ℤ p) -ℤ s *ℤ s *ℤ f *ℤ (s *ℤ (f *ℤ f) *ℤ v)
at_one_scale s f o i p v = simp ring

module _ (places : ℕ) (d : Data) (q : ℕ) (x : Var → ℤ) (plan : Feasible places d q x) where
  -- ---- emissions

  -- what a mode emits in a year, from its activity in the timeslices
  mode-emission : (r t e m y : ℕ) → In d sets.region r → In d sets.technology t → In d sets.emission e → In d sets.mode m → In d sets.year y → emits_in_mode d r t e m y ≡ true
      → scale_of 2 *ℤ x (annual_technology_emission_by_mode r t e m y) ≡ sum_over (timeslices d) (λ l. activity_in d x r l t m y) *ℤ emission_activity_ratio d r t e m y
  mode-emission r t e m y in_r in_t in_e in_m in_y emits =
      by_factor (scale_of 1) (x (annual_technology_emission_by_mode r t e m y)) (emission_activity_ratio d r t e m y) (x (total_annual_technology_activity_by_mode r t m y))
      (sum_over (timeslices d) (λ l. activity_in d x r l t m y))
      (e1-met places d q x plan r t e m y in_r in_t in_e in_m in_y emits) (acc3-met places d q x plan r t m y in_r in_t in_m in_y)

  -- what a technology emits in a year
  technology-emission : (r t e y : ℕ) → In d sets.region r → In d sets.technology t → In d sets.emission e → In d sets.year y
      → scale_of 2 *ℤ x (annual_technology_emission r t e y) ≡ over_slices_and_modes d (λ l m. activity_in d x r l t m y *ℤ emission_activity_ratio d r t e m y)
  technology-emission r t e y in_r in_t in_e in_y =
      let emits : ℕ → Bool = λ m. emits_in_mode d r t e m y in
      let ratio : ℕ → ℤ = λ m. emission_activity_ratio d r t e m y in
      let by_mode : ℕ → ℤ = λ m. sum_over (timeslices d) (λ l. activity_in d x r l t m y) *ℤ ratio m in
      ap (λ z. scale_of 2 *ℤ z) (e2-met places d q x plan r t e y in_r in_t in_e in_y)
      ∙ sum_over-times (filter emits (modes d)) (scale_of 2) (λ m. x (annual_technology_emission_by_mode r t e m y))
      ∙ sum-same (λ m. In d sets.mode m × (emits m ≡ true)) (filter emits (modes d)) (λ m. scale_of 2 *ℤ x (annual_technology_emission_by_mode r t e m y)) by_mode
      (all-filtered (In d sets.mode) emits (modes d) (positions-in d sets.mode)) (λ m known. mode-emission r t e m y in_r in_t in_e known.0 in_y known.1)
      ∙ sum-filtered emits (modes d) by_mode (λ m none. zero-product (sum_over (timeslices d) (λ l. activity_in d x r l t m y)) (ratio m) (zero-ratio (ratio m) none))
      ∙ by_slices d (λ l m. activity_in d x r l t m y) ratio

  pub emission-sum : (r e y : ℕ) → In d sets.region r → In d sets.emission e → In d sets.year y → scale_of 2 *ℤ x (annual_emissions r e y) ≡ emissions_of_year d q x r e y
  emission-sum r e y in_r in_e in_y =
      ap (λ z. scale_of 2 *ℤ z) (e6-met places d q x plan r e y in_r in_e in_y)
      ∙ sum_over-times (technologies d) (scale_of 2) (λ t. x (annual_technology_emission r t e y))
      ∙ sum-same (In d sets.technology) (technologies d) (λ t. scale_of 2 *ℤ x (annual_technology_emission r t e y))
      (λ t. over_slices_and_modes d (λ l m. activity_in d x r l t m y *ℤ emission_activity_ratio d r t e m y)) (positions-in d sets.technology)
      (λ t in_t. technology-emission r t e y in_r in_t in_e in_y)

  -- ---- costs

  pub investment-sum : (r t y : ℕ) → In d sets.region r → In d sets.technology t → In d sets.year y
      → scale_of 1 *ℤ three_factors places *ℤ x (discounted_capital_investment r t y) ≡ investment places d q x r t y
  investment-sum r t y in_r in_t in_y =
      regrouped (scale_of 1) (two_factors places) (factor_scale places) (x (discounted_capital_investment r t y))
      ∙ discounted (scale_of 1 *ℤ two_factors places) (factor_scale places) (x (discounted_capital_investment r t y)) (x (capital_investment r t y))
      (capital_factor_of places d r (years_since_first d y)) (x (new_capacity r t y) *ℤ capital_cost d r t y *ℤ paid_for_one places d r t)
      (cc2-met places d q x plan r t y in_r in_t in_y) (cc1-met places d q x plan r t y in_r in_t in_y)
    where
      regrouped : (s g f v : ℤ) → s *ℤ (g *ℤ f) *ℤ v ≡ s *ℤ g *ℤ f *ℤ v
      regrouped s g f v = simp products

  variable-cost : (r t y : ℕ) → In d sets.region r → In d sets.technology t → In d sets.year y
      → scale_of 2 *ℤ x (annual_variable_operating_cost r t y) ≡ over_slices_and_modes d (λ l m. activity_in d x r l t m y *ℤ variable_cost d r t m y)
  variable-cost r t y in_r in_t in_y =
      let by_mode : ℕ → ℤ = λ m. sum_over (timeslices d) (λ l. activity_in d x r l t m y) *ℤ variable_cost d r t m y in
      *ℤ_assoc (scale_of 1) (scale_of 1) (x (annual_variable_operating_cost r t y))
      ∙ ap (λ z. scale_of 1 *ℤ z) (oc1-met places d q x plan r t y in_r in_t in_y)
      ∙ sum_over-times (modes d) (scale_of 1) (λ m. x (total_annual_technology_activity_by_mode r t m y) *ℤ variable_cost d r t m y)
      ∙ sum-same (In d sets.mode) (modes d) (λ m. scale_of 1 *ℤ (x (total_annual_technology_activity_by_mode r t m y) *ℤ variable_cost d r t m y)) by_mode (positions-in d sets.mode)
      (λ m in_m. sym (*ℤ_assoc (scale_of 1) (x (total_annual_technology_activity_by_mode r t m y)) (variable_cost d r t m y))
      ∙ ap (λ z. z *ℤ variable_cost d r t m y) (acc3-met places d q x plan r t m y in_r in_t in_m in_y))
      ∙ by_slices d (λ l m. activity_in d x r l t m y) (λ m. variable_cost d r t m y)

  fixed-cost : (r t y : ℕ) → In d sets.region r → In d sets.technology t → In d sets.year y
      → scale_of 2 *ℤ x (annual_fixed_operating_cost r t y) ≡ capacity_in_all d q x r t y *ℤ fixed_cost d r t y
  fixed-cost r t y in_r in_t in_y =
      discounted (scale_of 1) (scale_of 1) (x (annual_fixed_operating_cost r t y)) (x (total_capacity_annual r t y)) (fixed_cost d r t y) (capacity_in_all d q x r t y)
      (oc2-met places d q x plan r t y in_r in_t in_y) (capacity-sum places d q x plan r t y in_r in_t in_y)

  pub operation-sum : (r t y : ℕ) → In d sets.region r → In d sets.technology t → In d sets.year y
      → scale_of 2 *ℤ factor_scale places *ℤ x (discounted_operating_cost r t y) ≡ operation places d q x r t y
  operation-sum r t y in_r in_t in_y =
      discounted (scale_of 2) (factor_scale places) (x (discounted_operating_cost r t y)) (x (operating_cost r t y)) (operating_factor_of places d r (years_since_first d y))
      (over_slices_and_modes d (λ l m. activity_in d x r l t m y *ℤ variable_cost d r t m y) +ℤ capacity_in_all d q x r t y *ℤ fixed_cost d r t y)
      (oc4-met places d q x plan r t y in_r in_t in_y)
      (ap (λ z. scale_of 2 *ℤ z) (oc3-met places d q x plan r t y in_r in_t in_y)
      ∙ *ℤ-+ℤ (scale_of 2) (x (annual_variable_operating_cost r t y)) (x (annual_fixed_operating_cost r t y))
      ∙ ap₂ (λ a b. a +ℤ b) (variable-cost r t y in_r in_t in_y) (fixed-cost r t y in_r in_t in_y))

  emission-penalty : (r t e y : ℕ) → In d sets.region r → In d sets.technology t → In d sets.emission e → In d sets.year y
      → scale_of 3 *ℤ x (annual_technology_emission_penalty_by_emission r t e y)
      ≡ over_slices_and_modes d (λ l m. activity_in d x r l t m y *ℤ emission_activity_ratio d r t e m y *ℤ emissions_penalty d r e y)
  emission-penalty r t e y in_r in_t in_e in_y =
      discounted (scale_of 2) (scale_of 1) (x (annual_technology_emission_penalty_by_emission r t e y)) (x (annual_technology_emission r t e y)) (emissions_penalty d r e y)
      (over_slices_and_modes d (λ l m. activity_in d x r l t m y *ℤ emission_activity_ratio d r t e m y))
      (e3-met places d q x plan r t e y in_r in_t in_e in_y) (technology-emission r t e y in_r in_t in_e in_y)
      ∙ slices-times d (λ l m. activity_in d x r l t m y *ℤ emission_activity_ratio d r t e m y) (emissions_penalty d r e y)

  pub penalty-sum : (r t y : ℕ) → In d sets.region r → In d sets.technology t → In d sets.year y
      → scale_of 3 *ℤ factor_scale places *ℤ x (discounted_technology_emissions_penalty r t y) ≡ penalty places d q x r t y
  penalty-sum r t y in_r in_t in_y =
      let by_emission : ℕ → ℤ = λ e. over_slices_and_modes d (λ l m. activity_in d x r l t m y *ℤ emission_activity_ratio d r t e m y *ℤ emissions_penalty d r e y) in
      discounted (scale_of 3) (factor_scale places) (x (discounted_technology_emissions_penalty r t y)) (x (annual_technology_emissions_penalty r t y))
      (operating_factor_of places d r (years_since_first d y)) (sum_over (emissions d) by_emission)
      (e5-met places d q x plan r t y in_r in_t in_y)
      (ap (λ z. scale_of 3 *ℤ z) (e4-met places d q x plan r t y in_r in_t in_y)
      ∙ sum_over-times (emissions d) (scale_of 3) (λ e. x (annual_technology_emission_penalty_by_emission r t e y))
      ∙ sum-same (In d sets.emission) (emissions d) (λ e. scale_of 3 *ℤ x (annual_technology_emission_penalty_by_emission r t e y)) by_emission (positions-in d sets.emission)
      (λ e in_e. emission-penalty r t e y in_r in_t in_e in_y))

  pub salvage-sum : (r t y : ℕ) → In d sets.region r → In d sets.technology t → In d sets.year y
      → scale_of 1 *ℤ two_factors places *ℤ x (discounted_salvage_value r t y) ≡ salvage places d q x r t y
  salvage-sum r t y in_r in_t in_y =
      regrouped (scale_of 1) (factor_scale places) (factor_scale places) (x (discounted_salvage_value r t y))
      ∙ discounted (scale_of 1 *ℤ factor_scale places) (factor_scale places) (x (discounted_salvage_value r t y)) (x (salvage_value r t y))
      (capital_factor_of places d r (years_in_all d)) (capital_cost d r t y *ℤ x (new_capacity r t y) *ℤ part_left places d r t y)
      (sv4-met places d q x plan r t y in_r in_t in_y) (sv-met places d q x plan r t y in_r in_t in_y)
      ∙ exchanged (capital_cost d r t y) (x (new_capacity r t y)) (part_left places d r t y) (capital_factor_of places d r (years_in_all d))
    where
      regrouped : (s g f v : ℤ) → s *ℤ (g *ℤ f) *ℤ v ≡ s *ℤ g *ℤ f *ℤ v
      regrouped s g f v = simp products

      exchanged : (c n p k : ℤ) → c *ℤ n *ℤ p *ℤ k ≡ n *ℤ c *ℤ p *ℤ k
      exchanged c n p k = simp products

  -- what a technology costs in a year, at the scale of the total
  technology-cost : (r t y : ℕ) → In d sets.region r → In d sets.technology t → In d sets.year y
      → scale_of 3 *ℤ three_factors places *ℤ x (total_discounted_cost_by_technology r t y)
      ≡ scale_of 1 *ℤ two_factors places *ℤ operation places d q x r t y +ℤ scale_of 2 *ℤ investment places d q x r t y
      +ℤ two_factors places *ℤ penalty places d q x r t y -ℤ scale_of 2 *ℤ factor_scale places *ℤ salvage places d q x r t y
  technology-cost r t y in_r in_t in_y =
      let o = x (discounted_operating_cost r t y) in
      let i = x (discounted_capital_investment r t y) in
      let p = x (discounted_technology_emissions_penalty r t y) in
      let v = x (discounted_salvage_value r t y) in
      ap (λ z. scale_of 3 *ℤ three_factors places *ℤ z) (tdc1-met places d q x plan r t y in_r in_t in_y)
      ∙ at_one_scale (scale_of 1) (factor_scale places) o i p v
      ∙ ap₂ (λ a b. a -ℤ b)
      (ap₂ (λ a b. a +ℤ b)
      (ap₂ (λ a b. a +ℤ b) (ap (λ z. scale_of 1 *ℤ two_factors places *ℤ z) (operation-sum r t y in_r in_t in_y)) (ap (λ z. scale_of 2 *ℤ z) (investment-sum r t y in_r in_t in_y)))
      (ap (λ z. two_factors places *ℤ z) (penalty-sum r t y in_r in_t in_y)))
      (ap (λ z. scale_of 2 *ℤ factor_scale places *ℤ z) (salvage-sum r t y in_r in_t in_y))

  pub cost-sum : (r y : ℕ) → In d sets.region r → In d sets.year y → scale_of 3 *ℤ three_factors places *ℤ x (total_discounted_cost r y) ≡ cost_of_year places d q x r y
  cost-sum r y in_r in_y =
      let k = scale_of 3 *ℤ three_factors places in
      ap (λ z. k *ℤ z) (tdc2-met places d q x plan r y in_r in_y)
      ∙ sum_over-times (technologies d) k (λ t. x (total_discounted_cost_by_technology r t y))
      ∙ sum-same (In d sets.technology) (technologies d) (λ t. k *ℤ x (total_discounted_cost_by_technology r t y))
      (λ t.
      scale_of 1 *ℤ two_factors places *ℤ operation places d q x r t y +ℤ scale_of 2 *ℤ investment places d q x r t y
      +ℤ two_factors places *ℤ penalty places d q x r t y -ℤ scale_of 2 *ℤ factor_scale places *ℤ salvage places d q x r t y)
      (positions-in d sets.technology) (λ t in_t. technology-cost r t y in_r in_t in_y)

  -- the cost of the plan
  pub plan-cost : scale_of 3 *ℤ three_factors places *ℤ cost d x ≡ sum_over (regions d) (λ r. sum_over (all_years d) (λ y. cost_of_year places d q x r y))
  plan-cost =
      let k = scale_of 3 *ℤ three_factors places in
      sum_over-times (regions d) k (λ r. sum_over (all_years d) (λ y. x (total_discounted_cost r y)))
      ∙ sum-same (In d sets.region) (regions d) (λ r. k *ℤ sum_over (all_years d) (λ y. x (total_discounted_cost r y))) (λ r. sum_over (all_years d) (λ y. cost_of_year places d q x r y)) (positions-in d sets.region)
      (λ r in_r. sum_over-times (all_years d) k (λ y. x (total_discounted_cost r y))
      ∙ sum-same (In d sets.year) (all_years d) (λ y. k *ℤ x (total_discounted_cost r y)) (λ y. cost_of_year places d q x r y) (positions-in d sets.year) (λ y in_y. cost-sum r y in_r in_y))
