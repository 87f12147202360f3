-- What a feasible plan meets at the positions of members: the equations from which its quantities come, one by one.
use Rattle.plan_quantities.proofs.Common.{◌≡◌, ℕ, ℤ, pos, ◌+ℤ◌, ◌-ℤ◌, ◌*ℤ◌, Bool, true, false, List, [], ◌∷◌, refl, sym, ap, ap₂, ◌∙◌, subst, inl, inr, list_any, nat_eq, not, ◌&&◌, if◌then◌else◌, products, *ℤ-zero, Data, Index, RowName, Var, CAA1, CAA2, CAA3, EBA1, EBA2, EBA4, EBA5, EBB3, ACC1, ACC2, ACC3, CC1, CC2, SV1, SV2, SV3, SV4, OC1, OC2, OC3, OC4, E1, E2, E3, E4, E5, TDC1, TDC2, AAC1, RE1, RE5, E6, Holds, at_rltfmy, at_rltfy, at_rlty, at_rrrfy, at_rtfy, at_rtemy, at_rtey, at_rtmy, at_rty, at_rey, at_ry, equation_numbers, instances, name_at, stands_at, subscripts_of, factor_scale, scale_of, sum_over, capital_cost, emission_activity_ratio, emissions_penalty, fixed_cost, input_activity_ratio, output_activity_ratio, residual_capacity, variable_cost, year_split, Feasible, Meets, MeetsEach, emissions, modes, technologies, timeslices, years_in_all, years_since_first, rate_of_activity, new_capacity, trade, accumulated_new_capacity, total_capacity_annual, rate_of_total_activity, rate_of_production_by_technology_by_mode, rate_of_production_by_technology, rate_of_use_by_technology_by_mode, rate_of_use_by_technology, trade_annual, production_by_technology, use_by_technology, total_annual_technology_activity_by_mode, capital_investment, discounted_capital_investment, salvage_value, discounted_salvage_value, annual_variable_operating_cost, annual_fixed_operating_cost, operating_cost, discounted_operating_cost, annual_technology_emission_by_mode, annual_technology_emission, annual_technology_emission_penalty_by_emission, annual_technology_emissions_penalty, discounted_technology_emissions_penalty, total_discounted_cost_by_technology, total_discounted_cost, total_technology_annual_activity, production_by_technology_annual, use_by_technology_annual, annual_emissions, emits_in_mode, emitting_modes, produces, produces_in_mode, producing_modes, uses, uses_in_mode, using_modes, annuity_of, capital_factor_of, operating_factor_of, recovery_factor_of, salvage_fraction_of, Has, Has-instances, paid_for_one, part_left, two_factors, AreValues, In, index-from_values, values-rltfmy, values-rltfy, values-rlty, values-rrrfy, values-rtfy, values-rtemy, values-rtey, values-rtmy, values-rty, values-rey, values-ry}
use Rattle.std.specs.Cmp.Derive.{both_true}
use Rattle.model_sets.specs.Names as sets
use Rattle.named_equations.specs.Capacity.{years_counting}
use Rattle.named_equations.specs.CapitalCosts.{paid_at_once, recovered}
use Rattle.named_equations.specs.Salvage.{has_sv1, has_sv2}

each-met : (places : ℕ) (d : Data) (q : ℕ) (x : Var → ℤ) (names : List RowName) (name : RowName) → MeetsEach places d q x names → Has names name → Meets places d q x name
each-met places d q x [] name met has = absurd has
each-met places d q x (n ∷ names) name met (inl e) = subst (Meets places d q x) e met.0
each-met places d q x (n ∷ names) name met (inr has) = each-met places d q x names name met.1 has

recovered_apart : (s f v c a b n : ℤ) → s *ℤ f *ℤ f *ℤ v ≡ c *ℤ a *ℤ b *ℤ n → s *ℤ (f *ℤ f) *ℤ v ≡ n *ℤ c *ℤ (a *ℤ b)
recovered_apart s f v c a b n h = left ∙ h ∙ right
  where
    left : s *ℤ (f *ℤ f) *ℤ v ≡ s *ℤ f *ℤ f *ℤ v
    left = simp products

    right : c *ℤ a *ℤ b *ℤ n ≡ n *ℤ c *ℤ (a *ℤ b)
    right = simp products

paid_scaled : (s g v c n : ℤ) → s *ℤ v ≡ c *ℤ n → s *ℤ g *ℤ v ≡ n *ℤ c *ℤ g
paid_scaled s g v c n h = left ∙ ap (λ z. z *ℤ g) h ∙ right
  where
    left : s *ℤ g *ℤ v ≡ s *ℤ v *ℤ g
    left = simp products

    right : c *ℤ n *ℤ g ≡ n *ℤ c *ℤ g
    right = simp products

module _ (places : ℕ) (d : Data) (q : ℕ) (x : Var → ℤ) (plan : Feasible places d q x) where
  met : (eq : ℕ) (i : Index) → list_any (nat_eq eq) equation_numbers ≡ true → AreValues d (subscripts_of eq) i → stands_at d eq i ≡ true → Meets places d q x (name_at eq i)
  met eq i known are stands =
      each-met places d q x (instances d) (name_at eq i) plan.equations
      ((Has-instances d (name_at eq i)).1 (both_true (both_true known (index-from_values d (subscripts_of eq) i are)) stands))

  -- ---- capacity and activity

  pub caa1-met : (r t y : ℕ) → In d sets.region r → In d sets.technology t → In d sets.year y → x (accumulated_new_capacity r t y) ≡ sum_over (years_counting d r t y) (λ yy. x (new_capacity r t yy))
  caa1-met r t y in_r in_t in_y = met CAA1 (at_rty r t y) refl (values-rty d r t y in_r in_t in_y) refl

  pub caa2-met : (r t y : ℕ) → In d sets.region r → In d sets.technology t → In d sets.year y
      → scale_of 1 *ℤ x (total_capacity_annual r t y) ≡ scale_of 1 *ℤ x (accumulated_new_capacity r t y) +ℤ residual_capacity d r t y *ℤ pos q
  caa2-met r t y in_r in_t in_y = met CAA2 (at_rty r t y) refl (values-rty d r t y in_r in_t in_y) refl

  pub caa3-met : (r l t y : ℕ) → In d sets.region r → In d sets.timeslice l → In d sets.technology t → In d sets.year y
      → x (rate_of_total_activity r l t y) ≡ sum_over (modes d) (λ m. x (rate_of_activity r l t m y))
  caa3-met r l t y in_r in_l in_t in_y = met CAA3 (at_rlty r l t y) refl (values-rlty d r l t y in_r in_l in_t in_y) refl

  pub aac1-met : (r t y : ℕ) → In d sets.region r → In d sets.technology t → In d sets.year y
      → scale_of 1 *ℤ x (total_technology_annual_activity r t y) ≡ sum_over (timeslices d) (λ l. x (rate_of_total_activity r l t y) *ℤ year_split d l y)
  aac1-met r t y in_r in_t in_y = met AAC1 (at_rty r t y) refl (values-rty d r t y in_r in_t in_y) refl

  pub acc3-met : (r t m y : ℕ) → In d sets.region r → In d sets.technology t → In d sets.mode m → In d sets.year y
      → scale_of 1 *ℤ x (total_annual_technology_activity_by_mode r t m y) ≡ sum_over (timeslices d) (λ l. x (rate_of_activity r l t m y) *ℤ year_split d l y)
  acc3-met r t m y in_r in_t in_m in_y = met ACC3 (at_rtmy r t m y) refl (values-rtmy d r t m y in_r in_t in_m in_y) refl

  -- ---- production, use and trade

  pub eba1-met : (r l t f m y : ℕ) → In d sets.region r → In d sets.timeslice l → In d sets.technology t → In d sets.fuel f → In d sets.mode m → In d sets.year y → produces_in_mode d r t f m y ≡ true
      → scale_of 1 *ℤ x (rate_of_production_by_technology_by_mode r l t f m y) ≡ x (rate_of_activity r l t m y) *ℤ output_activity_ratio d r t f m y
  eba1-met r l t f m y in_r in_l in_t in_f in_m in_y stands = met EBA1 (at_rltfmy r l t f m y) refl (values-rltfmy d r l t f m y in_r in_l in_t in_f in_m in_y) stands

  pub eba2-met : (r l t f y : ℕ) → In d sets.region r → In d sets.timeslice l → In d sets.technology t → In d sets.fuel f → In d sets.year y → produces d r t f y ≡ true
      → x (rate_of_production_by_technology r l t f y) ≡ sum_over (producing_modes d r t f y) (λ m. x (rate_of_production_by_technology_by_mode r l t f m y))
  eba2-met r l t f y in_r in_l in_t in_f in_y stands = met EBA2 (at_rltfy r l t f y) refl (values-rltfy d r l t f y in_r in_l in_t in_f in_y) stands

  pub acc1-met : (r l t f y : ℕ) → In d sets.region r → In d sets.timeslice l → In d sets.technology t → In d sets.fuel f → In d sets.year y → produces d r t f y ≡ true
      → scale_of 1 *ℤ x (production_by_technology r l t f y) ≡ x (rate_of_production_by_technology r l t f y) *ℤ year_split d l y
  acc1-met r l t f y in_r in_l in_t in_f in_y stands = met ACC1 (at_rltfy r l t f y) refl (values-rltfy d r l t f y in_r in_l in_t in_f in_y) stands

  pub re1-met : (r t f y : ℕ) → In d sets.region r → In d sets.technology t → In d sets.fuel f → In d sets.year y → produces d r t f y ≡ true
      → x (production_by_technology_annual r t f y) ≡ sum_over (timeslices d) (λ l. x (production_by_technology r l t f y))
  re1-met r t f y in_r in_t in_f in_y stands = met RE1 (at_rtfy r t f y) refl (values-rtfy d r t f y in_r in_t in_f in_y) stands

  pub eba4-met : (r l t f m y : ℕ) → In d sets.region r → In d sets.timeslice l → In d sets.technology t → In d sets.fuel f → In d sets.mode m → In d sets.year y → uses_in_mode d r t f m y ≡ true
      → scale_of 1 *ℤ x (rate_of_use_by_technology_by_mode r l t f m y) ≡ x (rate_of_activity r l t m y) *ℤ input_activity_ratio d r t f m y
  eba4-met r l t f m y in_r in_l in_t in_f in_m in_y stands = met EBA4 (at_rltfmy r l t f m y) refl (values-rltfmy d r l t f m y in_r in_l in_t in_f in_m in_y) stands

  pub eba5-met : (r l t f y : ℕ) → In d sets.region r → In d sets.timeslice l → In d sets.technology t → In d sets.fuel f → In d sets.year y → uses d r t f y ≡ true
      → x (rate_of_use_by_technology r l t f y) ≡ sum_over (using_modes d r t f y) (λ m. x (rate_of_use_by_technology_by_mode r l t f m y))
  eba5-met r l t f y in_r in_l in_t in_f in_y stands = met EBA5 (at_rltfy r l t f y) refl (values-rltfy d r l t f y in_r in_l in_t in_f in_y) stands

  pub acc2-met : (r l t f y : ℕ) → In d sets.region r → In d sets.timeslice l → In d sets.technology t → In d sets.fuel f → In d sets.year y → uses d r t f y ≡ true
      → scale_of 1 *ℤ x (use_by_technology r l t f y) ≡ x (rate_of_use_by_technology r l t f y) *ℤ year_split d l y
  acc2-met r l t f y in_r in_l in_t in_f in_y stands = met ACC2 (at_rltfy r l t f y) refl (values-rltfy d r l t f y in_r in_l in_t in_f in_y) stands

  pub re5-met : (r t f y : ℕ) → In d sets.region r → In d sets.technology t → In d sets.fuel f → In d sets.year y → uses d r t f y ≡ true
      → x (use_by_technology_annual r t f y) ≡ sum_over (timeslices d) (λ l. x (use_by_technology r l t f y))
  re5-met r t f y in_r in_t in_f in_y stands = met RE5 (at_rtfy r t f y) refl (values-rtfy d r t f y in_r in_t in_f in_y) stands

  pub ebb3-met : (r rr f y : ℕ) → In d sets.region r → In d sets.region rr → In d sets.fuel f → In d sets.year y
      → x (trade_annual r rr f y) ≡ sum_over (timeslices d) (λ l. x (trade r rr l f y))
  ebb3-met r rr f y in_r in_rr in_f in_y = met EBB3 (at_rrrfy r rr f y) refl (values-rrrfy d r rr f y in_r in_rr in_f in_y) refl

  -- ---- emissions

  pub e1-met : (r t e m y : ℕ) → In d sets.region r → In d sets.technology t → In d sets.emission e → In d sets.mode m → In d sets.year y → emits_in_mode d r t e m y ≡ true
      → scale_of 1 *ℤ x (annual_technology_emission_by_mode r t e m y) ≡ emission_activity_ratio d r t e m y *ℤ x (total_annual_technology_activity_by_mode r t m y)
  e1-met r t e m y in_r in_t in_e in_m in_y stands = met E1 (at_rtemy r t e m y) refl (values-rtemy d r t e m y in_r in_t in_e in_m in_y) stands

  pub e2-met : (r t e y : ℕ) → In d sets.region r → In d sets.technology t → In d sets.emission e → In d sets.year y
      → x (annual_technology_emission r t e y) ≡ sum_over (emitting_modes d r t e y) (λ m. x (annual_technology_emission_by_mode r t e m y))
  e2-met r t e y in_r in_t in_e in_y = met E2 (at_rtey r t e y) refl (values-rtey d r t e y in_r in_t in_e in_y) refl

  pub e3-met : (r t e y : ℕ) → In d sets.region r → In d sets.technology t → In d sets.emission e → In d sets.year y
      → scale_of 1 *ℤ x (annual_technology_emission_penalty_by_emission r t e y) ≡ x (annual_technology_emission r t e y) *ℤ emissions_penalty d r e y
  e3-met r t e y in_r in_t in_e in_y = met E3 (at_rtey r t e y) refl (values-rtey d r t e y in_r in_t in_e in_y) refl

  pub e4-met : (r t y : ℕ) → In d sets.region r → In d sets.technology t → In d sets.year y
      → x (annual_technology_emissions_penalty r t y) ≡ sum_over (emissions d) (λ e. x (annual_technology_emission_penalty_by_emission r t e y))
  e4-met r t y in_r in_t in_y = met E4 (at_rty r t y) refl (values-rty d r t y in_r in_t in_y) refl

  pub e5-met : (r t y : ℕ) → In d sets.region r → In d sets.technology t → In d sets.year y
      → factor_scale places *ℤ x (discounted_technology_emissions_penalty r t y) ≡ x (annual_technology_emissions_penalty r t y) *ℤ operating_factor_of places d r (years_since_first d y)
  e5-met r t y in_r in_t in_y = met E5 (at_rty r t y) refl (values-rty d r t y in_r in_t in_y) refl

  pub e6-met : (r e y : ℕ) → In d sets.region r → In d sets.emission e → In d sets.year y
      → x (annual_emissions r e y) ≡ sum_over (technologies d) (λ t. x (annual_technology_emission r t e y))
  e6-met r e y in_r in_e in_y = met E6 (at_rey r e y) refl (values-rey d r e y in_r in_e in_y) refl

  -- ---- costs

  -- the investment under either profile
  pub cc1-met : (r t y : ℕ) → In d sets.region r → In d sets.technology t → In d sets.year y
      → scale_of 1 *ℤ two_factors places *ℤ x (capital_investment r t y) ≡ x (new_capacity r t y) *ℤ capital_cost d r t y *ℤ paid_for_one places d r t
  cc1-met r t y in_r in_t in_y = by_profile d.second (met CC1 (at_rty r t y) refl (values-rty d r t y in_r in_t in_y) refl)
    where
      by_profile : (b : Bool) → Holds (if b then recovered places d x r t y else paid_at_once d x r t y)
          → scale_of 1 *ℤ two_factors places *ℤ x (capital_investment r t y)
          ≡ x (new_capacity r t y) *ℤ capital_cost d r t y *ℤ (if b then recovery_factor_of places d r t *ℤ annuity_of places d r t else two_factors places)
      by_profile true said =
          recovered_apart (scale_of 1) (factor_scale places) (x (capital_investment r t y)) (capital_cost d r t y) (recovery_factor_of places d r t) (annuity_of places d r t) (x (new_capacity r t y)) said
      by_profile false said = paid_scaled (scale_of 1) (two_factors places) (x (capital_investment r t y)) (capital_cost d r t y) (x (new_capacity r t y)) said

  pub cc2-met : (r t y : ℕ) → In d sets.region r → In d sets.technology t → In d sets.year y
      → factor_scale places *ℤ x (discounted_capital_investment r t y) ≡ x (capital_investment r t y) *ℤ capital_factor_of places d r (years_since_first d y)
  cc2-met r t y in_r in_t in_y = met CC2 (at_rty r t y) refl (values-rty d r t y in_r in_t in_y) refl

  -- the salvage value, by whichever of its three equations stands
  pub sv-met : (r t y : ℕ) → In d sets.region r → In d sets.technology t → In d sets.year y
      → scale_of 1 *ℤ factor_scale places *ℤ x (salvage_value r t y) ≡ capital_cost d r t y *ℤ x (new_capacity r t y) *ℤ part_left places d r t y
  sv-met r t y in_r in_t in_y = by_test (has_sv1 d r t y) (has_sv2 d r t y) refl refl
    where
      by_test : (one two : Bool) → has_sv1 d r t y ≡ one → has_sv2 d r t y ≡ two
          → scale_of 1 *ℤ factor_scale places *ℤ x (salvage_value r t y)
          ≡ capital_cost d r t y *ℤ x (new_capacity r t y) *ℤ (if one then salvage_fraction_of places d 1 r t y else if two then salvage_fraction_of places d 2 r t y else pos 0)
      by_test true two is also = met SV1 (at_rty r t y) refl (values-rty d r t y in_r in_t in_y) is
      by_test false true is also = met SV2 (at_rty r t y) refl (values-rty d r t y in_r in_t in_y) also
      by_test false false is also =
          let none : x (salvage_value r t y) ≡ pos 0 = met SV3 (at_rty r t y) refl (values-rty d r t y in_r in_t in_y) (ap₂ (λ a b. not a && not b) is also) in
          ap (λ z. scale_of 1 *ℤ factor_scale places *ℤ z) none ∙ *ℤ-zero (scale_of 1 *ℤ factor_scale places) ∙ sym (*ℤ-zero (capital_cost d r t y *ℤ x (new_capacity r t y)))

  pub sv4-met : (r t y : ℕ) → In d sets.region r → In d sets.technology t → In d sets.year y
      → factor_scale places *ℤ x (discounted_salvage_value r t y) ≡ x (salvage_value r t y) *ℤ capital_factor_of places d r (years_in_all d)
  sv4-met r t y in_r in_t in_y = met SV4 (at_rty r t y) refl (values-rty d r t y in_r in_t in_y) refl

  pub oc1-met : (r t y : ℕ) → In d sets.region r → In d sets.technology t → In d sets.year y
      → scale_of 1 *ℤ x (annual_variable_operating_cost r t y) ≡ sum_over (modes d) (λ m. x (total_annual_technology_activity_by_mode r t m y) *ℤ variable_cost d r t m y)
  oc1-met r t y in_r in_t in_y = met OC1 (at_rty r t y) refl (values-rty d r t y in_r in_t in_y) refl

  pub oc2-met : (r t y : ℕ) → In d sets.region r → In d sets.technology t → In d sets.year y
      → scale_of 1 *ℤ x (annual_fixed_operating_cost r t y) ≡ x (total_capacity_annual r t y) *ℤ fixed_cost d r t y
  oc2-met r t y in_r in_t in_y = met OC2 (at_rty r t y) refl (values-rty d r t y in_r in_t in_y) refl

  pub oc3-met : (r t y : ℕ) → In d sets.region r → In d sets.technology t → In d sets.year y
      → x (operating_cost r t y) ≡ x (annual_variable_operating_cost r t y) +ℤ x (annual_fixed_operating_cost r t y)
  oc3-met r t y in_r in_t in_y = met OC3 (at_rty r t y) refl (values-rty d r t y in_r in_t in_y) refl

  pub oc4-met : (r t y : ℕ) → In d sets.region r → In d sets.technology t → In d sets.year y
      → factor_scale places *ℤ x (discounted_operating_cost r t y) ≡ x (operating_cost r t y) *ℤ operating_factor_of places d r (years_since_first d y)
  oc4-met r t y in_r in_t in_y = met OC4 (at_rty r t y) refl (values-rty d r t y in_r in_t in_y) refl

  pub tdc1-met : (r t y : ℕ) → In d sets.region r → In d sets.technology t → In d sets.year y
      → x (total_discounted_cost_by_technology r t y)
      ≡ x (discounted_operating_cost r t y) +ℤ x (discounted_capital_investment r t y) +ℤ x (discounted_technology_emissions_penalty r t y) -ℤ x (discounted_salvage_value r t y)
  tdc1-met r t y in_r in_t in_y = met TDC1 (at_rty r t y) refl (values-rty d r t y in_r in_t in_y) refl

  pub tdc2-met : (r y : ℕ) → In d sets.region r → In d sets.year y
      → x (total_discounted_cost r y) ≡ sum_over (technologies d) (λ t. x (total_discounted_cost_by_technology r t y))
  tdc2-met r y in_r in_y = met TDC2 (at_ry r y) refl (values-ry d r y in_r in_y) refl
