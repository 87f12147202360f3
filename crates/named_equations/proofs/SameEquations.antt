-- Two data that are the same, or the same but for numbers that one equation alone reads, say the same of every plan, at positions in the sets, by each of the named equations.
use Rattle.named_equations.proofs.Common.{◌≡◌, ℕ, ◌*ℤ◌, Bool, true, false, List, refl, ap, ap₂, ◌∙◌, Data, Default, Given, Index, EQ_SPECIFIED_DEMAND, CAA1, CAA2, CAA3, CAA4, CAB1, EBA1, EBA2, EBA3, EBA4, EBA5, EBA6, EBA7, EBA8, EBA9, EBA10, EBA11, EBB1, EBB2, EBB3, EBB4, ACC1, ACC2, ACC3, CC1, CC2, SV1, SV2, SV3, SV4, OC1, OC2, OC3, OC4, E1, E2, E3, E4, E5, TDC1, TDC2, ACC4, TCC1, TCC2, NCC1, NCC2, AAC1, AAC2, AAC3, TAC1, TAC2, TAC3, RM1, RM2, RM3, RE1, RE2, RE3, RE4, RE5, E6, E7, E8, E9, EQUATION_COUNT, Var, name_at, subscripts_of, sum_over, capacity_factor, capacity_to_activity_unit, re_tag_fuel, re_tag_technology, reserve_margin_tag_fuel, reserve_margin_tag_technology, trade_route, variable_cost, year_split, says, count_of, fuels, years_in_all, years_since_first, production_by_technology_annual, rate_of_activity, rate_of_production, rate_of_total_activity, total_annual_technology_activity_by_mode, total_capacity_annual, trade, trade_annual, produced_fuels}
use Rattle.named_equations.specs.Notation.{scale_of, ◌equals◌}
use Rattle.named_equations.specs.Variables.{rate_of_demand}
use Rattle.std.specs.Prelude.{ℤ, pos, if◌then◌else◌}
use Rattle.model_sets.specs.Names as sets
use Rattle.named_equations.specs.CapitalCosts.{paid_at_once, recovered}
use Rattle.named_equations.proofs.PositionsInSets.{AreInSets}
use Rattle.named_equations.proofs.SameConditions.{annuity_of-same, capital_factor_of-same, emitting_modes-same, operating_factor_of-same, produced_fuels-same, producing_modes-same, producing_technologies-same, recovery_factor_of-same, salvage_fraction_of-same, using_modes-same, using_technologies-same, years_counting-same}
use Rattle.named_equations.specs.Constants.{constant_of}
use Rattle.named_equations.proofs.SameParameters.{annual_exogenous_emission-same, availability_factor-same, capacity_factor-same, capacity_to_activity_unit-same, capital_cost-same, emission_activity_ratio-same, emissions_penalty-same, fixed_cost-same, input_activity_ratio-same, model_period_exogenous_emission-same, output_activity_ratio-same, re_min_production_target-same, re_tag_fuel-same, re_tag_technology-same, reserve_margin-same, reserve_margin_tag_fuel-same, reserve_margin_tag_technology-same, residual_capacity-same, trade_route-same, variable_cost-same, year_split-same}
use Rattle.named_equations.proofs.SameValues.{Agree, ◌also◌, with_values, sum-same}
use Rattle.named_equations.proofs.TermMeaning.{EachFrom}

module _ {d : Data} {given : List Given} {defaults : List Default} (same : Agree d given defaults) (places q : ℕ) (x : Var → ℤ) where
  -- where its subscripts lie in their sets, and what it alone reads is the same, the equation of this number says the same at the index
  abbrev pub SaysSame : Index → ℕ → Type 0
  SaysSame i eq = AreInSets d (subscripts_of eq) i → constant_of eq d i ≡ constant_of eq (with_values d given defaults) i → says places d q x (name_at eq i) ≡ says places (with_values d given defaults) q x (name_at eq i)

  eq_specified_demand-same : (i : Index) → SaysSame i EQ_SPECIFIED_DEMAND
  eq_specified_demand-same i at constant =
      ap₂ (λ part demanded. scale_of 1 *ℤ part *ℤ x (rate_of_demand i.region i.slice i.fuel i.year) equals demanded *ℤ pos q)
      (year_split-same same i.slice i.year (at.slice refl) (at.year refl)) constant

  caa1-same : (i : Index) → SaysSame i CAA1
  caa1-same i at constant = cc (years_counting-same same i.region i.tech i.year (at.region refl) (at.technology refl))

  caa2-same : (i : Index) → SaysSame i CAA2
  caa2-same i at constant = cc (residual_capacity-same same i.region i.tech i.year (at.region refl) (at.technology refl) (at.year refl))

  caa3-same : (i : Index) → SaysSame i CAA3
  caa3-same i at constant = refl

  caa4-same : (i : Index) → SaysSame i CAA4
  caa4-same i at constant = cc (capacity_factor-same same i.region i.tech i.slice i.year (at.region refl) (at.technology refl) (at.slice refl) (at.year refl), capacity_to_activity_unit-same same i.region i.tech (at.region refl) (at.technology refl))

  cab1-same : (i : Index) → SaysSame i CAB1
  cab1-same i at constant =
      let use_of : Data → ℕ → ℤ = λ e l. x (rate_of_total_activity i.region l i.tech i.year) *ℤ year_split e l i.year in
      let part : Data → ℕ → ℤ = λ e l. capacity_factor e i.region i.tech l i.year *ℤ year_split e l i.year in
      cc (
        availability_factor-same same i.region i.tech i.year (at.region refl) (at.technology refl) (at.year refl),
        capacity_to_activity_unit-same same i.region i.tech (at.region refl) (at.technology refl),
        sum-same (count_of d sets.timeslice) (use_of d) (use_of (with_values d given defaults)) (λ l in_l. cc (year_split-same same l i.year in_l (at.year refl))),
        sum-same (count_of d sets.timeslice) (part d) (part (with_values d given defaults)) (λ l in_l. cc (capacity_factor-same same i.region i.tech l i.year (at.region refl) (at.technology refl) in_l (at.year refl), year_split-same same l i.year in_l (at.year refl))),
      )

  eba1-same : (i : Index) → SaysSame i EBA1
  eba1-same i at constant = cc (output_activity_ratio-same same i.region i.tech i.fuel i.mode i.year (at.region refl) (at.technology refl) (at.fuel refl) (at.mode refl) (at.year refl))

  eba2-same : (i : Index) → SaysSame i EBA2
  eba2-same i at constant = cc (producing_modes-same same i.region i.tech i.fuel i.year (at.region refl) (at.technology refl) (at.fuel refl) (at.year refl))

  eba3-same : (i : Index) → SaysSame i EBA3
  eba3-same i at constant = cc (producing_technologies-same same i.region i.fuel i.year (at.region refl) (at.fuel refl) (at.year refl))

  eba4-same : (i : Index) → SaysSame i EBA4
  eba4-same i at constant = cc (input_activity_ratio-same same i.region i.tech i.fuel i.mode i.year (at.region refl) (at.technology refl) (at.fuel refl) (at.mode refl) (at.year refl))

  eba5-same : (i : Index) → SaysSame i EBA5
  eba5-same i at constant = cc (using_modes-same same i.region i.tech i.fuel i.year (at.region refl) (at.technology refl) (at.fuel refl) (at.year refl))

  eba6-same : (i : Index) → SaysSame i EBA6
  eba6-same i at constant = cc (using_technologies-same same i.region i.fuel i.year (at.region refl) (at.fuel refl) (at.year refl))

  eba7-same : (i : Index) → SaysSame i EBA7
  eba7-same i at constant = cc (year_split-same same i.slice i.year (at.slice refl) (at.year refl))

  eba8-same : (i : Index) → SaysSame i EBA8
  eba8-same i at constant = cc (year_split-same same i.slice i.year (at.slice refl) (at.year refl))

  eba9-same : (i : Index) → SaysSame i EBA9
  eba9-same i at constant = cc (year_split-same same i.slice i.year (at.slice refl) (at.year refl))

  eba10-same : (i : Index) → SaysSame i EBA10
  eba10-same i at constant = refl

  eba11-same : (i : Index) → SaysSame i EBA11
  eba11-same i at constant =
      let part : Data → ℕ → ℤ = λ e rr. x (trade i.region rr i.slice i.fuel i.year) *ℤ trade_route e i.region rr i.fuel i.year in
      cc (sum-same (count_of d sets.region) (part d) (part (with_values d given defaults)) (λ rr in_rr. cc (trade_route-same same i.region rr i.fuel i.year (at.region refl) in_rr (at.fuel refl) (at.year refl))))

  ebb1-same : (i : Index) → SaysSame i EBB1
  ebb1-same i at constant = refl

  ebb2-same : (i : Index) → SaysSame i EBB2
  ebb2-same i at constant = refl

  ebb3-same : (i : Index) → SaysSame i EBB3
  ebb3-same i at constant = refl

  ebb4-same : (i : Index) → SaysSame i EBB4
  ebb4-same i at constant =
      let part : Data → ℕ → ℤ = λ e rr. x (trade_annual i.region rr i.fuel i.year) *ℤ trade_route e i.region rr i.fuel i.year in
      cc (
        constant,
        sum-same (count_of d sets.region) (part d) (part (with_values d given defaults)) (λ rr in_rr. cc (trade_route-same same i.region rr i.fuel i.year (at.region refl) in_rr (at.fuel refl) (at.year refl))),
      )

  acc1-same : (i : Index) → SaysSame i ACC1
  acc1-same i at constant = cc (year_split-same same i.slice i.year (at.slice refl) (at.year refl))

  acc2-same : (i : Index) → SaysSame i ACC2
  acc2-same i at constant = cc (year_split-same same i.slice i.year (at.slice refl) (at.year refl))

  acc3-same : (i : Index) → SaysSame i ACC3
  acc3-same i at constant =
      let part : Data → ℕ → ℤ = λ e l. x (rate_of_activity i.region l i.tech i.mode i.year) *ℤ year_split e l i.year in
      cc (sum-same (count_of d sets.timeslice) (part d) (part (with_values d given defaults)) (λ l in_l. cc (year_split-same same l i.year in_l (at.year refl))))

  cc1-same : (i : Index) → SaysSame i CC1
  cc1-same i at constant = by_profile d.second refl
    where
      by_profile : (second : Bool) → d.second ≡ second
          → (if second then recovered places d x i.region i.tech i.year else paid_at_once d x i.region i.tech i.year)
          ≡ (if second then recovered places (with_values d given defaults) x i.region i.tech i.year else paid_at_once (with_values d given defaults) x i.region i.tech i.year)
      by_profile true is =
          cc (
            capital_cost-same same i.region i.tech i.year (at.region refl) (at.technology refl) (at.year refl),
            recovery_factor_of-same same is places i.region i.tech (at.region refl) (at.technology refl),
            annuity_of-same same places i.region i.tech (at.region refl) (at.technology refl),
          )
      by_profile false is = cc (capital_cost-same same i.region i.tech i.year (at.region refl) (at.technology refl) (at.year refl))

  cc2-same : (i : Index) → SaysSame i CC2
  cc2-same i at constant = cc (capital_factor_of-same same places i.region (years_since_first d i.year) (at.region refl))

  sv1-same : (i : Index) → SaysSame i SV1
  sv1-same i at constant = cc (capital_cost-same same i.region i.tech i.year (at.region refl) (at.technology refl) (at.year refl), salvage_fraction_of-same same places 1 i.region i.tech i.year (at.region refl) (at.technology refl))

  sv2-same : (i : Index) → SaysSame i SV2
  sv2-same i at constant = cc (capital_cost-same same i.region i.tech i.year (at.region refl) (at.technology refl) (at.year refl), salvage_fraction_of-same same places 2 i.region i.tech i.year (at.region refl) (at.technology refl))

  sv3-same : (i : Index) → SaysSame i SV3
  sv3-same i at constant = refl

  sv4-same : (i : Index) → SaysSame i SV4
  sv4-same i at constant = cc (capital_factor_of-same same places i.region (years_in_all d) (at.region refl))

  oc1-same : (i : Index) → SaysSame i OC1
  oc1-same i at constant =
      let part : Data → ℕ → ℤ = λ e m. x (total_annual_technology_activity_by_mode i.region i.tech m i.year) *ℤ variable_cost e i.region i.tech m i.year in
      cc (sum-same (count_of d sets.mode) (part d) (part (with_values d given defaults)) (λ m in_m. cc (variable_cost-same same i.region i.tech m i.year (at.region refl) (at.technology refl) in_m (at.year refl))))

  oc2-same : (i : Index) → SaysSame i OC2
  oc2-same i at constant = cc (fixed_cost-same same i.region i.tech i.year (at.region refl) (at.technology refl) (at.year refl))

  oc3-same : (i : Index) → SaysSame i OC3
  oc3-same i at constant = refl

  oc4-same : (i : Index) → SaysSame i OC4
  oc4-same i at constant = cc (operating_factor_of-same same places i.region (years_since_first d i.year) (at.region refl))

  e1-same : (i : Index) → SaysSame i E1
  e1-same i at constant = cc (emission_activity_ratio-same same i.region i.tech i.emission i.mode i.year (at.region refl) (at.technology refl) (at.emission refl) (at.mode refl) (at.year refl))

  e2-same : (i : Index) → SaysSame i E2
  e2-same i at constant = cc (emitting_modes-same same i.region i.tech i.emission i.year (at.region refl) (at.technology refl) (at.emission refl) (at.year refl))

  e3-same : (i : Index) → SaysSame i E3
  e3-same i at constant = cc (emissions_penalty-same same i.region i.emission i.year (at.region refl) (at.emission refl) (at.year refl))

  e4-same : (i : Index) → SaysSame i E4
  e4-same i at constant = refl

  e5-same : (i : Index) → SaysSame i E5
  e5-same i at constant = cc (operating_factor_of-same same places i.region (years_since_first d i.year) (at.region refl))

  tdc1-same : (i : Index) → SaysSame i TDC1
  tdc1-same i at constant = refl

  tdc2-same : (i : Index) → SaysSame i TDC2
  tdc2-same i at constant = refl

  acc4-same : (i : Index) → SaysSame i ACC4
  acc4-same i at constant = refl

  tcc1-same : (i : Index) → SaysSame i TCC1
  tcc1-same i at constant = cc constant

  tcc2-same : (i : Index) → SaysSame i TCC2
  tcc2-same i at constant = cc constant

  ncc1-same : (i : Index) → SaysSame i NCC1
  ncc1-same i at constant = cc constant

  ncc2-same : (i : Index) → SaysSame i NCC2
  ncc2-same i at constant = cc constant

  aac1-same : (i : Index) → SaysSame i AAC1
  aac1-same i at constant =
      let part : Data → ℕ → ℤ = λ e l. x (rate_of_total_activity i.region l i.tech i.year) *ℤ year_split e l i.year in
      cc (sum-same (count_of d sets.timeslice) (part d) (part (with_values d given defaults)) (λ l in_l. cc (year_split-same same l i.year in_l (at.year refl))))

  aac2-same : (i : Index) → SaysSame i AAC2
  aac2-same i at constant = cc constant

  aac3-same : (i : Index) → SaysSame i AAC3
  aac3-same i at constant = cc constant

  tac1-same : (i : Index) → SaysSame i TAC1
  tac1-same i at constant = refl

  tac2-same : (i : Index) → SaysSame i TAC2
  tac2-same i at constant = cc constant

  tac3-same : (i : Index) → SaysSame i TAC3
  tac3-same i at constant = cc constant

  rm1-same : (i : Index) → SaysSame i RM1
  rm1-same i at constant =
      let part : Data → ℕ → ℤ = λ e t. x (total_capacity_annual i.region t i.year) *ℤ (reserve_margin_tag_technology e i.region t i.year *ℤ capacity_to_activity_unit e i.region t) in
      cc (sum-same (count_of d sets.technology) (part d) (part (with_values d given defaults)) (λ t in_t. cc (reserve_margin_tag_technology-same same i.region t i.year (at.region refl) in_t (at.year refl), capacity_to_activity_unit-same same i.region t (at.region refl) in_t)))

  rm2-same : (i : Index) → SaysSame i RM2
  rm2-same i at constant =
      let part : Data → ℕ → ℤ = λ e f. x (rate_of_production i.region i.slice f i.year) *ℤ reserve_margin_tag_fuel e i.region f i.year in
      cc (sum-same (count_of d sets.fuel) (part d) (part (with_values d given defaults)) (λ f in_f. cc (reserve_margin_tag_fuel-same same i.region f i.year (at.region refl) in_f (at.year refl))))

  rm3-same : (i : Index) → SaysSame i RM3
  rm3-same i at constant = cc (reserve_margin-same same i.region i.year (at.region refl) (at.year refl))

  re1-same : (i : Index) → SaysSame i RE1
  re1-same i at constant = refl

  re2-same : (i : Index) → SaysSame i RE2
  re2-same i at constant =
      let part : Data → ℕ → ℕ → ℤ = λ e t f. x (production_by_technology_annual i.region t f i.year) *ℤ re_tag_technology e i.region t i.year in
      let made : Data → ℕ → ℤ = λ e t. sum_over (produced_fuels e i.region t i.year) (part e t) in
      cc (sum-same (count_of d sets.technology) (made d) (made (with_values d given defaults))
      (λ t in_t.
      ap (λ fs. sum_over fs (part d t)) (produced_fuels-same same i.region t i.year (at.region refl) in_t (at.year refl))
      ∙ ap (λ z. sum_over (produced_fuels (with_values d given defaults) i.region t i.year) (λ f. x (production_by_technology_annual i.region t f i.year) *ℤ z)) (re_tag_technology-same same i.region t i.year (at.region refl) in_t (at.year refl))))

  re3-same : (i : Index) → SaysSame i RE3
  re3-same i at constant =
      let part : Data → ℕ → ℕ → ℤ = λ e l f. x (rate_of_production i.region l f i.year) *ℤ (year_split e l i.year *ℤ re_tag_fuel e i.region f i.year) in
      cc (sum-same (count_of d sets.timeslice) (λ l. sum_over (fuels d) (part d l)) (λ l. sum_over (fuels d) (part (with_values d given defaults) l))
      (λ l in_l.
      sum-same (count_of d sets.fuel) (part d l) (part (with_values d given defaults) l)
      (λ f in_f. cc (year_split-same same l i.year in_l (at.year refl), re_tag_fuel-same same i.region f i.year (at.region refl) in_f (at.year refl)))))

  re4-same : (i : Index) → SaysSame i RE4
  re4-same i at constant = cc (re_min_production_target-same same i.region i.year (at.region refl) (at.year refl))

  re5-same : (i : Index) → SaysSame i RE5
  re5-same i at constant = refl

  e6-same : (i : Index) → SaysSame i E6
  e6-same i at constant = refl

  e7-same : (i : Index) → SaysSame i E7
  e7-same i at constant = cc (model_period_exogenous_emission-same same i.region i.emission (at.region refl) (at.emission refl))

  e8-same : (i : Index) → SaysSame i E8
  e8-same i at constant = cc (constant, annual_exogenous_emission-same same i.region i.emission i.year (at.region refl) (at.emission refl) (at.year refl))

  e9-same : (i : Index) → SaysSame i E9
  e9-same i at constant = cc constant

  -- so each of the 64
  pub all-say : (i : Index) → EachFrom (SaysSame i) 1 EQUATION_COUNT
  all-say i =
      eq_specified_demand-same i also caa1-same i also caa2-same i also caa3-same i also caa4-same i also cab1-same i also eba1-same i also
      eba2-same i also eba3-same i also eba4-same i also eba5-same i also eba6-same i also eba7-same i also eba8-same i also
      eba9-same i also eba10-same i also eba11-same i also ebb1-same i also ebb2-same i also ebb3-same i also ebb4-same i also
      acc1-same i also acc2-same i also acc3-same i also cc1-same i also cc2-same i also sv1-same i also sv2-same i also
      sv3-same i also sv4-same i also oc1-same i also oc2-same i also oc3-same i also oc4-same i also e1-same i also
      e2-same i also e3-same i also e4-same i also e5-same i also tdc1-same i also tdc2-same i also acc4-same i also
      tcc1-same i also tcc2-same i also ncc1-same i also ncc2-same i also aac1-same i also aac2-same i also aac3-same i also
      tac1-same i also tac2-same i also tac3-same i also rm1-same i also rm2-same i also rm3-same i also re1-same i also
      re2-same i also re3-same i also re4-same i also re5-same i also e6-same i also e7-same i also e8-same i also
      e9-same i also tt
