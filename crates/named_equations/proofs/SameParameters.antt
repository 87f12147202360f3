-- Two data that are the same have the same value of each parameter, by name, at positions in its sets.
use Rattle.named_equations.proofs.Common.{◌≡◌, ℕ, true, List, [], ◌∷◌, refl, arith, YEAR_SPLIT, DISCOUNT_RATE, DEPRECIATION_METHOD, TRADE_ROUTE, SPECIFIED_ANNUAL_DEMAND, SPECIFIED_DEMAND_PROFILE, ACCUMULATED_ANNUAL_DEMAND, CAPACITY_TO_ACTIVITY_UNIT, CAPACITY_FACTOR, AVAILABILITY_FACTOR, OPERATIONAL_LIFE, RESIDUAL_CAPACITY, INPUT_ACTIVITY_RATIO, OUTPUT_ACTIVITY_RATIO, CAPITAL_COST, VARIABLE_COST, FIXED_COST, CAPACITY_OF_ONE_TECHNOLOGY_UNIT, TOTAL_ANNUAL_MAX_CAPACITY, TOTAL_ANNUAL_MIN_CAPACITY, TOTAL_ANNUAL_MAX_CAPACITY_INVESTMENT, TOTAL_ANNUAL_MIN_CAPACITY_INVESTMENT, TOTAL_TECHNOLOGY_ANNUAL_ACTIVITY_UPPER_LIMIT, TOTAL_TECHNOLOGY_ANNUAL_ACTIVITY_LOWER_LIMIT, TOTAL_TECHNOLOGY_MODEL_PERIOD_ACTIVITY_UPPER_LIMIT, TOTAL_TECHNOLOGY_MODEL_PERIOD_ACTIVITY_LOWER_LIMIT, RESERVE_MARGIN_TAG_TECHNOLOGY, RESERVE_MARGIN_TAG_FUEL, RESERVE_MARGIN, RE_TAG_TECHNOLOGY, RE_TAG_FUEL, RE_MIN_PRODUCTION_TARGET, EMISSION_ACTIVITY_RATIO, EMISSIONS_PENALTY, ANNUAL_EXOGENOUS_EMISSION, ANNUAL_EMISSION_LIMIT, MODEL_PERIOD_EXOGENOUS_EMISSION, MODEL_PERIOD_EMISSION_LIMIT, DISCOUNT_RATE_IDV, Data, Default, Given, year_split, discount_rate, discount_rate_idv, depreciation_method, trade_route, specified_annual_demand, specified_demand_profile, accumulated_annual_demand, capacity_to_activity_unit, capacity_factor, availability_factor, operational_life, residual_capacity, input_activity_ratio, output_activity_ratio, capital_cost, variable_cost, fixed_cost, capacity_of_one_technology_unit, total_annual_max_capacity, total_annual_min_capacity, total_annual_max_capacity_investment, total_annual_min_capacity_investment, total_technology_annual_activity_upper_limit, total_technology_annual_activity_lower_limit, total_technology_model_period_activity_upper_limit, total_technology_model_period_activity_lower_limit, reserve_margin_tag_technology, reserve_margin_tag_fuel, reserve_margin, re_tag_technology, re_tag_fuel, re_min_production_target, emission_activity_ratio, emissions_penalty, annual_exogenous_emission, annual_emission_limit, model_period_exogenous_emission, model_period_emission_limit, IsRegion, IsSlice, IsTechnology, IsFuel, IsEmission, IsMode, IsYear}
use Rattle.named_equations.proofs.SameValues.{Agree, AgreeInAll, with_values}

module _ {d : Data} {given : List Given} {defaults : List Default} (same : Agree d given defaults) where
  pub year_split-same : (l y : ℕ) → IsSlice d l → IsYear d y → year_split d l y ≡ year_split (with_values d given defaults) l y
  year_split-same l y in_l in_y = same.values YEAR_SPLIT refl ((omega arith, omega arith), refl) (l ∷ y ∷ []) (in_l, (in_y, tt))

  pub discount_rate-same : (r : ℕ) → IsRegion d r → discount_rate d r ≡ discount_rate (with_values d given defaults) r
  discount_rate-same r in_r = same.values DISCOUNT_RATE refl ((omega arith, omega arith), refl) (r ∷ []) (in_r, tt)

  pub depreciation_method-same : (r : ℕ) → IsRegion d r → depreciation_method d r ≡ depreciation_method (with_values d given defaults) r
  depreciation_method-same r in_r = same.values DEPRECIATION_METHOD refl ((omega arith, omega arith), refl) (r ∷ []) (in_r, tt)

  pub trade_route-same : (r rr f y : ℕ) → IsRegion d r → IsRegion d rr → IsFuel d f → IsYear d y → trade_route d r rr f y ≡ trade_route (with_values d given defaults) r rr f y
  trade_route-same r rr f y in_r in_rr in_f in_y = same.values TRADE_ROUTE refl ((omega arith, omega arith), refl) (r ∷ rr ∷ f ∷ y ∷ []) (in_r, (in_rr, (in_f, (in_y, tt))))

  pub capacity_to_activity_unit-same : (r t : ℕ) → IsRegion d r → IsTechnology d t → capacity_to_activity_unit d r t ≡ capacity_to_activity_unit (with_values d given defaults) r t
  capacity_to_activity_unit-same r t in_r in_t = same.values CAPACITY_TO_ACTIVITY_UNIT refl ((omega arith, omega arith), refl) (r ∷ t ∷ []) (in_r, (in_t, tt))

  pub capacity_factor-same : (r t l y : ℕ) → IsRegion d r → IsTechnology d t → IsSlice d l → IsYear d y → capacity_factor d r t l y ≡ capacity_factor (with_values d given defaults) r t l y
  capacity_factor-same r t l y in_r in_t in_l in_y = same.values CAPACITY_FACTOR refl ((omega arith, omega arith), refl) (r ∷ t ∷ l ∷ y ∷ []) (in_r, (in_t, (in_l, (in_y, tt))))

  pub availability_factor-same : (r t y : ℕ) → IsRegion d r → IsTechnology d t → IsYear d y → availability_factor d r t y ≡ availability_factor (with_values d given defaults) r t y
  availability_factor-same r t y in_r in_t in_y = same.values AVAILABILITY_FACTOR refl ((omega arith, omega arith), refl) (r ∷ t ∷ y ∷ []) (in_r, (in_t, (in_y, tt)))

  pub operational_life-same : (r t : ℕ) → IsRegion d r → IsTechnology d t → operational_life d r t ≡ operational_life (with_values d given defaults) r t
  operational_life-same r t in_r in_t = same.values OPERATIONAL_LIFE refl ((omega arith, omega arith), refl) (r ∷ t ∷ []) (in_r, (in_t, tt))

  pub residual_capacity-same : (r t y : ℕ) → IsRegion d r → IsTechnology d t → IsYear d y → residual_capacity d r t y ≡ residual_capacity (with_values d given defaults) r t y
  residual_capacity-same r t y in_r in_t in_y = same.values RESIDUAL_CAPACITY refl ((omega arith, omega arith), refl) (r ∷ t ∷ y ∷ []) (in_r, (in_t, (in_y, tt)))

  pub input_activity_ratio-same : (r t f m y : ℕ) → IsRegion d r → IsTechnology d t → IsFuel d f → IsMode d m → IsYear d y → input_activity_ratio d r t f m y ≡ input_activity_ratio (with_values d given defaults) r t f m y
  input_activity_ratio-same r t f m y in_r in_t in_f in_m in_y = same.values INPUT_ACTIVITY_RATIO refl ((omega arith, omega arith), refl) (r ∷ t ∷ f ∷ m ∷ y ∷ []) (in_r, (in_t, (in_f, (in_m, (in_y, tt)))))

  pub output_activity_ratio-same : (r t f m y : ℕ) → IsRegion d r → IsTechnology d t → IsFuel d f → IsMode d m → IsYear d y → output_activity_ratio d r t f m y ≡ output_activity_ratio (with_values d given defaults) r t f m y
  output_activity_ratio-same r t f m y in_r in_t in_f in_m in_y = same.values OUTPUT_ACTIVITY_RATIO refl ((omega arith, omega arith), refl) (r ∷ t ∷ f ∷ m ∷ y ∷ []) (in_r, (in_t, (in_f, (in_m, (in_y, tt)))))

  pub capital_cost-same : (r t y : ℕ) → IsRegion d r → IsTechnology d t → IsYear d y → capital_cost d r t y ≡ capital_cost (with_values d given defaults) r t y
  capital_cost-same r t y in_r in_t in_y = same.values CAPITAL_COST refl ((omega arith, omega arith), refl) (r ∷ t ∷ y ∷ []) (in_r, (in_t, (in_y, tt)))

  pub variable_cost-same : (r t m y : ℕ) → IsRegion d r → IsTechnology d t → IsMode d m → IsYear d y → variable_cost d r t m y ≡ variable_cost (with_values d given defaults) r t m y
  variable_cost-same r t m y in_r in_t in_m in_y = same.values VARIABLE_COST refl ((omega arith, omega arith), refl) (r ∷ t ∷ m ∷ y ∷ []) (in_r, (in_t, (in_m, (in_y, tt))))

  pub fixed_cost-same : (r t y : ℕ) → IsRegion d r → IsTechnology d t → IsYear d y → fixed_cost d r t y ≡ fixed_cost (with_values d given defaults) r t y
  fixed_cost-same r t y in_r in_t in_y = same.values FIXED_COST refl ((omega arith, omega arith), refl) (r ∷ t ∷ y ∷ []) (in_r, (in_t, (in_y, tt)))

  pub capacity_of_one_technology_unit-same : (r t y : ℕ) → IsRegion d r → IsTechnology d t → IsYear d y → capacity_of_one_technology_unit d r t y ≡ capacity_of_one_technology_unit (with_values d given defaults) r t y
  capacity_of_one_technology_unit-same r t y in_r in_t in_y = same.values CAPACITY_OF_ONE_TECHNOLOGY_UNIT refl ((omega arith, omega arith), refl) (r ∷ t ∷ y ∷ []) (in_r, (in_t, (in_y, tt)))

  pub reserve_margin_tag_technology-same : (r t y : ℕ) → IsRegion d r → IsTechnology d t → IsYear d y → reserve_margin_tag_technology d r t y ≡ reserve_margin_tag_technology (with_values d given defaults) r t y
  reserve_margin_tag_technology-same r t y in_r in_t in_y = same.values RESERVE_MARGIN_TAG_TECHNOLOGY refl ((omega arith, omega arith), refl) (r ∷ t ∷ y ∷ []) (in_r, (in_t, (in_y, tt)))

  pub reserve_margin_tag_fuel-same : (r f y : ℕ) → IsRegion d r → IsFuel d f → IsYear d y → reserve_margin_tag_fuel d r f y ≡ reserve_margin_tag_fuel (with_values d given defaults) r f y
  reserve_margin_tag_fuel-same r f y in_r in_f in_y = same.values RESERVE_MARGIN_TAG_FUEL refl ((omega arith, omega arith), refl) (r ∷ f ∷ y ∷ []) (in_r, (in_f, (in_y, tt)))

  pub reserve_margin-same : (r y : ℕ) → IsRegion d r → IsYear d y → reserve_margin d r y ≡ reserve_margin (with_values d given defaults) r y
  reserve_margin-same r y in_r in_y = same.values RESERVE_MARGIN refl ((omega arith, omega arith), refl) (r ∷ y ∷ []) (in_r, (in_y, tt))

  pub re_tag_technology-same : (r t y : ℕ) → IsRegion d r → IsTechnology d t → IsYear d y → re_tag_technology d r t y ≡ re_tag_technology (with_values d given defaults) r t y
  re_tag_technology-same r t y in_r in_t in_y = same.values RE_TAG_TECHNOLOGY refl ((omega arith, omega arith), refl) (r ∷ t ∷ y ∷ []) (in_r, (in_t, (in_y, tt)))

  pub re_tag_fuel-same : (r f y : ℕ) → IsRegion d r → IsFuel d f → IsYear d y → re_tag_fuel d r f y ≡ re_tag_fuel (with_values d given defaults) r f y
  re_tag_fuel-same r f y in_r in_f in_y = same.values RE_TAG_FUEL refl ((omega arith, omega arith), refl) (r ∷ f ∷ y ∷ []) (in_r, (in_f, (in_y, tt)))

  pub re_min_production_target-same : (r y : ℕ) → IsRegion d r → IsYear d y → re_min_production_target d r y ≡ re_min_production_target (with_values d given defaults) r y
  re_min_production_target-same r y in_r in_y = same.values RE_MIN_PRODUCTION_TARGET refl ((omega arith, omega arith), refl) (r ∷ y ∷ []) (in_r, (in_y, tt))

  pub emission_activity_ratio-same : (r t e m y : ℕ) → IsRegion d r → IsTechnology d t → IsEmission d e → IsMode d m → IsYear d y → emission_activity_ratio d r t e m y ≡ emission_activity_ratio (with_values d given defaults) r t e m y
  emission_activity_ratio-same r t e m y in_r in_t in_e in_m in_y = same.values EMISSION_ACTIVITY_RATIO refl ((omega arith, omega arith), refl) (r ∷ t ∷ e ∷ m ∷ y ∷ []) (in_r, (in_t, (in_e, (in_m, (in_y, tt)))))

  pub emissions_penalty-same : (r e y : ℕ) → IsRegion d r → IsEmission d e → IsYear d y → emissions_penalty d r e y ≡ emissions_penalty (with_values d given defaults) r e y
  emissions_penalty-same r e y in_r in_e in_y = same.values EMISSIONS_PENALTY refl ((omega arith, omega arith), refl) (r ∷ e ∷ y ∷ []) (in_r, (in_e, (in_y, tt)))

  pub annual_exogenous_emission-same : (r e y : ℕ) → IsRegion d r → IsEmission d e → IsYear d y → annual_exogenous_emission d r e y ≡ annual_exogenous_emission (with_values d given defaults) r e y
  annual_exogenous_emission-same r e y in_r in_e in_y = same.values ANNUAL_EXOGENOUS_EMISSION refl ((omega arith, omega arith), refl) (r ∷ e ∷ y ∷ []) (in_r, (in_e, (in_y, tt)))

  pub model_period_exogenous_emission-same : (r e : ℕ) → IsRegion d r → IsEmission d e → model_period_exogenous_emission d r e ≡ model_period_exogenous_emission (with_values d given defaults) r e
  model_period_exogenous_emission-same r e in_r in_e = same.values MODEL_PERIOD_EXOGENOUS_EMISSION refl ((omega arith, omega arith), refl) (r ∷ e ∷ []) (in_r, (in_e, tt))

  pub discount_rate_idv-same : d.second ≡ true → (r t : ℕ) → IsRegion d r → IsTechnology d t → discount_rate_idv d r t ≡ discount_rate_idv (with_values d given defaults) r t
  discount_rate_idv-same second r t in_r in_t = same.values DISCOUNT_RATE_IDV refl ((omega arith, omega arith), second) (r ∷ t ∷ []) (in_r, (in_t, tt))

-- ---- parameters that one equation alone reads

module _ {d : Data} {given : List Given} {defaults : List Default} (same : AgreeInAll d given defaults) where
  pub specified_annual_demand-same : (r f y : ℕ) → IsRegion d r → IsFuel d f → IsYear d y → specified_annual_demand d r f y ≡ specified_annual_demand (with_values d given defaults) r f y
  specified_annual_demand-same r f y in_r in_f in_y = same.values SPECIFIED_ANNUAL_DEMAND refl ((omega arith, omega arith), refl) (r ∷ f ∷ y ∷ []) (in_r, (in_f, (in_y, tt)))

  pub specified_demand_profile-same : (r f l y : ℕ) → IsRegion d r → IsFuel d f → IsSlice d l → IsYear d y → specified_demand_profile d r f l y ≡ specified_demand_profile (with_values d given defaults) r f l y
  specified_demand_profile-same r f l y in_r in_f in_l in_y = same.values SPECIFIED_DEMAND_PROFILE refl ((omega arith, omega arith), refl) (r ∷ f ∷ l ∷ y ∷ []) (in_r, (in_f, (in_l, (in_y, tt))))

  pub accumulated_annual_demand-same : (r f y : ℕ) → IsRegion d r → IsFuel d f → IsYear d y → accumulated_annual_demand d r f y ≡ accumulated_annual_demand (with_values d given defaults) r f y
  accumulated_annual_demand-same r f y in_r in_f in_y = same.values ACCUMULATED_ANNUAL_DEMAND refl ((omega arith, omega arith), refl) (r ∷ f ∷ y ∷ []) (in_r, (in_f, (in_y, tt)))

  pub total_annual_max_capacity-same : (r t y : ℕ) → IsRegion d r → IsTechnology d t → IsYear d y → total_annual_max_capacity d r t y ≡ total_annual_max_capacity (with_values d given defaults) r t y
  total_annual_max_capacity-same r t y in_r in_t in_y = same.values TOTAL_ANNUAL_MAX_CAPACITY refl ((omega arith, omega arith), refl) (r ∷ t ∷ y ∷ []) (in_r, (in_t, (in_y, tt)))

  pub total_annual_min_capacity-same : (r t y : ℕ) → IsRegion d r → IsTechnology d t → IsYear d y → total_annual_min_capacity d r t y ≡ total_annual_min_capacity (with_values d given defaults) r t y
  total_annual_min_capacity-same r t y in_r in_t in_y = same.values TOTAL_ANNUAL_MIN_CAPACITY refl ((omega arith, omega arith), refl) (r ∷ t ∷ y ∷ []) (in_r, (in_t, (in_y, tt)))

  pub total_annual_max_capacity_investment-same : (r t y : ℕ) → IsRegion d r → IsTechnology d t → IsYear d y → total_annual_max_capacity_investment d r t y ≡ total_annual_max_capacity_investment (with_values d given defaults) r t y
  total_annual_max_capacity_investment-same r t y in_r in_t in_y = same.values TOTAL_ANNUAL_MAX_CAPACITY_INVESTMENT refl ((omega arith, omega arith), refl) (r ∷ t ∷ y ∷ []) (in_r, (in_t, (in_y, tt)))

  pub total_annual_min_capacity_investment-same : (r t y : ℕ) → IsRegion d r → IsTechnology d t → IsYear d y → total_annual_min_capacity_investment d r t y ≡ total_annual_min_capacity_investment (with_values d given defaults) r t y
  total_annual_min_capacity_investment-same r t y in_r in_t in_y = same.values TOTAL_ANNUAL_MIN_CAPACITY_INVESTMENT refl ((omega arith, omega arith), refl) (r ∷ t ∷ y ∷ []) (in_r, (in_t, (in_y, tt)))

  pub total_technology_annual_activity_upper_limit-same : (r t y : ℕ) → IsRegion d r → IsTechnology d t → IsYear d y → total_technology_annual_activity_upper_limit d r t y ≡ total_technology_annual_activity_upper_limit (with_values d given defaults) r t y
  total_technology_annual_activity_upper_limit-same r t y in_r in_t in_y = same.values TOTAL_TECHNOLOGY_ANNUAL_ACTIVITY_UPPER_LIMIT refl ((omega arith, omega arith), refl) (r ∷ t ∷ y ∷ []) (in_r, (in_t, (in_y, tt)))

  pub total_technology_annual_activity_lower_limit-same : (r t y : ℕ) → IsRegion d r → IsTechnology d t → IsYear d y → total_technology_annual_activity_lower_limit d r t y ≡ total_technology_annual_activity_lower_limit (with_values d given defaults) r t y
  total_technology_annual_activity_lower_limit-same r t y in_r in_t in_y = same.values TOTAL_TECHNOLOGY_ANNUAL_ACTIVITY_LOWER_LIMIT refl ((omega arith, omega arith), refl) (r ∷ t ∷ y ∷ []) (in_r, (in_t, (in_y, tt)))

  pub total_technology_model_period_activity_upper_limit-same : (r t : ℕ) → IsRegion d r → IsTechnology d t → total_technology_model_period_activity_upper_limit d r t ≡ total_technology_model_period_activity_upper_limit (with_values d given defaults) r t
  total_technology_model_period_activity_upper_limit-same r t in_r in_t = same.values TOTAL_TECHNOLOGY_MODEL_PERIOD_ACTIVITY_UPPER_LIMIT refl ((omega arith, omega arith), refl) (r ∷ t ∷ []) (in_r, (in_t, tt))

  pub total_technology_model_period_activity_lower_limit-same : (r t : ℕ) → IsRegion d r → IsTechnology d t → total_technology_model_period_activity_lower_limit d r t ≡ total_technology_model_period_activity_lower_limit (with_values d given defaults) r t
  total_technology_model_period_activity_lower_limit-same r t in_r in_t = same.values TOTAL_TECHNOLOGY_MODEL_PERIOD_ACTIVITY_LOWER_LIMIT refl ((omega arith, omega arith), refl) (r ∷ t ∷ []) (in_r, (in_t, tt))

  pub annual_emission_limit-same : (r e y : ℕ) → IsRegion d r → IsEmission d e → IsYear d y → annual_emission_limit d r e y ≡ annual_emission_limit (with_values d given defaults) r e y
  annual_emission_limit-same r e y in_r in_e in_y = same.values ANNUAL_EMISSION_LIMIT refl ((omega arith, omega arith), refl) (r ∷ e ∷ y ∷ []) (in_r, (in_e, (in_y, tt)))

  pub model_period_emission_limit-same : (r e : ℕ) → IsRegion d r → IsEmission d e → model_period_emission_limit d r e ≡ model_period_emission_limit (with_values d given defaults) r e
  model_period_emission_limit-same r e in_r in_e = same.values MODEL_PERIOD_EMISSION_LIMIT refl ((omega arith, omega arith), refl) (r ∷ e ∷ []) (in_r, (in_e, tt))
