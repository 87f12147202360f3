-- Two data that are the same have the same terms of limits, the reserve margin, the renewable target and emissions of regions, at positions in the sets.
use Rattle.row_book.proofs.Common.{ℕ, List, refl, ap, ◌∙◌, Data, Default, Given, Index, TCC1, TCC2, NCC1, NCC2, AAC1, AAC2, AAC3, TAC1, TAC2, TAC3, RM1, RM2, RM3, RE1, RE2, RE3, RE4, RE5, E6, E7, E8, E9, Var, Amount, Billionths, Product, Negative, each, year_split, capacity_to_activity_unit, reserve_margin_tag_technology, reserve_margin_tag_fuel, re_tag_technology, re_tag_fuel, count_of, fuels, total_capacity_annual, rate_of_total_activity, rate_of_production, production_by_technology_annual, produces, producing_technologies, producing_technologies-same, annual_emission_limit-same, annual_exogenous_emission-same, capacity_to_activity_unit-same, model_period_emission_limit-same, model_period_exogenous_emission-same, re_min_production_target-same, re_tag_fuel-same, re_tag_technology-same, reserve_margin-same, reserve_margin_tag_fuel-same, reserve_margin_tag_technology-same, total_annual_max_capacity-same, total_annual_max_capacity_investment-same, total_annual_min_capacity-same, total_annual_min_capacity_investment-same, total_technology_annual_activity_lower_limit-same, total_technology_annual_activity_upper_limit-same, total_technology_model_period_activity_lower_limit-same, total_technology_model_period_activity_upper_limit-same, year_split-same, AgreeInAll, agree-but, lists-same, map-same, with_values, ◌also◌, EachFrom}
use Rattle.model_sets.specs.Names as sets
use Rattle.row_book.proofs.SameTerms.{TermsSame, chosen-same}

module _ {d : Data} {given : List Given} {defaults : List Default} (same : AgreeInAll d given defaults) (places : ℕ) where
  tcc1-same : (i : Index) → TermsSame places d given defaults i TCC1
  tcc1-same i at = cc (total_annual_max_capacity-same same i.region i.tech i.year (at.region refl) (at.technology refl) (at.year refl))

  tcc2-same : (i : Index) → TermsSame places d given defaults i TCC2
  tcc2-same i at = cc (total_annual_min_capacity-same same i.region i.tech i.year (at.region refl) (at.technology refl) (at.year refl))

  ncc1-same : (i : Index) → TermsSame places d given defaults i NCC1
  ncc1-same i at = cc (total_annual_max_capacity_investment-same same i.region i.tech i.year (at.region refl) (at.technology refl) (at.year refl))

  ncc2-same : (i : Index) → TermsSame places d given defaults i NCC2
  ncc2-same i at = cc (total_annual_min_capacity_investment-same same i.region i.tech i.year (at.region refl) (at.technology refl) (at.year refl))

  aac1-same : (i : Index) → TermsSame places d given defaults i AAC1
  aac1-same i at =
      let part : Data → ℕ → Var × Amount = λ e l. (rate_of_total_activity i.region l i.tech i.year, Negative (Billionths (year_split e l i.year))) in
      cc (map-same (count_of d sets.timeslice) (part d) (part (with_values d given defaults)) (λ l in_l. cc (year_split-same (agree-but same) l i.year in_l (at.year refl))))

  aac2-same : (i : Index) → TermsSame places d given defaults i AAC2
  aac2-same i at = cc (total_technology_annual_activity_upper_limit-same same i.region i.tech i.year (at.region refl) (at.technology refl) (at.year refl))

  aac3-same : (i : Index) → TermsSame places d given defaults i AAC3
  aac3-same i at = cc (total_technology_annual_activity_lower_limit-same same i.region i.tech i.year (at.region refl) (at.technology refl) (at.year refl))

  tac1-same : (i : Index) → TermsSame places d given defaults i TAC1
  tac1-same i at = refl

  tac2-same : (i : Index) → TermsSame places d given defaults i TAC2
  tac2-same i at = cc (total_technology_model_period_activity_upper_limit-same same i.region i.tech (at.region refl) (at.technology refl))

  tac3-same : (i : Index) → TermsSame places d given defaults i TAC3
  tac3-same i at = cc (total_technology_model_period_activity_lower_limit-same same i.region i.tech (at.region refl) (at.technology refl))

  rm1-same : (i : Index) → TermsSame places d given defaults i RM1
  rm1-same i at =
      let part : Data → ℕ → Var × Amount = λ e t. (total_capacity_annual i.region t i.year, Negative (Product (Billionths (reserve_margin_tag_technology e i.region t i.year)) (Billionths (capacity_to_activity_unit e i.region t)))) in
      cc (map-same (count_of d sets.technology) (part d) (part (with_values d given defaults)) (λ t in_t. cc (reserve_margin_tag_technology-same (agree-but same) i.region t i.year (at.region refl) in_t (at.year refl), capacity_to_activity_unit-same (agree-but same) i.region t (at.region refl) in_t)))

  rm2-same : (i : Index) → TermsSame places d given defaults i RM2
  rm2-same i at =
      let part : Data → ℕ → Var × Amount = λ e f. (rate_of_production i.region i.slice f i.year, Negative (Billionths (reserve_margin_tag_fuel e i.region f i.year))) in
      cc (map-same (count_of d sets.fuel) (part d) (part (with_values d given defaults)) (λ f in_f. cc (reserve_margin_tag_fuel-same (agree-but same) i.region f i.year (at.region refl) in_f (at.year refl))))

  rm3-same : (i : Index) → TermsSame places d given defaults i RM3
  rm3-same i at = cc (reserve_margin-same (agree-but same) i.region i.year (at.region refl) (at.year refl))

  re1-same : (i : Index) → TermsSame places d given defaults i RE1
  re1-same i at = refl

  re2-same : (i : Index) → TermsSame places d given defaults i RE2
  re2-same i at =
      let part : Data → ℕ → ℕ → Var × Amount = λ e f t. (production_by_technology_annual i.region t f i.year, Negative (Billionths (re_tag_technology e i.region t i.year))) in
      let made : Data → ℕ → List (Var × Amount) = λ e f. each (producing_technologies e i.region f i.year) (part e f) in
      cc (lists-same (count_of d sets.fuel) (made d) (made (with_values d given defaults))
      (λ f in_f.
      chosen-same (count_of d sets.technology) (λ t. produces d i.region t f i.year) (part d f) (part (with_values d given defaults) f) (λ t in_t. cc (re_tag_technology-same (agree-but same) i.region t i.year (at.region refl) in_t (at.year refl)))
      ∙ ap (λ ts. each ts (part (with_values d given defaults) f)) (producing_technologies-same (agree-but same) i.region f i.year (at.region refl) in_f (at.year refl))))

  re3-same : (i : Index) → TermsSame places d given defaults i RE3
  re3-same i at =
      let part : Data → ℕ → ℕ → Var × Amount = λ e l f. (rate_of_production i.region l f i.year, Negative (Product (Billionths (year_split e l i.year)) (Billionths (re_tag_fuel e i.region f i.year)))) in
      let made : Data → ℕ → List (Var × Amount) = λ e l. each (fuels d) (part e l) in
      cc (lists-same (count_of d sets.timeslice) (made d) (made (with_values d given defaults))
      (λ l in_l.
      map-same (count_of d sets.fuel) (part d l) (part (with_values d given defaults) l)
      (λ f in_f. cc (year_split-same (agree-but same) l i.year in_l (at.year refl), re_tag_fuel-same (agree-but same) i.region f i.year (at.region refl) in_f (at.year refl)))))

  re4-same : (i : Index) → TermsSame places d given defaults i RE4
  re4-same i at = cc (re_min_production_target-same (agree-but same) i.region i.year (at.region refl) (at.year refl))

  re5-same : (i : Index) → TermsSame places d given defaults i RE5
  re5-same i at = refl

  e6-same : (i : Index) → TermsSame places d given defaults i E6
  e6-same i at = refl

  e7-same : (i : Index) → TermsSame places d given defaults i E7
  e7-same i at = cc (model_period_exogenous_emission-same (agree-but same) i.region i.emission (at.region refl) (at.emission refl))

  e8-same : (i : Index) → TermsSame places d given defaults i E8
  e8-same i at = cc (annual_emission_limit-same same i.region i.emission i.year (at.region refl) (at.emission refl) (at.year refl), annual_exogenous_emission-same (agree-but same) i.region i.emission i.year (at.region refl) (at.emission refl) (at.year refl))

  e9-same : (i : Index) → TermsSame places d given defaults i E9
  e9-same i at = cc (model_period_emission_limit-same same i.region i.emission (at.region refl) (at.emission refl))

  pub limit-same : (i : Index) → EachFrom (TermsSame places d given defaults i) 43 22
  limit-same i =
      tcc1-same i also tcc2-same i also ncc1-same i also ncc2-same i also aac1-same i also aac2-same i also aac3-same i also
      tac1-same i also tac2-same i also tac3-same i also rm1-same i also rm2-same i also rm3-same i also re1-same i also
      re2-same i also re3-same i also re4-same i also re5-same i also e6-same i also e7-same i also e8-same i also
      e9-same i also tt
