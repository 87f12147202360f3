-- Two data that are the same have the same terms of cost and of emissions of technologies, at positions in the sets.
use Rattle.row_book.proofs.Common.{◌≡◌, ℕ, Bool, true, false, List, refl, ap, if◌then◌else◌, Data, Default, Given, Index, CC1, CC2, SV1, SV2, SV3, SV4, OC1, OC2, OC3, OC4, E1, E2, E3, E4, E5, TDC1, TDC2, ACC4, Var, Amount, Billionths, Negative, capital_cost, variable_cost, count_of, years_in_all, years_since_first, is_times, capital_investment, new_capacity, total_annual_technology_activity_by_mode, annuity_of-same, capital_factor_of-same, emitting_modes-same, operating_factor_of-same, recovery_factor_of-same, salvage_fraction_of-same, capital_cost-same, emission_activity_ratio-same, emissions_penalty-same, fixed_cost-same, variable_cost-same, AgreeInAll, agree-but, map-same, with_values, ◌also◌, EachFrom}
use Rattle.model_sets.specs.Names as sets
use Rattle.cost_rows.specs.Costs.{recovered_cost}
use Rattle.row_book.proofs.SameTerms.{TermsSame}

module _ {d : Data} {given : List Given} {defaults : List Default} (same : AgreeInAll d given defaults) (places : ℕ) where
  cc1-same : (i : Index) → TermsSame places d given defaults i CC1
  cc1-same i at = ap (is_times (capital_investment i.region i.tech i.year) (new_capacity i.region i.tech i.year)) (by_profile d.second refl)
    where
      by_profile : (second : Bool) → d.second ≡ second
          → (if second then recovered_cost places d i.region i.tech i.year else Billionths (capital_cost d i.region i.tech i.year))
          ≡ (if second then recovered_cost places (with_values d given defaults) i.region i.tech i.year else Billionths (capital_cost (with_values d given defaults) i.region i.tech i.year))
      by_profile true is =
          cc (
            capital_cost-same (agree-but same) i.region i.tech i.year (at.region refl) (at.technology refl) (at.year refl),
            recovery_factor_of-same (agree-but same) is places i.region i.tech (at.region refl) (at.technology refl),
            annuity_of-same (agree-but same) places i.region i.tech (at.region refl) (at.technology refl),
          )
      by_profile false is = cc (capital_cost-same (agree-but same) i.region i.tech i.year (at.region refl) (at.technology refl) (at.year refl))

  cc2-same : (i : Index) → TermsSame places d given defaults i CC2
  cc2-same i at = cc (capital_factor_of-same (agree-but same) places i.region (years_since_first d i.year) (at.region refl))

  sv1-same : (i : Index) → TermsSame places d given defaults i SV1
  sv1-same i at = cc (capital_cost-same (agree-but same) i.region i.tech i.year (at.region refl) (at.technology refl) (at.year refl), salvage_fraction_of-same (agree-but same) places 1 i.region i.tech i.year (at.region refl) (at.technology refl))

  sv2-same : (i : Index) → TermsSame places d given defaults i SV2
  sv2-same i at = cc (capital_cost-same (agree-but same) i.region i.tech i.year (at.region refl) (at.technology refl) (at.year refl), salvage_fraction_of-same (agree-but same) places 2 i.region i.tech i.year (at.region refl) (at.technology refl))

  sv3-same : (i : Index) → TermsSame places d given defaults i SV3
  sv3-same i at = refl

  sv4-same : (i : Index) → TermsSame places d given defaults i SV4
  sv4-same i at = cc (capital_factor_of-same (agree-but same) places i.region (years_in_all d) (at.region refl))

  oc1-same : (i : Index) → TermsSame places d given defaults i OC1
  oc1-same i at =
      let part : Data → ℕ → Var × Amount = λ e m. (total_annual_technology_activity_by_mode i.region i.tech m i.year, Negative (Billionths (variable_cost e i.region i.tech m i.year))) in
      cc (map-same (count_of d sets.mode) (part d) (part (with_values d given defaults)) (λ m in_m. cc (variable_cost-same (agree-but same) i.region i.tech m i.year (at.region refl) (at.technology refl) in_m (at.year refl))))

  oc2-same : (i : Index) → TermsSame places d given defaults i OC2
  oc2-same i at = cc (fixed_cost-same (agree-but same) i.region i.tech i.year (at.region refl) (at.technology refl) (at.year refl))

  oc3-same : (i : Index) → TermsSame places d given defaults i OC3
  oc3-same i at = refl

  oc4-same : (i : Index) → TermsSame places d given defaults i OC4
  oc4-same i at = cc (operating_factor_of-same (agree-but same) places i.region (years_since_first d i.year) (at.region refl))

  e1-same : (i : Index) → TermsSame places d given defaults i E1
  e1-same i at = cc (emission_activity_ratio-same (agree-but same) i.region i.tech i.emission i.mode i.year (at.region refl) (at.technology refl) (at.emission refl) (at.mode refl) (at.year refl))

  e2-same : (i : Index) → TermsSame places d given defaults i E2
  e2-same i at = cc (emitting_modes-same (agree-but same) i.region i.tech i.emission i.year (at.region refl) (at.technology refl) (at.emission refl) (at.year refl))

  e3-same : (i : Index) → TermsSame places d given defaults i E3
  e3-same i at = cc (emissions_penalty-same (agree-but same) i.region i.emission i.year (at.region refl) (at.emission refl) (at.year refl))

  e4-same : (i : Index) → TermsSame places d given defaults i E4
  e4-same i at = refl

  e5-same : (i : Index) → TermsSame places d given defaults i E5
  e5-same i at = cc (operating_factor_of-same (agree-but same) places i.region (years_since_first d i.year) (at.region refl))

  tdc1-same : (i : Index) → TermsSame places d given defaults i TDC1
  tdc1-same i at = refl

  tdc2-same : (i : Index) → TermsSame places d given defaults i TDC2
  tdc2-same i at = refl

  acc4-same : (i : Index) → TermsSame places d given defaults i ACC4
  acc4-same i at = refl

  pub cost-same : (i : Index) → EachFrom (TermsSame places d given defaults i) 25 18
  cost-same i =
      cc1-same i also cc2-same i also sv1-same i also sv2-same i also sv3-same i also sv4-same i also oc1-same i also
      oc2-same i also oc3-same i also oc4-same i also e1-same i also e2-same i also e3-same i also e4-same i also
      e5-same i also tdc1-same i also tdc2-same i also acc4-same i also tt
