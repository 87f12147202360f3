-- Two data that are the same have the same numbers that one equation alone reads, at positions in the sets.
use Rattle.named_equations.proofs.Common.{◌≡◌, ℕ, ◌*ℤ◌, pos, List, refl, ap₂, Data, Default, Given, Index, EQ_SPECIFIED_DEMAND, EBB4, TCC1, TCC2, NCC1, NCC2, AAC2, AAC3, TAC2, TAC3, E8, E9, EQUATION_COUNT, subscripts_of}
use Rattle.named_equations.specs.Constants.{constant_of}
use Rattle.named_equations.proofs.PositionsInSets.{AreInSets}
use Rattle.named_equations.proofs.SameParameters as same_value
use Rattle.named_equations.proofs.SameValues.{AgreeInAll, ◌also◌, with_values}
use Rattle.named_equations.proofs.TermMeaning.{EachFrom}

module _ {d : Data} {given : List Given} {defaults : List Default} (same : AgreeInAll d given defaults) where
  -- where its subscripts lie in their sets, what the equation of this number alone reads at the index is the same
  abbrev pub ReadsSame : Index → ℕ → Type 0
  ReadsSame i eq = AreInSets d (subscripts_of eq) i → constant_of eq d i ≡ constant_of eq (with_values d given defaults) i

  demand : (i : Index) → ReadsSame i EQ_SPECIFIED_DEMAND
  demand i at =
      ap₂ (λ of_year part. of_year *ℤ part) (same_value.specified_annual_demand-same same i.region i.fuel i.year (at.region refl) (at.fuel refl) (at.year refl))
      (same_value.specified_demand_profile-same same i.region i.fuel i.slice i.year (at.region refl) (at.fuel refl) (at.slice refl) (at.year refl))

  annual_demand : (i : Index) → ReadsSame i EBB4
  annual_demand i at = same_value.accumulated_annual_demand-same same i.region i.fuel i.year (at.region refl) (at.fuel refl) (at.year refl)

  tcc1-reads : (i : Index) → ReadsSame i TCC1
  tcc1-reads i at = same_value.total_annual_max_capacity-same same i.region i.tech i.year (at.region refl) (at.technology refl) (at.year refl)

  tcc2-reads : (i : Index) → ReadsSame i TCC2
  tcc2-reads i at = same_value.total_annual_min_capacity-same same i.region i.tech i.year (at.region refl) (at.technology refl) (at.year refl)

  ncc1-reads : (i : Index) → ReadsSame i NCC1
  ncc1-reads i at = same_value.total_annual_max_capacity_investment-same same i.region i.tech i.year (at.region refl) (at.technology refl) (at.year refl)

  ncc2-reads : (i : Index) → ReadsSame i NCC2
  ncc2-reads i at = same_value.total_annual_min_capacity_investment-same same i.region i.tech i.year (at.region refl) (at.technology refl) (at.year refl)

  aac2-reads : (i : Index) → ReadsSame i AAC2
  aac2-reads i at = same_value.total_technology_annual_activity_upper_limit-same same i.region i.tech i.year (at.region refl) (at.technology refl) (at.year refl)

  aac3-reads : (i : Index) → ReadsSame i AAC3
  aac3-reads i at = same_value.total_technology_annual_activity_lower_limit-same same i.region i.tech i.year (at.region refl) (at.technology refl) (at.year refl)

  tac2-reads : (i : Index) → ReadsSame i TAC2
  tac2-reads i at = same_value.total_technology_model_period_activity_upper_limit-same same i.region i.tech (at.region refl) (at.technology refl)

  tac3-reads : (i : Index) → ReadsSame i TAC3
  tac3-reads i at = same_value.total_technology_model_period_activity_lower_limit-same same i.region i.tech (at.region refl) (at.technology refl)

  e8-reads : (i : Index) → ReadsSame i E8
  e8-reads i at = same_value.annual_emission_limit-same same i.region i.emission i.year (at.region refl) (at.emission refl) (at.year refl)

  e9-reads : (i : Index) → ReadsSame i E9
  e9-reads i at = same_value.model_period_emission_limit-same same i.region i.emission (at.region refl) (at.emission refl)

  -- an equation that reads no such number
  none : {A : Type 0} → A → pos 0 ≡ pos 0
  none at = refl

  -- so each of the 64
  pub constants-same : (i : Index) → EachFrom (ReadsSame i) 1 EQUATION_COUNT
  constants-same i =
      demand i also none also none also none also none also none also none also none also none also none also none also none also
      none also none also none also none also none also none also none also none also annual_demand i also none also none also
      none also none also none also none also none also none also none also none also none also none also none also none also
      none also none also none also none also none also none also none also tcc1-reads i also tcc2-reads i also ncc1-reads i also
      ncc2-reads i also none also aac2-reads i also aac3-reads i also none also tac2-reads i also tac3-reads i also none also
      none also none also none also none also none also none also none also none also none also e8-reads i also e9-reads i also tt
