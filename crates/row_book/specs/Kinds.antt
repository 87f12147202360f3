-- The variable that an equation defines, by its kind. Only private functions cite these.
use Rattle.std.specs.Prelude.{ℕ, List, [], ◌∷◌, ◌==◌, Option, None, Some, if◌then◌else◌}
use Rattle.row_core.specs.declared.Index.{Index}
use Rattle.row_core.specs.declared.Var.{Var}
use Rattle.row_core.specs.declared.kind_numbers.TheConstants as kinds
use Rattle.row_core.specs.Subscripts as place
use Rattle.named_equations.specs.Instances.{is_one_of, subscripts_of}
use Rattle.named_equations.specs.Table.{other_trade}
use Rattle.named_equations.specs.Variables.{variable}

-- stands for the kind of an equation that defines nothing
abbrev pub nothing : ℕ
nothing = 0

-- the kind of the variables that each equation defines, by the equation's number; there is none of number 0
abbrev pub defined_kinds : List ℕ
defined_kinds =
    nothing
    ∷ kinds.RATE_OF_DEMAND
    ∷ kinds.ACCUMULATED_NEW_CAPACITY
    ∷ kinds.TOTAL_CAPACITY_ANNUAL
    ∷ kinds.RATE_OF_TOTAL_ACTIVITY
    ∷ nothing
    ∷ nothing
    ∷ kinds.RATE_OF_PRODUCTION_BY_TECHNOLOGY_BY_MODE
    ∷ kinds.RATE_OF_PRODUCTION_BY_TECHNOLOGY
    ∷ kinds.RATE_OF_PRODUCTION
    ∷ kinds.RATE_OF_USE_BY_TECHNOLOGY_BY_MODE
    ∷ kinds.RATE_OF_USE_BY_TECHNOLOGY
    ∷ kinds.RATE_OF_USE
    ∷ kinds.PRODUCTION
    ∷ kinds.USE
    ∷ kinds.DEMAND
    ∷ kinds.TRADE
    ∷ nothing
    ∷ kinds.PRODUCTION_ANNUAL
    ∷ kinds.USE_ANNUAL
    ∷ kinds.TRADE_ANNUAL
    ∷ nothing
    ∷ kinds.PRODUCTION_BY_TECHNOLOGY
    ∷ kinds.USE_BY_TECHNOLOGY
    ∷ kinds.TOTAL_ANNUAL_TECHNOLOGY_ACTIVITY_BY_MODE
    ∷ kinds.CAPITAL_INVESTMENT
    ∷ kinds.DISCOUNTED_CAPITAL_INVESTMENT
    ∷ kinds.SALVAGE_VALUE
    ∷ kinds.SALVAGE_VALUE
    ∷ kinds.SALVAGE_VALUE
    ∷ kinds.DISCOUNTED_SALVAGE_VALUE
    ∷ kinds.ANNUAL_VARIABLE_OPERATING_COST
    ∷ kinds.ANNUAL_FIXED_OPERATING_COST
    ∷ kinds.OPERATING_COST
    ∷ kinds.DISCOUNTED_OPERATING_COST
    ∷ kinds.ANNUAL_TECHNOLOGY_EMISSION_BY_MODE
    ∷ kinds.ANNUAL_TECHNOLOGY_EMISSION
    ∷ kinds.ANNUAL_TECHNOLOGY_EMISSION_PENALTY_BY_EMISSION
    ∷ kinds.ANNUAL_TECHNOLOGY_EMISSIONS_PENALTY
    ∷ kinds.DISCOUNTED_TECHNOLOGY_EMISSIONS_PENALTY
    ∷ kinds.TOTAL_DISCOUNTED_COST_BY_TECHNOLOGY
    ∷ kinds.TOTAL_DISCOUNTED_COST
    ∷ kinds.MODEL_PERIOD_COST_BY_REGION
    ∷ nothing
    ∷ nothing
    ∷ nothing
    ∷ nothing
    ∷ kinds.TOTAL_TECHNOLOGY_ANNUAL_ACTIVITY
    ∷ nothing
    ∷ nothing
    ∷ kinds.TOTAL_TECHNOLOGY_MODEL_PERIOD_ACTIVITY
    ∷ nothing
    ∷ nothing
    ∷ kinds.TOTAL_CAPACITY_IN_RESERVE_MARGIN
    ∷ kinds.DEMAND_NEEDING_RESERVE_MARGIN
    ∷ nothing
    ∷ kinds.PRODUCTION_BY_TECHNOLOGY_ANNUAL
    ∷ kinds.TOTAL_RE_PRODUCTION_ANNUAL
    ∷ kinds.RE_TOTAL_PRODUCTION_OF_TARGET_FUEL_ANNUAL
    ∷ nothing
    ∷ kinds.USE_BY_TECHNOLOGY_ANNUAL
    ∷ kinds.ANNUAL_EMISSIONS
    ∷ kinds.MODEL_PERIOD_EMISSIONS
    ∷ nothing
    ∷ nothing
    ∷ []

-- the subscript if the list has its place, and else 0
abbrev pub kept : List ℕ → ℕ → ℕ → ℕ
kept s p i = if is_one_of s p then i else 0

-- the index with 0 for the subscripts that aren't among these
abbrev pub tidied : List ℕ → Index → Index
tidied s i = record {
  region = kept s place.r i.region;
  other = kept s place.rr i.other;
  slice = kept s place.l i.slice;
  tech = kept s place.t i.tech;
  fuel = kept s place.f i.fuel;
  emission = kept s place.e i.emission;
  mode = kept s place.m i.mode;
  year = kept s place.y i.year;
}

-- the variable of this kind that the equation of this number defines at the index
abbrev pub variable_by_kind : ℕ → ℕ → Index → Option Var
variable_by_kind kind eq i =
    if kind == nothing then None else if kind == kinds.TRADE then other_trade i else Some (variable kind (tidied (subscripts_of eq) i))
