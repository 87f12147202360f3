-- The numbers of the data that one named equation alone reads, on its right side: limits, and what is demanded. Who changes one of them changes what one equation
-- says, at one index.
use Rattle.std.specs.Prelude.{◌≡◌, ◌≢◌, ℕ, ◌<◌, ℤ, pos, ◌*ℤ◌, Bool, true, false, ◌==◌, ◌||◌, List, [], ◌∷◌, length, map, slice_index_or, Option, Some, None, if◌then◌else◌}
use Rattle.model_sets.specs.declared.param_numbers.TheConstants as param
use Rattle.model_sets.specs.Data.{Data, IsUsedParam}
use Rattle.model_sets.specs.Members.{SetLists, members}
use Rattle.model_sets.specs.Names.{region, technology, fuel, emission, mode, timeslice}
use Rattle.model_sets.specs.Params.{subscript_sets}
use Rattle.row_core.specs.declared.Index.{Index}
use Rattle.row_core.specs.declared.equation_numbers.TheConstants as equation
use Rattle.named_equations.specs.Parameters.{value_of, specified_annual_demand, specified_demand_profile}

-- ---- which

-- the parameter whose value at the equation's own subscripts is a limit or an annual demand on its right side, and that no other equation reads
abbrev pub param_alone : ℕ → Option ℕ
param_alone eq =
    if eq == equation.EBB4 then Some param.ACCUMULATED_ANNUAL_DEMAND
    else if eq == equation.TCC1 then Some param.TOTAL_ANNUAL_MAX_CAPACITY
    else if eq == equation.TCC2 then Some param.TOTAL_ANNUAL_MIN_CAPACITY
    else if eq == equation.NCC1 then Some param.TOTAL_ANNUAL_MAX_CAPACITY_INVESTMENT
    else if eq == equation.NCC2 then Some param.TOTAL_ANNUAL_MIN_CAPACITY_INVESTMENT
    else if eq == equation.AAC2 then Some param.TOTAL_TECHNOLOGY_ANNUAL_ACTIVITY_UPPER_LIMIT
    else if eq == equation.AAC3 then Some param.TOTAL_TECHNOLOGY_ANNUAL_ACTIVITY_LOWER_LIMIT
    else if eq == equation.TAC2 then Some param.TOTAL_TECHNOLOGY_MODEL_PERIOD_ACTIVITY_UPPER_LIMIT
    else if eq == equation.TAC3 then Some param.TOTAL_TECHNOLOGY_MODEL_PERIOD_ACTIVITY_LOWER_LIMIT
    else if eq == equation.E8 then Some param.ANNUAL_EMISSION_LIMIT
    else if eq == equation.E9 then Some param.MODEL_PERIOD_EMISSION_LIMIT
    else None

-- of these equations those that stand only where the number is a limit
abbrev pub stands_by_constant : ℕ → Bool
stands_by_constant eq =
    eq == equation.TCC1 || eq == equation.TCC2 || eq == equation.NCC1 || eq == equation.NCC2 || eq == equation.AAC2 || eq == equation.AAC3
    || eq == equation.TAC2 || eq == equation.TAC3 || eq == equation.E8 || eq == equation.E9

-- the parameters of these, and the two that make the demand of a timeslice, which EQ_SpecifiedDemand alone reads
abbrev pub read_alone : ℕ → Bool
read_alone p =
    p == param.SPECIFIED_ANNUAL_DEMAND || p == param.SPECIFIED_DEMAND_PROFILE || p == param.ACCUMULATED_ANNUAL_DEMAND
    || p == param.TOTAL_ANNUAL_MAX_CAPACITY || p == param.TOTAL_ANNUAL_MIN_CAPACITY
    || p == param.TOTAL_ANNUAL_MAX_CAPACITY_INVESTMENT || p == param.TOTAL_ANNUAL_MIN_CAPACITY_INVESTMENT
    || p == param.TOTAL_TECHNOLOGY_ANNUAL_ACTIVITY_UPPER_LIMIT || p == param.TOTAL_TECHNOLOGY_ANNUAL_ACTIVITY_LOWER_LIMIT
    || p == param.TOTAL_TECHNOLOGY_MODEL_PERIOD_ACTIVITY_UPPER_LIMIT || p == param.TOTAL_TECHNOLOGY_MODEL_PERIOD_ACTIVITY_LOWER_LIMIT
    || p == param.ANNUAL_EMISSION_LIMIT || p == param.MODEL_PERIOD_EMISSION_LIMIT

-- ---- where

-- the positions are those of members, one of each of these sets
abbrev pub AreWithin : SetLists → List ℕ → List ℕ → Type 0
AreWithin sets [] [] = Unit {0}
AreWithin sets [] (i ∷ is) = ⊥
AreWithin sets (k ∷ ks) [] = ⊥
AreWithin sets (k ∷ ks) (i ∷ is) = (i < length (members sets k)) × AreWithin sets ks is

-- the names of the members at these positions
abbrev pub names_within : SetLists → List ℕ → List ℕ → List (List ℕ)
names_within sets [] is = []
names_within sets (k ∷ ks) [] = []
names_within sets (k ∷ ks) (i ∷ is) = slice_index_or (members sets k) i [] ∷ names_within sets ks is

-- the value of the parameter at members, by their positions
abbrev pub value_within : Data → ℕ → List ℕ → ℤ
value_within d p is = value_of d p (names_within d.sets (subscript_sets p) is)

-- the position at which an index has a member of set k; of REGION the first
abbrev pub position_of : Index → ℕ → ℕ
position_of i k =
    if k == region then i.region
    else if k == timeslice then i.slice
    else if k == technology then i.tech
    else if k == fuel then i.fuel
    else if k == emission then i.emission
    else if k == mode then i.mode
    else i.year

-- the positions at which the parameter is read at an index
abbrev pub positions_of : Index → ℕ → List ℕ
positions_of i p = map (position_of i) (subscript_sets p)

-- ---- the number

-- the value of the parameter at an index, where there is a parameter
abbrev pub value_alone : Data → Index → Option ℕ → ℤ
value_alone d i None = pos 0
value_alone d i (Some p) = value_within d p (positions_of i p)

-- what the equation alone reads at the index, on its right side: a limit or an annual demand in billionths; the annual demand times the timeslice's part of it; 0
-- where it reads no such number
abbrev pub constant_of : ℕ → Data → Index → ℤ
constant_of eq d i =
    if eq == equation.EQ_SPECIFIED_DEMAND then specified_annual_demand d i.region i.fuel i.year *ℤ specified_demand_profile d i.region i.fuel i.slice i.year
    else value_alone d i (param_alone eq)

-- ---- two data

-- the same sets, the same parameters used, and the same value of each used parameter at all members, but of those that one equation alone reads
pub record AreSameBut (d e : Data) : Type 0 where
  pub sets : d.sets ≡ e.sets
  pub second : d.second ≡ e.second
  pub values : (p : ℕ) → read_alone p ≡ false → IsUsedParam d p → (is : List ℕ) → AreWithin d.sets (subscript_sets p) is → value_within d p is ≡ value_within e p is
