-- What a price promises of other data. Who changes one limit or one demand in the data and leaves all else as it is pays at least the bound, and the price for what was
-- added, whatever its sign.
use Rattle.std.specs.Prelude.{◌≡◌, ◌≢◌, ℕ, ◌^◌, ℤ, pos, ◌-ℤ◌, ◌*ℤ◌, ◌<ℤ◌, ◌≤ℤ◌, true, List, Some}
use Rattle.exact_num.specs.Rational.{Rational}
use Rattle.model_sets.specs.Data.{Data, IsUsedParam}
use Rattle.model_sets.specs.Params.{subscript_sets}
use Rattle.model_sets.specs.declared.param_numbers.TheConstants.{SPECIFIED_ANNUAL_DEMAND, SPECIFIED_DEMAND_PROFILE}
use Rattle.row_core.specs.declared.Index.{Index}
use Rattle.row_core.specs.declared.RowName.{RowName}
use Rattle.row_core.specs.declared.Var.{Var}
use Rattle.row_core.specs.declared.equation_numbers.TheConstants.{EBA11}
use Rattle.named_equations.specs.Constants.{AreWithin, param_alone, positions_of, value_within}
use Rattle.named_equations.specs.Instances.{is_instance}
use Rattle.named_equations.specs.Parameters.{specified_annual_demand, specified_demand_profile, year_split}
use Rattle.named_equations.specs.Plans.{Feasible}
use Rattle.plan_quantities.specs.Prices.{CostsAtLeast, balance_at}

-- ---- one number of the data

-- e has the value x, in billionths, for the parameter at these members, by their positions in its sets, and is otherwise the same data: the same sets, the same parameters used,
-- and each other value
pub record AreWith (d e : Data) (p : ℕ) (at : List ℕ) (x : ℤ) : Type 0 where
  pub sets : d.sets ≡ e.sets
  pub second : d.second ≡ e.second
  pub here : value_within e p at ≡ x
  pub others : (other : ℕ) → IsUsedParam d other → (is : List ℕ) → AreWithin d.sets (subscript_sets other) is → ¬ ((other ≡ p) × (is ≡ at))
      → value_within d other is ≡ value_within e other is

-- what a price at an equation promises, over a bound, of the limit or the annual demand that the equation alone reads at its subscripts: each plan that is feasible of the data with x in
-- its place, of any x with which the equation still stands, costs at least the bound and the price times what x is more than it
pub record IsConstantPromised (places : ℕ) (d : Data) (name : RowName) (bound price : Rational) : Type 0 where
  pub bound_positive : pos 0 <ℤ bound.bottom
  pub price_positive : pos 0 <ℤ price.bottom
  pub costs : (p : ℕ) (e : Data) (x : ℤ) (q : ℕ) (plan : Var → ℤ) → param_alone name.eq ≡ Some p → AreWith d e p (positions_of name.index p) x → is_instance e name ≡ true
      → Feasible places e q plan → CostsAtLeast d q plan bound price (x -ℤ value_within d p (positions_of name.index p)) (10 ^ 9)

-- ---- the demand of a timeslice

-- what is demanded at r, l, f, y, in 10^-18: the annual demand times the timeslice's part of it
abbrev pub demand_of : Data → Index → ℤ
demand_of d i = specified_annual_demand d i.region i.fuel i.year *ℤ specified_demand_profile d i.region i.fuel i.slice i.year

-- in e the demand at the index is x, in 10^-18, by other annual demands or other parts, that of every other fuel and timeslice is as in d, and all else is the same data
pub record AreWithDemand (d e : Data) (index : Index) (x : ℤ) : Type 0 where
  pub sets : d.sets ≡ e.sets
  pub second : d.second ≡ e.second
  pub here : demand_of e index ≡ x
  pub elsewhere : (other : Index) → is_instance d (balance_at other) ≡ true → other ≢ index → demand_of d other ≡ demand_of e other
  pub others : (other : ℕ) → other ≢ SPECIFIED_ANNUAL_DEMAND → other ≢ SPECIFIED_DEMAND_PROFILE → IsUsedParam d other → (is : List ℕ) → AreWithin d.sets (subscript_sets other) is
      → value_within d other is ≡ value_within e other is

-- what the price of a fuel in a timeslice promises, over a bound: each plan that is feasible of the data with the demand x there, in a timeslice that has a part of the year, costs at
-- least the bound and the price times what x is more than the demand, which isn't below 0
pub record IsDemandPromised (places : ℕ) (d : Data) (index : Index) (bound price : Rational) : Type 0 where
  pub bound_positive : pos 0 <ℤ bound.bottom
  pub price_positive : pos 0 <ℤ price.bottom
  pub costs : (e : Data) (x : ℤ) (q : ℕ) (plan : Var → ℤ) → AreWithDemand d e index x → pos 0 <ℤ year_split d index.slice index.year → pos 0 ≤ℤ demand_of d index
      → Feasible places e q plan → CostsAtLeast d q plan bound price (x -ℤ demand_of d index) (10 ^ 18)

-- what a table's price of a row promises of the data: of a balance in a timeslice as a demand, of any other as the number that its equation alone reads, if it reads one
pub record IsPromisedOverData (places : ℕ) (d : Data) (name : RowName) (bound price : Rational) : Type 0 where
  pub constant : IsConstantPromised places d name bound price
  pub demand : name.eq ≡ EBA11 → IsDemandPromised places d name.index bound price
