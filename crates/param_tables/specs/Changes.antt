-- Data with values changed, as a scenario changes those of a data file. All values are in billionths.
use Rattle.std.specs.Prelude.{ℕ, ◌%◌, ◌^◌, ℤ, pos, neg_ℤ, ◌+ℤ◌, ◌*ℤ◌, Bool, true, false, not, ◌&&◌, nat_eq, nat_le, int_lt, unsigned_abs, List, [], ◌∷◌, ◌++◌, filter, length, Option, None, Some, if◌then◌else◌}
use Rattle.std.specs.List.{filter_map, list_all, list_any, zip}
use Rattle.std.specs.Option.{option_and_then, option_map, option_map_or, option_or}
use Rattle.std.specs.Ordering.{int_eq}
use Rattle.std.specs.Str.{bytes_eq}
use Rattle.model_sets.specs.Data.{Data, Given, indices_of, value_at}
use Rattle.model_sets.specs.Params.{range_of}
use Rattle.model_sets.specs.Years.{number_of}
use Rattle.model_sets.specs.declared.param_numbers.TheConstants.{ANNUAL_EMISSION_LIMIT, MODEL_PERIOD_EMISSION_LIMIT, TOTAL_ANNUAL_MAX_CAPACITY, TOTAL_ANNUAL_MAX_CAPACITY_INVESTMENT, TOTAL_TECHNOLOGY_ANNUAL_ACTIVITY_UPPER_LIMIT, TOTAL_TECHNOLOGY_MODEL_PERIOD_ACTIVITY_UPPER_LIMIT}
use Rattle.model_sets.specs.declared.params.Range.{Range}
use Rattle.scaled_decimals.specs.Rounding.{nearest}
use Rattle.param_tables.specs.Canonical.{canonical, given_value}
use Rattle.param_tables.specs.Ranges.{billion, minus_one, range_fault, unless}
use Rattle.param_tables.specs.Refusals.{AtIndex, Refusal}
use Rattle.param_tables.specs.declared.change.ChangeKind.{ChangeKind}
use Rattle.param_tables.specs.declared.change.ChangeKind.TheVariants.{Add, Multiply, Put}
use Rattle.param_tables.specs.declared.fault.CellFault.{CellFault}
use Rattle.param_tables.specs.declared.fault.CellFault.TheVariants.{OutOfRange}

-- which members of a subscript's set a change names
pub data Named : Type 0 where
  Every : Named
  One : (name : List ℕ) → Named
  -- the years of which the number lies from the first to the last, both included
  Years : (first last : ℕ) → Named

-- whether it names the member
abbrev pub is_named : Named → List ℕ → Bool
is_named Every name = true
is_named (One member) name = bytes_eq member name
is_named (Years first last) name = nat_le first (number_of name) && nat_le (number_of name) last

-- a change: the number of a parameter, which members it names for each of its subscripts, in their order, what it does with a value, and with which number
pub record Change : Type 0 where
  pub param : ℕ
  pub named : List Named
  pub kind : ChangeKind
  pub amount : ℤ

-- whether it names the index
abbrev pub names_index : Change → List (List ℕ) → Bool
names_index change index = list_all (λ (named, name). is_named named name) (zip change.named index)

-- the indices that it names, in the order of the members, the last subscript running fastest
abbrev pub indices_named : Data → Change → List (List (List ℕ))
indices_named d change = filter (names_index change) (indices_of d.sets change.param)

-- the parameters of which -1 says that there is no limit
abbrev pub limit_params : List ℕ
limit_params =
    TOTAL_ANNUAL_MAX_CAPACITY ∷ TOTAL_ANNUAL_MAX_CAPACITY_INVESTMENT ∷ TOTAL_TECHNOLOGY_ANNUAL_ACTIVITY_UPPER_LIMIT
    ∷ TOTAL_TECHNOLOGY_MODEL_PERIOD_ACTIVITY_UPPER_LIMIT ∷ ANNUAL_EMISSION_LIMIT ∷ MODEL_PERIOD_EMISSION_LIMIT ∷ []

-- whether this value of the parameter says that there is no limit
abbrev pub is_no_limit : ℕ → ℤ → Bool
is_no_limit param v = list_any (nat_eq param) limit_params && int_eq v minus_one

-- the product of two numbers, to the nearest billionth, halves away from 0
abbrev pub product : ℤ → ℤ → ℤ
product v w = let size = pos (nearest (unsigned_abs (v *ℤ w)) billion) in if int_lt (v *ℤ w) (pos 0) then neg_ℤ size else size

-- whether the product has more than nine decimal places
abbrev pub is_product_rounded : ℤ → ℤ → Bool
is_product_rounded v w = not (nat_eq (unsigned_abs (v *ℤ w) % billion) 0)

-- what a value becomes by a change of this kind with this number
abbrev pub value_by : ChangeKind → ℤ → ℤ → ℤ
value_by Put amount v = amount
value_by Multiply amount v = product v amount
value_by Add amount v = v +ℤ amount

-- whether it is rounded then
abbrev pub is_rounded_by : ChangeKind → ℤ → ℤ → Bool
is_rounded_by Put amount v = false
is_rounded_by Multiply amount v = is_product_rounded v amount
is_rounded_by Add amount v = false

-- whether the value that was doesn't matter
abbrev pub is_put : ChangeKind → Bool
is_put Put = true
is_put Multiply = false
is_put Add = false

-- whether the change leaves the value as it is because there is no limit to be raised or lowered
abbrev pub is_left : Change → ℤ → Bool
is_left change v = is_no_limit change.param v && not (is_put change.kind)

-- what the value becomes by the change
abbrev pub changed_value : Change → ℤ → ℤ
changed_value change v = if is_left change v then v else value_by change.kind change.amount v

-- the value that the change gives at the index, where that is another than the data have there
abbrev pub changed_at : Data → Change → List (List ℕ) → Option Given
changed_at d change index =
    option_and_then (λ v. if int_eq (changed_value change v) v then None else Some (given_value change.param index (changed_value change v))) (value_at d change.param index)

-- the data with the change
abbrev pub with_change : Data → Change → Data
with_change d change = canonical (record { sets = d.sets; given = filter_map (changed_at d change) (indices_named d change) ++ d.given; defaults = d.defaults; second = d.second })

-- the data with these changes, one after another
unfoldable pub changed : Data → List Change → Data
changed d [] = d
changed d (change ∷ changes) = changed (with_change d change) changes

-- why a value is refused: it lies outside the parameter's range, or its size is above 10^15
abbrev pub changed_fault : Range → ℤ → Option CellFault
changed_fault range v = option_or (range_fault range v) (unless (nat_le (unsigned_abs v) (10 ^ 24)) OutOfRange)

-- why what the change gives at the index is refused
abbrev pub refusal_of : Data → Change → List (List ℕ) → Option Refusal
refusal_of d change index =
    option_map (λ fault. AtIndex fault change.param index) (option_and_then (λ v. changed_fault (range_of change.param) (changed_value change v)) (value_at d change.param index))

-- the refusals of what the change gives, in the order of the indices
abbrev pub change_refusals : Data → Change → List Refusal
change_refusals d change = filter_map (refusal_of d change) (indices_named d change)

-- whether what the change gives at the index is rounded
abbrev pub is_rounded_at : Data → Change → List (List ℕ) → Bool
is_rounded_at d change index =
    option_map_or (λ v. not (is_left change v) && is_rounded_by change.kind change.amount v) (value_at d change.param index) false

-- how many values the change rounds
abbrev pub rounded_by : Data → Change → ℕ
rounded_by d change = length (filter (is_rounded_at d change) (indices_named d change))
