-- Sums over the years: of each technology, fuel or emission, whatever the kind has beside the year, the values of all years together.
use Rattle.std.specs.Prelude.{ℕ, ℤ, pos, ◌==◌, Bool, true, false, ◌&&◌, ◌||◌, not, List, ◌++◌, map, filter, length, Option, Some, None}
use Rattle.std.specs.List.{list_any, range_with_len}
use Rattle.exact_num.specs.Rational.{Rational}
use Rattle.model_sets.specs.Members.{members}
use Rattle.model_sets.specs.Names.{year}
use Rattle.row_core.specs.declared.Var.{Var}
use Rattle.row_core.specs.Numbers.{is_zero}
use Rattle.row_core.specs.Order.{var_cmp}
use Rattle.row_core.specs.Plans.{value_in}
use Rattle.plan_tables.specs.ValueTables.{is_shown}
use Rattle.plan_compare.specs.declared.change.Change.{Change}
use Rattle.plan_compare.specs.Amounts.{difference, size, sum_from}
use Rattle.value_millionths.specs.Shown.{shown}
use Rattle.plan_compare.specs.Changes.{is_same, value_there}
use Rattle.plan_compare.specs.Counterparts.{counterpart}
use Rattle.plan_compare.specs.Scenarios.{Side}

-- the variable in another year
abbrev pub at_year : Var → ℕ → Var
at_year v year = record {
  kind = v.kind;
  index = record {
    region = v.index.region;
    other = v.index.other;
    slice = v.index.slice;
    tech = v.index.tech;
    fuel = v.index.fuel;
    emission = v.index.emission;
    mode = v.index.mode;
    year = year;
  };
}

-- the positions of all years of a side
abbrev pub year_positions : Side → List ℕ
year_positions side = range_with_len 0 (length (members side.sets year))

-- the value in that year, in millionths
abbrev pub shown_in : Side → Var → ℕ → Option ℤ
shown_in side v year = shown (value_in var_cmp side.plan (at_year v year))

-- the sum over all years of the side
abbrev pub sum_of : Side → Var → Option ℤ
sum_of side v = sum_from (Some (pos 0)) (map (shown_in side v) (year_positions side))

-- the value in that year isn't 0
abbrev pub is_told_in : Side → Var → ℕ → Bool
is_told_in side v year = not (is_zero (value_in var_cmp side.plan (at_year v year)).top)

-- a value of the kind that isn't 0, and the first such over the years: it stands for the sum
abbrev pub is_first : ℕ → Side → Var × Rational → Bool
is_first kind side e = is_shown kind e && not (list_any (is_told_in side e.0) (range_with_len 0 e.0.index.year))

-- the sum at a variable that may not be there: then it is 0
abbrev pub sum_at_most_one : Side → Option Var → Option ℤ
sum_at_most_one side None = Some (pos 0)
sum_at_most_one side (Some v) = sum_of side v

-- a year has a value that isn't 0
abbrev pub is_told_at_most_one : Side → Option Var → Bool
is_told_at_most_one side None = false
is_told_at_most_one side (Some v) = list_any (is_told_in side v) (year_positions side)

-- the values of that year, here and there, aren't one number
abbrev pub differs_in : ℕ → Side → Side → Var → ℕ → Bool
differs_in kind here there v year = not (is_same (value_in var_cmp here.plan (at_year v year)) (value_there kind here there (at_year v year)))

-- those of one of the years here aren't, at a variable that may not be there
abbrev pub differs_at_most_one : ℕ → Side → Side → Option Var → Bool
differs_at_most_one kind here there None = false
differs_at_most_one kind here there (Some v) = list_any (differs_in kind here there v) (year_positions here)

-- those of one of the years of either plan aren't
abbrev pub differs_by_year : ℕ → Side → Side → Var → Bool
differs_by_year kind first second v =
    differs_at_most_one kind first second (Some v) || differs_at_most_one kind second first (counterpart false kind first.sets second.sets v)

-- Sums are the same where the exact values of each year are, and else where the rounded sums are: they differ where a year does, and the
-- difference of the rounded sums isn't 0, or isn't there.
abbrev pub change_of : Bool → Var → Option ℤ → Option ℤ → Bool → Change
change_of in_second v one two by_year =
    record { in_second = in_second; var = v; one = one; two = two; differs = by_year && not (size (difference one two) == 0) }

-- a sum of the first plan
abbrev pub sum_of_first : ℕ → Side → Side → Var × Rational → Change
sum_of_first kind first second e =
    change_of false e.0 (sum_of first e.0) (sum_at_most_one second (counterpart false kind first.sets second.sets e.0)) (differs_by_year kind first second e.0)

-- one of the second plan, where the first has no value but 0: so a year differs
abbrev pub sum_of_second : Side → Var × Rational → Change
sum_of_second second e = change_of true e.0 (Some (pos 0)) (sum_of second e.0) true

-- it is the first over the years, and the other plan has none
abbrev pub is_new_sum : ℕ → Side → Side → Var × Rational → Bool
is_new_sum kind first second e = is_first kind second e && not (is_told_at_most_one first (counterpart false kind second.sets first.sets e.0))

-- the sums of a kind in both plans: those of the first in its order, and then those that the second alone has in its order
abbrev pub sums : ℕ → Side → Side → List Change
sums kind first second =
    map (sum_of_first kind first second) (filter (is_first kind first) first.plan) ++ map (sum_of_second second) (filter (is_new_sum kind first second) second.plan)
