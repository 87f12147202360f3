-- What is told of a variable in two plans: its values in both, in millionths, and whether they differ.
use Rattle.std.specs.Prelude.{ℕ, pos, Bool, true, false, ◌&&◌, not, List, [], ◌∷◌, ◌++◌, map, filter, Option, Some, None, if◌then◌else◌}
use Rattle.std.specs.Ordering.{int_eq}
use Rattle.exact_num.specs.Rational.{Rational, whole}
use Rattle.row_core.specs.declared.Var.{Var}
use Rattle.row_core.specs.Numbers.{is_zero}
use Rattle.row_core.specs.Order.{var_cmp}
use Rattle.row_core.specs.Plans.{value_in}
use Rattle.plan_tables.specs.ValueTables.{is_shown}
use Rattle.plan_compare.specs.declared.change.Change.{Change}
use Rattle.value_millionths.specs.Shown.{shown}
use Rattle.plan_compare.specs.Counterparts.{counterpart}
use Rattle.plan_compare.specs.Scenarios.{Side}

-- the value in the plan of a side at a variable that may not be there: then it is 0
abbrev pub value_at_most_one : Side → Option Var → Rational
value_at_most_one side None = whole (pos 0)
value_at_most_one side (Some v) = value_in var_cmp side.plan v

-- the value in the plan there of the variable of the same names
abbrev pub value_there : ℕ → Side → Side → Var → Rational
value_there kind here there v = value_at_most_one there (counterpart true kind here.sets there.sets v)

-- both values are one number: both are in lowest terms
abbrev pub is_same : Rational → Rational → Bool
is_same a b = int_eq a.top b.top && int_eq a.bottom b.bottom

-- a variable of the first plan
abbrev pub change_of_first : ℕ → Side → Side → Var × Rational → Change
change_of_first kind first second e =
    let two : Rational = value_there kind first second e.0 in
    record { in_second = false; var = e.0; one = shown e.1; two = shown two; differs = not (is_same e.1 two) }

-- one of the second plan, where the value in the first is 0
abbrev pub change_of_second : Var × Rational → Change
change_of_second e = record { in_second = true; var = e.0; one = Some (pos 0); two = shown e.1; differs = true }

-- the value is one of the kind and not 0, and the other plan has none but 0 there
abbrev pub is_new : ℕ → Side → Side → Var × Rational → Bool
is_new kind first second e = is_shown kind e && is_zero (value_there kind second first e.0).top

-- what is told of an entry that passes, and nothing of another
abbrev pub told_where : {A : Type 0} → (A → Bool) → (A → Change) → A → Option Change
told_where passes of e = if passes e then Some (of e) else None

-- what there is, as a list
abbrev pub listed : Option Change → List Change
listed None = []
listed (Some change) = change ∷ []

-- the values of a kind that aren't 0 in both plans: those of the first in its order, and then those that the second alone has in its order
abbrev pub changes : ℕ → Side → Side → List Change
changes kind first second =
    map (change_of_first kind first second) (filter (is_shown kind) first.plan) ++ map change_of_second (filter (is_new kind first second) second.plan)
