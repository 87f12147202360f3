-- What is known between two trials.
use Rattle.std.specs.Prelude.{◌≡◌, ℕ, ◌+◌, true, Contains, List, [], ◌∷◌, ◌++◌, map, Option}
use Rattle.row_problem.specs.Prelude.{Rational, Row, RowName, Var, ascends, row_name_cmp, value_in, IsRefutation, Values, Multipliers}
use Rattle.conflict_sets.specs.Conflicts.{IsWholePlan, inequalities}
use Rattle.conflict_sets.specs.Trials.{rows_with}
use Rattle.conflict_sets.specs.Walks.{Explanation, Needed, is_listed, is_other, walk}
use Rattle.conflict_sets.specs.declared.searching.Search.{Search}
use Rattle.conflict_sets.specs.declared.trial.Finding.{Finding}
use Rattle.conflict_sets.specs.declared.trial.Finding.TheVariants.{Plan, Refutation}

-- each name with the plan at its place
abbrev pub paired : List RowName → List Values → List Needed
paired [] plans = []
paired (name ∷ names) [] = []
paired (name ∷ names) (plan ∷ plans) = (name, plan) ∷ paired names plans

abbrev pub all_needed : Search → List Needed
all_needed search = paired search.names.items search.plans.items

-- a name with its multiplier
abbrev pub member_named : Multipliers → RowName → RowName × Rational
member_named multipliers name = (name, value_in row_name_cmp multipliers name)

-- what the trials that are left, of these inequalities, come to
abbrev pub walk_from : List Row → List (Option Var) → List Var → ℕ → Search → List RowName → Explanation
walk_from rows defs vars pivots search left = walk rows defs vars pivots (search.trials + 1) left search.multipliers (all_needed search)

abbrev pub needed_name : Needed → RowName
needed_name one = one.0

-- the inequalities that are needed, and those that are left
abbrev pub names_known : List Needed → List RowName → List RowName
names_known needed left = map needed_name needed ++ left

-- after a trial of the list without this inequality, which found this: the list, and what is needed
abbrev pub list_after : Finding → Multipliers → Multipliers
list_after (Plan plan) multipliers = multipliers
list_after (Refutation made) multipliers = made

abbrev pub needed_after : RowName → Finding → List Needed → List Needed
needed_after name (Plan plan) needed = needed ++ (name, plan) ∷ []
needed_after name (Refutation made) needed = needed

-- The multipliers refute the rows. The inequalities that are needed and those that are left ascend, and those on the list are among them. And each that is needed has a plan of the others on the list.
pub record IsSearched (rows : List Row) (vars : List Var) (multipliers : Multipliers) (needed : List Needed) (left : List RowName) : Type 0 where
  pub refutation : IsRefutation rows vars multipliers
  pub ascending : ascends row_name_cmp (names_known needed left) ≡ true
  pub among : (name : RowName) → Contains (names_known needed left) name → Contains (inequalities rows) name
  pub listed : (name : RowName) → Contains (inequalities rows) name → is_listed multipliers name ≡ true → Contains (names_known needed left) name
  pub plans : (one : Needed) → Contains needed one → IsWholePlan (rows_with (is_other multipliers one.0) rows) vars one.1

abbrev pub SearchIs : List Row → List Var → Search → List RowName → Type 0
SearchIs rows vars search left = IsSearched rows vars search.multipliers (all_needed search) left
