-- The parts of a trial as the code has them.
use Rattle.std.specs.Prelude.{◌≡◌, pos, Bool, true, false, not, ◌||◌, ◌&&◌, Contains, List, [], ◌∷◌, map}
use Rattle.row_problem.specs.Prelude.{Row, RowName, Var, row_name_cmp, is_lt, Reduced, contents_of, IsPlan, IsRefutation, plan_cost, keys_of, Multipliers}
use Rattle.row_problem.specs.Sizes.{is_unequal}
use Rattle.conflict_sets.specs.Trials.{HasNone, HasPlan, TrialEnd, rows_with}
use Rattle.conflict_sets.specs.Conflicts.{inequalities}
use Rattle.conflict_sets.specs.Walks.{every, is_listed, is_other}
use Rattle.conflict_sets.specs.declared.listing.Listing.{Listing}
use Rattle.conflict_sets.specs.declared.listing.Listing.TheVariants as listings
use Rattle.conflict_sets.specs.declared.trial.Finding.{Finding}
use Rattle.conflict_sets.specs.declared.trial.Finding.TheVariants as findings

-- the name comes before the first of these or after the last
abbrev pub is_outside : RowName → RowName → RowName → Bool
is_outside first last name = is_lt (row_name_cmp name first) || is_lt (row_name_cmp last name)

-- the inequalities that a listing lists
abbrev pub listed_by : Listing → RowName → Bool
listed_by listings.Every = every
listed_by (listings.Others multipliers left_out) = is_other multipliers.now left_out
listed_by (listings.Outside multipliers first last) = λ name. is_listed multipliers.now name && is_outside first last name

-- the row is an equation, or listed
abbrev pub is_taken : (RowName → Bool) → Row → Bool
is_taken listed row = not (is_unequal row.sense) || listed row.name

-- those at whose places a list of tests has true
abbrev pub selected : {A : Type 0} → List Bool → List A → List A
selected [] xs = []
selected (t ∷ ts) [] = []
selected (true ∷ ts) (x ∷ xs) = x ∷ selected ts xs
selected (false ∷ ts) (x ∷ xs) = selected ts xs

-- which of the rows are listed
abbrev pub tests_of : (RowName → Bool) → List Row → List Bool
tests_of listed rows = map (λ row. listed row.name) rows

-- the linear program with the listed rows alone, and without a cost
pub record IsTriedOf (listed : RowName → Bool) (whole made : Reduced) : Type 0 where
  pub rows : map contents_of made.rows.items ≡ selected (tests_of listed whole.rows.items) (map contents_of whole.rows.items)
  pub scales : made.scales.items ≡ selected (tests_of listed whole.rows.items) whole.scales.items
  pub columns : made.columns.items ≡ whole.columns.items
  pub cost : made.cost.items ≡ []
  pub cost_right : made.cost_rhs ≡ pos 0
  pub cost_own : made.cost_own ≡ pos 1

-- what a trial found, as its end
abbrev pub end_found : Finding → TrialEnd
end_found (findings.Plan plan) = HasPlan plan
end_found (findings.Refutation multipliers) = HasNone multipliers

-- of the inequalities those that are listed alone have a multiplier other than 0
abbrev pub AreWithin : (RowName → Bool) → List Row → Multipliers → Type 0
AreWithin listed rows multipliers = (name : RowName) → Contains (inequalities rows) name → is_listed multipliers name ≡ true → listed name ≡ true

-- what it is worth: the checker said yes
abbrev pub IsFinding : (RowName → Bool) → List Row → List Var → Finding → Type 0
IsFinding listed rows vars (findings.Plan plan) = IsPlan (rows_with listed rows) vars plan (plan_cost vars plan) × (keys_of plan ≡ vars)
IsFinding listed rows vars (findings.Refutation multipliers) = IsRefutation rows vars multipliers × AreWithin listed rows multipliers
