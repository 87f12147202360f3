-- Plans as tables, and which equation a plan breaks first.
use Rattle.named_equations.proofs.Common.{ℕ, ◌-◌, ℤ, pos, Bool, List, [], not, Option, find, slice_index_or, list_all, Data, Index, Var, instances, meets}
use Rattle.std.specs.Option.{option_map}

-- the plan of a table: a list of values for each kind, in which a number made from the subscripts tells the place; 0 where it has none
abbrev pub tabled : (Index → ℕ) → List (List ℤ) → Var → ℤ
tabled place table v = slice_index_or (slice_index_or table (v.kind - 1) []) (place v.index) (pos 0)

-- the plan meets every equation, with written factors of so many decimal places
abbrev pub meets_all : ℕ → Data → ℕ → (Var → ℤ) → Bool
meets_all places d q x = list_all (meets places d q x) (instances d)

-- the number of the first equation that the plan doesn't meet
abbrev pub first_broken : ℕ → Data → ℕ → (Var → ℤ) → Option ℕ
first_broken places d q x = option_map (λ name. name.eq) (find (λ name. not (meets places d q x name)) (instances d))
