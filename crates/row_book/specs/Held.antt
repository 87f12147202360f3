-- The rows that are held. Only private functions and invariants cite these.
use Rattle.std.specs.Prelude.{◌≡◌, ℕ, ◌<◌, ◌⊎◌, List, [], ◌∷◌, ◌++◌, length, slice_index_or}
use Rattle.std.specs.List.{flat_map}
use Rattle.model_sets.specs.Data.{Data}
use Rattle.row_core.specs.declared.Row.{Row}
use Rattle.row_core.specs.declared.Var.{Var}
use Rattle.named_equations.specs.Instances.{instances_of}
use Rattle.row_core.specs.RowLists.{entry_variables}
use Rattle.row_book.specs.Books.{AreRowsOf}
use Rattle.row_book.specs.declared.held_rows.HeldRows.{HeldRows}

-- each list holds the rows of its equation
abbrev pub AreHeld : ℕ → Data → List HeldRows → Type 0
AreHeld places d held = (i : ℕ) → i < length held → (z : HeldRows) → AreRowsOf places d (instances_of d (slice_index_or held i z).eq) (slice_index_or held i z).rows.items

-- nothing changes, or these rows are held as those of the equation, after the others
abbrev pub KeepsRows : ℕ → List Row → List HeldRows → List HeldRows → Type 0
KeepsRows eq rows old new = (new ≡ old) ⊎ ((h : HeldRows) × (new ≡ old ++ h ∷ []) × (h.eq ≡ eq) × (h.rows.items ≡ rows))

-- the variables of all rows that are held
abbrev pub held_variables : List HeldRows → List Var
held_variables held = flat_map (λ h. entry_variables h.rows.items) held
