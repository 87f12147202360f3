-- What a row has to do with the named equation whose name it bears.
use Rattle.std.specs.Prelude.{◌≡◌, ℕ, ℤ, pos, ◌<ℤ◌, ◌↔◌, Some}
use Rattle.model_sets.specs.Data.{Data}
use Rattle.row_core.specs.declared.Row.{Row}
use Rattle.row_core.specs.declared.RowName.{RowName}
use Rattle.row_core.specs.declared.Var.{Var}
use Rattle.row_core.specs.EquationTerms.{EquationTerms, IsRowOf}
use Rattle.row_core.specs.Rows.{RowHolds, number_at}
use Rattle.named_equations.specs.Instances.{variable_of}
use Rattle.named_equations.specs.Plans.{Meets}

-- the row holds of a plan exactly where the plan meets the equation of this name
abbrev pub SaysNamed : ℕ → Data → RowName → Row → Type 0
SaysNamed places d name row = (q : ℕ) (x : Var → ℤ) → RowHolds row q x ↔ Meets places d q x name

-- the row has a positive entry at the variable that the equation of this name defines
abbrev pub DefinesNamed : RowName → Row → Type 0
DefinesNamed name row = (v : Var) → variable_of name ≡ Some v → pos 0 <ℤ number_at row.entries.items v

-- the row of the named equation, which is written as these terms
pub record IsNamedRow (places : ℕ) (d : Data) (name : RowName) (e : EquationTerms) (row : Row) : Type 0 where
  pub written : IsRowOf name e row
  pub says : SaysNamed places d name row
  pub defines : DefinesNamed name row
