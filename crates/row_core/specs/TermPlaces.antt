-- Where a variable stands in a list of terms that ascends by variable, or would stand.
use Rattle.std.specs.Prelude.{◌≡◌, ℕ, ◌<◌, ◌≤◌, List, length, slice_index_or}
use Rattle.std.specs.declared.cmp.Ordering.TheVariants.{Less, Greater}
use Rattle.row_core.specs.declared.terms.Term.{Term}
use Rattle.row_core.specs.declared.Var.{Var}
use Rattle.row_core.specs.Order.{var_cmp}

-- the terms that stand before this position are before the variable
abbrev pub AreBefore : List Term → Var → ℕ → Type 0
AreBefore terms v at = (k : ℕ) (d : Term) → k < at → var_cmp (slice_index_or terms k d).variable v ≡ Less

-- the term at this position is of the variable
pub record IsThere (terms : List Term) (v : Var) (at : ℕ) : Type 0 where
  pub within : at < length terms
  pub same : (d : Term) → (slice_index_or terms at d).variable ≡ v
  pub before : AreBefore terms v at

-- no term is of the variable, and one that is belongs at this position
pub record BelongsAt (terms : List Term) (v : Var) (at : ℕ) : Type 0 where
  pub within : at ≤ length terms
  pub before : AreBefore terms v at
  pub following : (d : Term) → at < length terms → var_cmp (slice_index_or terms at d).variable v ≡ Greater
