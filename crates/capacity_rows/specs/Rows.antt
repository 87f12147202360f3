-- The equations of this crate by their numbers.
use Rattle.std.specs.Prelude.{ℕ, ◌-◌, ◌≤◌, List, [], ◌∷◌, slice_index_or}
use Rattle.model_sets.specs.Data.{Data}
use Rattle.row_core.specs.declared.equation_numbers.TheConstants.{CAA1, CAB1}
use Rattle.row_core.specs.declared.Index.{Index}
use Rattle.row_core.specs.declared.RowName.{RowName}
use Rattle.row_core.specs.EquationTerms.{EquationTerms}
use Rattle.named_equations.specs.Indices.{by_rty, by_rlty}
use Rattle.capacity_rows.specs.Capacity.{caa1, caa2, caa3, caa4, cab1}

-- the equations are numbers 2 to 6
abbrev pub IsCapacityEquation : ℕ → Type 0
IsCapacityEquation eq = (CAA1 ≤ eq) × (eq ≤ CAB1)

-- the equations as terms, from number 2
abbrev pub capacity_terms : Data → List (Index → EquationTerms)
capacity_terms d = by_rty (caa1 d) ∷ by_rty (caa2 d) ∷ by_rlty (caa3 d) ∷ by_rlty (caa4 d) ∷ by_rty (cab1 d) ∷ []

-- the equation of this name, as terms
abbrev pub terms_at : Data → RowName → EquationTerms
terms_at d name = slice_index_or (capacity_terms d) (name.eq - CAA1) (by_rty (caa1 d)) name.index
