-- The equations of this crate by their numbers: 35 to 39 and 61 to 64.
use Rattle.std.specs.Prelude.{ℕ, ◌-◌, ◌≤◌, ◌⊎◌, List, [], ◌∷◌, nat_le, slice_index_or, if◌then◌else◌}
use Rattle.model_sets.specs.Data.{Data}
use Rattle.row_core.specs.declared.equation_numbers.TheConstants.{E1, E5, E6, E9}
use Rattle.row_core.specs.declared.Index.{Index}
use Rattle.row_core.specs.declared.RowName.{RowName}
use Rattle.row_core.specs.EquationTerms.{EquationTerms}
use Rattle.named_equations.specs.Indices.{by_re, by_rey, by_rtemy, by_rtey, by_rty}
use Rattle.emission_rows.specs.Emissions.{e1, e2, e3, e4, e5, e6, e7, e8, e9}

-- the equations are numbers 35 to 39 and 61 to 64
abbrev pub IsEmissionEquation : ℕ → Type 0
IsEmissionEquation eq = ((E1 ≤ eq) × (eq ≤ E5)) ⊎ ((E6 ≤ eq) × (eq ≤ E9))

-- those of technologies as terms, from number 35
abbrev pub technology_terms : ℕ → Data → List (Index → EquationTerms)
technology_terms places d = by_rtemy (e1 d) ∷ by_rtey (e2 d) ∷ by_rtey (e3 d) ∷ by_rty (e4 d) ∷ by_rty (e5 places d) ∷ []

-- those of regions as terms, from number 61
abbrev pub region_terms : Data → List (Index → EquationTerms)
region_terms d = by_rey (e6 d) ∷ by_re (e7 d) ∷ by_rey (e8 d) ∷ by_re (e9 d) ∷ []

-- the equation of this name, as terms, with written factors of so many decimal places
abbrev pub terms_at : ℕ → Data → RowName → EquationTerms
terms_at places d name =
    if nat_le name.eq E5
    then slice_index_or (technology_terms places d) (name.eq - E1) (by_rtemy (e1 d)) name.index
    else slice_index_or (region_terms d) (name.eq - E6) (by_rey (e6 d)) name.index
