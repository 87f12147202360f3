-- The equations of this crate by their numbers: 25 to 34 and 40 to 42.
use Rattle.std.specs.Prelude.{ℕ, ◌-◌, ◌≤◌, ◌⊎◌, List, [], ◌∷◌, nat_le, slice_index_or, if◌then◌else◌}
use Rattle.model_sets.specs.Data.{Data}
use Rattle.row_core.specs.declared.equation_numbers.TheConstants.{CC1, OC4, TDC1, ACC4}
use Rattle.row_core.specs.declared.Index.{Index}
use Rattle.row_core.specs.declared.RowName.{RowName}
use Rattle.row_core.specs.EquationTerms.{EquationTerms}
use Rattle.named_equations.specs.Indices.{by_r, by_rty, by_ry}
use Rattle.cost_rows.specs.Costs.{cc1, cc2, salvage_by_method, sv3, sv4, oc1, oc2, oc3, oc4, tdc1, tdc2, acc4}

-- the equations are numbers 25 to 34 and 40 to 42
abbrev pub IsCostEquation : ℕ → Type 0
IsCostEquation eq = ((CC1 ≤ eq) × (eq ≤ OC4)) ⊎ ((TDC1 ≤ eq) × (eq ≤ ACC4))

-- those of investment, salvage value and operating cost as terms, from number 25
abbrev pub parts_of_cost : ℕ → Data → List (Index → EquationTerms)
parts_of_cost places d =
    by_rty (cc1 places d) ∷ by_rty (cc2 places d)
    ∷ by_rty (salvage_by_method places d 1) ∷ by_rty (salvage_by_method places d 2) ∷ by_rty (sv3 d) ∷ by_rty (sv4 places d)
    ∷ by_rty (oc1 d) ∷ by_rty (oc2 d) ∷ by_rty (oc3 d) ∷ by_rty (oc4 places d) ∷ []

-- those of total cost as terms, from number 40
abbrev pub totals_of_cost : Data → List (Index → EquationTerms)
totals_of_cost d = by_rty (tdc1 d) ∷ by_ry (tdc2 d) ∷ by_r (acc4 d) ∷ []

-- the equation of this name, as terms, with written factors of so many decimal places
abbrev pub terms_at : ℕ → Data → RowName → EquationTerms
terms_at places d name =
    if nat_le name.eq OC4
    then slice_index_or (parts_of_cost places d) (name.eq - CC1) (by_rty (cc1 places d)) name.index
    else slice_index_or (totals_of_cost d) (name.eq - TDC1) (by_rty (tdc1 d)) name.index
