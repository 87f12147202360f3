-- The equations of this crate by their numbers: 1, and 7 to 24.
use Rattle.std.specs.Prelude.{◌≡◌, ℕ, ◌-◌, ◌≤◌, ◌⊎◌, List, [], ◌∷◌, slice_index_or}
use Rattle.model_sets.specs.Data.{Data}
use Rattle.row_core.specs.declared.equation_numbers.TheConstants.{EQ_SPECIFIED_DEMAND, CAB1, EBA1, ACC3}
use Rattle.row_core.specs.declared.Index.{Index}
use Rattle.row_core.specs.declared.RowName.{RowName}
use Rattle.row_core.specs.declared.kind_numbers.TheConstants.{DEMAND, PRODUCTION, PRODUCTION_ANNUAL, RATE_OF_DEMAND, RATE_OF_PRODUCTION, RATE_OF_USE, USE, USE_ANNUAL}
use Rattle.row_core.specs.EquationTerms.{EquationTerms}
use Rattle.named_equations.specs.Indices.{by_rfy, by_rlfy, by_rltfmy, by_rltfy, by_rrrfy, by_rrrlfy, by_rtmy}
use Rattle.balance_rows.specs.declared.flows.Flow.TheVariants.{Made, Taken}
use Rattle.balance_rows.specs.Balance.{eq_specified_demand, mode_flow, technology_flow, all_flow, fuel_in_slice, eba10, eba11, fuel_in_year, ebb3, ebb4, acc1, acc2, acc3}

-- the equations are number 1 and numbers 7 to 24
abbrev pub IsBalanceEquation : ℕ → Type 0
IsBalanceEquation eq = (eq ≡ EQ_SPECIFIED_DEMAND) ⊎ ((EBA1 ≤ eq) × (eq ≤ ACC3))

-- the equations as terms: EQ_SpecifiedDemand, and those from number 7
abbrev pub balance_terms : Data → List (Index → EquationTerms)
balance_terms d =
    by_rlfy (eq_specified_demand d)
    ∷ by_rltfmy (mode_flow Made d) ∷ by_rltfy (technology_flow Made d) ∷ by_rlfy (all_flow Made d)
    ∷ by_rltfmy (mode_flow Taken d) ∷ by_rltfy (technology_flow Taken d) ∷ by_rlfy (all_flow Taken d)
    ∷ by_rlfy (fuel_in_slice PRODUCTION RATE_OF_PRODUCTION d) ∷ by_rlfy (fuel_in_slice USE RATE_OF_USE d) ∷ by_rlfy (fuel_in_slice DEMAND RATE_OF_DEMAND d)
    ∷ by_rrrlfy (eba10 d) ∷ by_rlfy (eba11 d)
    ∷ by_rfy (fuel_in_year PRODUCTION_ANNUAL PRODUCTION d) ∷ by_rfy (fuel_in_year USE_ANNUAL USE d) ∷ by_rrrfy (ebb3 d) ∷ by_rfy (ebb4 d)
    ∷ by_rltfy (acc1 d) ∷ by_rltfy (acc2 d) ∷ by_rtmy (acc3 d) ∷ []

-- the equation of this name, as terms: EBa1 comes after CAb1, and 1 less the number of CAb1 is 0
abbrev pub terms_at : Data → RowName → EquationTerms
terms_at d name = slice_index_or (balance_terms d) (name.eq - CAB1) (by_rlfy (eq_specified_demand d)) name.index
