-- The equations of this crate by their numbers: 43 to 60.
use Rattle.std.specs.Prelude.{◌≡◌, ◌≢◌, ℕ, ℤ, ◌-◌, ◌≤◌, List, [], ◌∷◌, Option, slice_index_or}
use Rattle.exact_num.specs.declared.fraction.Frac.{Frac}
use Rattle.model_sets.specs.Data.{Data}
use Rattle.row_core.specs.declared.equation_numbers.TheConstants.{TCC1, AAC1, TAC1, TAC3, RE5}
use Rattle.row_core.specs.declared.Index.{Index}
use Rattle.row_core.specs.declared.RowName.{RowName}
use Rattle.row_core.specs.declared.Sense.{Sense}
use Rattle.row_core.specs.declared.Var.{Var}
use Rattle.row_core.specs.Amounts.{Billionths}
use Rattle.row_core.specs.Calculated.{known, number_of}
use Rattle.row_core.specs.EquationTerms.{EquationTerms}
use Rattle.named_equations.specs.Indices.{by_rly, by_rt, by_rtfy, by_rty, by_ry}
use Rattle.named_equations.specs.TermShapes.{is_limited}
use Rattle.limit_rows.specs.Limits.{tcc1, tcc2, ncc1, ncc2, aac1, aac2, aac3, tac1, tac2, tac3}
use Rattle.limit_rows.specs.RenewableTarget.{re1, re2, re3, re4, re5}
use Rattle.limit_rows.specs.ReserveMargin.{rm1, rm2, rm3}

-- the equations are numbers 43 to 60
abbrev pub IsLimitEquation : ℕ → Type 0
IsLimitEquation eq = (TCC1 ≤ eq) × (eq ≤ RE5)

-- those that are limits: numbers 43 to 52 but AAC1 and TAC1, which say what is limited
abbrev pub IsLimitNumber : ℕ → Type 0
IsLimitNumber eq = (TCC1 ≤ eq) × (eq ≤ TAC3) × (eq ≢ AAC1) × (eq ≢ TAC1)

-- the terms say that this variable stands in this sense to the value, which is one of the data
abbrev pub IsLimitOf : EquationTerms → Var × Sense × Option Frac → Type 0
IsLimitOf e limit = (z : ℤ) × (e ≡ is_limited limit.1 limit.0 z) × (known limit.2 ≡ number_of (Billionths z))

-- the equations as terms, from number 43
abbrev pub limit_terms : Data → List (Index → EquationTerms)
limit_terms d =
    by_rty (tcc1 d) ∷ by_rty (tcc2 d) ∷ by_rty (ncc1 d) ∷ by_rty (ncc2 d)
    ∷ by_rty (aac1 d) ∷ by_rty (aac2 d) ∷ by_rty (aac3 d) ∷ by_rt (tac1 d) ∷ by_rt (tac2 d) ∷ by_rt (tac3 d)
    ∷ by_ry (rm1 d) ∷ by_rly (rm2 d) ∷ by_rly (rm3 d)
    ∷ by_rtfy (re1 d) ∷ by_ry (re2 d) ∷ by_ry (re3 d) ∷ by_ry (re4 d) ∷ by_rtfy (re5 d) ∷ []

-- the equation of this name, as terms
abbrev pub terms_at : Data → RowName → EquationTerms
terms_at d name = slice_index_or (limit_terms d) (name.eq - TCC1) (by_rty (tcc1 d)) name.index
