-- What each named equation is as terms. Five crates make the rows, each of them those of its own equations.
use Rattle.std.specs.Prelude.{ℕ, Bool, ◌&&◌, ◌||◌, nat_le, if◌then◌else◌}
use Rattle.model_sets.specs.Data.{Data}
use Rattle.row_core.specs.declared.RowName.{RowName}
use Rattle.row_core.specs.declared.equation_numbers.TheConstants.{CAA1, CAB1, CC1, OC4, E1, E5, TDC1, ACC4, TCC1, RE5, E6, E9}
use Rattle.row_core.specs.EquationTerms.{EquationTerms}
use Rattle.balance_rows.specs.Rows as balance
use Rattle.capacity_rows.specs.Rows as capacity
use Rattle.cost_rows.specs.Rows as cost
use Rattle.emission_rows.specs.Rows as emission
use Rattle.limit_rows.specs.Rows as limit

-- the number is one of those from the first to the last
abbrev pub is_from : ℕ → ℕ → ℕ → Bool
is_from first last eq = nat_le first eq && nat_le eq last

-- the equation of this name, as terms with written factors of so many decimal places: one of capacity adequacy, of cost, of emissions, of limits, or of the energy balance
abbrev pub terms_at : ℕ → Data → RowName → EquationTerms
terms_at places d name =
    if is_from CAA1 CAB1 name.eq then capacity.terms_at d name
    else if is_from CC1 OC4 name.eq || is_from TDC1 ACC4 name.eq then cost.terms_at places d name
    else if is_from E1 E5 name.eq || is_from E6 E9 name.eq then emission.terms_at places d name
    else if is_from TCC1 RE5 name.eq then limit.terms_at d name
    else balance.terms_at d name
