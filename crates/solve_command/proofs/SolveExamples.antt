-- What is due of solving, on examples and near misses.
use Rattle.solve_command.proofs.Common.{◌≡◌, ℕ, pos, [], ◌∷◌, refl, arith, Data, HasNoPlan, IsPivotDue, Report, IsWithinLimits, ComesToEnd, HasNoLeastCost, NoneIsFeasible}
use Rattle.named_equations.specs.Variables.{new_capacity, rate_of_activity, trade}
use Rattle.row_problem.specs.Sizes.{column_count}

-- ---- sizes

-- an activity, a capacity, and the trade of two regions in their order and in the other
four_columns : column_count (rate_of_activity 0 0 0 0 0 ∷ new_capacity 0 0 0 ∷ trade 0 1 0 0 0 ∷ trade 1 0 0 0 0 ∷ []) ≡ 4
four_columns = refl

-- no row and no column are within the limits
nothing_within : IsWithinLimits [] []
nothing_within = (omega arith, omega arith)

-- ---- ends

-- a pivot that is due after the last is no end, and that there is no plan is one
due_no_end : ComesToEnd Report [] IsPivotDue → ⊥
due_no_end h = h

refuted_end : ComesToEnd Report [] (HasNoPlan [] 3)
refuted_end = tt

-- a model without a plan has none of any cost
none_or_lower : (places : ℕ) (d : Data) → NoneIsFeasible places d → HasNoLeastCost places d → ⊥
none_or_lower places d none lower = none (lower (pos 0)).over (lower (pos 0)).plan (lower (pos 0)).feasible
