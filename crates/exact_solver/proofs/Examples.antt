-- The definitions, computed: ends of the method.
use Rattle.row_problem.proofs.Common.{◌≡◌, ℕ, pos, List, [], ◌∷◌, refl, Some, difference_formed, product_formed, sum_formed, gcd_of, gcd_within, all_fit, in_range, lowest, minus, order_of, plus, times, whole, first_wide, Row, Var, CostRow, SumGap, RATE_OF_ACTIVITY, answer, answer_of, run, IsOutOfPivots, IsTooWide, Budget, Width, Model, One, Least as LeastValue, Greatest, carried_direction, carried_multipliers, carried_plan, carrying_steps, direction_steps, plan_steps, program_left}
use Rattle.exact_solver.specs.MethodEnds.{HasNoBound, HasNoPlan, HasOptimum, IsPivotDue, IsStopOf, IsWide, carried_end, method_end, solved_end, unless_wide}

-- the variable of this kind between two regions; the other subscripts are 0
abbrev between : ℕ → ℕ → ℕ → Var
between kind r rr = record { kind = kind; index = record { region = r; other = rr; slice = 0; tech = 0; fuel = 0; emission = 0; mode = 0; year = 0 } }

abbrev activity : Var
activity = between RATE_OF_ACTIVITY 0 0

-- ---- ends

-- without rows no pivot is due: what a plan chooses is 0, and so are the cost and the bound
nothing_asked : method_end [] [] (activity ∷ []) 0 ≡ HasOptimum ((activity, whole (pos 0)) ∷ []) [] 0
unfolding method_end solved_end program_left carried_plan plan_steps carried_multipliers carrying_steps difference_formed gcd_of gcd_within all_fit in_range first_wide lowest minus plus times order_of run answer_of answer
nothing_asked = refl

-- nor where the least of the activity is looked for
least_activity : solved_end [] [] (activity ∷ []) (One activity LeastValue) 0 ≡ HasOptimum ((activity, whole (pos 0)) ∷ []) [] 0
unfolding solved_end program_left carried_plan plan_steps carried_multipliers carrying_steps difference_formed gcd_of gcd_within all_fit in_range first_wide lowest minus plus times order_of run answer_of answer
least_activity = refl

-- the greatest is without end: along the direction it grows by 1
greatest_activity : solved_end [] [] (activity ∷ []) (One activity Greatest) 0 ≡ HasNoBound ((activity, whole (pos 0)) ∷ []) ((activity, whole (pos 1)) ∷ []) 0
unfolding solved_end program_left carried_plan plan_steps carried_direction direction_steps carried_multipliers carrying_steps difference_formed product_formed sum_formed gcd_of gcd_within all_fit in_range first_wide lowest minus plus times order_of run answer_of answer
greatest_activity = refl

-- a place at which a number doesn't fit is the end, whatever would have come after it
stopped_first : unless_wide (Some CostRow) (HasNoPlan [] 3) ≡ IsWide CostRow
stopped_first = refl

-- the simplex's stops are those of the method
out_of_pivots : (rows : List Row) (vars : List Var) → carried_end Model rows [] vars IsOutOfPivots ≡ IsPivotDue
out_of_pivots rows vars = refl

too_wide : (rows : List Row) (vars : List Var) → carried_end Model rows [] vars (IsTooWide SumGap) ≡ IsWide SumGap
too_wide rows vars = refl

-- a budget isn't the stop at a place, nor another place
not_budget : ¬ (IsStopOf (IsWide CostRow) Budget)
not_budget h = cc h

not_there : ¬ (IsStopOf (IsWide CostRow) (Width SumGap))
not_there h = cc h
