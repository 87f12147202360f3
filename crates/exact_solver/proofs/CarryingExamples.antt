-- The order in which what the simplex found is carried back and checked: where numbers of two steps don't fit, the place of the first is told.
use Rattle.row_problem.proofs.Common.{◌≡◌, ℕ, ◌-◌, ◌^◌, ℤ, pos, negsuc, neg_ℤ, true, List, [], ◌∷◌, refl, Option, Some, None, Vec, difference_formed, product_formed, quotient_formed, sum_formed, gcd_of, gcd_within, all_fit, in_range, Rational, divided, lowest, minus, order_of, pair, plus, times, whole, first_wide, Row, RowName, Equal, Most, Var, CAA2, CAA4, NEW_CAPACITY, RATE_OF_ACTIVITY, TOTAL_CAPACITY_ANNUAL, TOTAL_DISCOUNTED_COST, Place, Check, Column, LiftDirection, LiftMultiplier, LiftPlan, SumGap, IsOptimal, IsUnbounded, made_row, Model, carried_direction, carried_multipliers, carried_plan, carrying_steps, direction_steps, plan_steps}
use Rattle.exact_solver.specs.MethodEnds.{HasOptimum, IsWide, MethodEnd, carried_end, optimum_checks}

-- the variable, and the row, of this number at the first members
abbrev of_kind : ℕ → Var
of_kind kind = record { kind = kind; index = record { region = 0; other = 0; slice = 0; tech = 0; fuel = 0; emission = 0; mode = 0; year = 0 } }

abbrev named : ℕ → RowName
named eq = record { eq = eq; index = (of_kind 0).index }

abbrev activity : Var
activity = of_kind RATE_OF_ACTIVITY

abbrev built : Var
built = of_kind NEW_CAPACITY

abbrev cost : Var
cost = of_kind TOTAL_DISCOUNTED_COST

abbrev total : Var
total = of_kind TOTAL_CAPACITY_ANNUAL

-- the greatest number that fits, and the least fraction above 0 that does
abbrev greatest : ℤ
greatest = pos (2 ^ 127 - 1)

abbrev least : Rational
least = pair (pos 1) greatest

module _ (v : Vec (Var × ℤ)) where
  -- twice the total capacity is what is built, and the activity is at most the total: so twice the activity is at most what is built, and a multiplier of that is
  -- doubled
  abbrev rows : List Row
  rows = made_row v (named CAA2) Equal ((built, negsuc 0) ∷ (total, pos 2) ∷ []) (pos 0) refl ∷ made_row v (named CAA4) Most ((activity, pos 1) ∷ (total, negsuc 0) ∷ []) (pos 0) refl ∷ []

  abbrev defs : List (Option Var)
  defs = Some total ∷ None ∷ []

  abbrev vars : List Var
  vars = activity ∷ built ∷ total ∷ []

  -- with these values of the activity and of what is built, and this multiplier
  abbrev optimal : Rational → Rational → ℤ → MethodEnd
  optimal x n lambda = carried_end Model rows defs vars (IsOptimal ((activity, x) ∷ (built, n) ∷ []) (whole lambda ∷ []) 3)

  -- half of the least fraction doesn't fit, and neither does twice the greatest number: the plan is carried back first
  plan_first : optimal (whole (pos 0)) least (neg_ℤ greatest) ≡ IsWide (LiftPlan total)
  unfolding plan_steps carried_plan carrying_steps carried_multipliers gcd_of gcd_within lowest plus minus times divided order_of product_formed sum_formed difference_formed quotient_formed first_wide all_fit in_range
  plan_first = refl

  multipliers_after : optimal (whole (pos 0)) (whole (pos 1)) (neg_ℤ greatest) ≡ IsWide (LiftMultiplier (named CAA4))
  unfolding plan_steps carried_plan carrying_steps carried_multipliers gcd_of gcd_within lowest plus minus times divided order_of product_formed sum_formed difference_formed quotient_formed first_wide all_fit in_range
  multipliers_after = refl

  -- the greatest number less a half doesn't fit: it is formed in the check of the plan, after both were carried back
  multipliers_before_checks : optimal (whole greatest) (whole (pos 1)) (neg_ℤ greatest) ≡ IsWide (LiftMultiplier (named CAA4))
  unfolding plan_steps carried_plan carrying_steps carried_multipliers gcd_of gcd_within lowest plus minus times divided order_of product_formed sum_formed difference_formed quotient_formed first_wide all_fit in_range
  multipliers_before_checks = refl

  checks_last : optimal (whole greatest) (whole (pos 1)) (negsuc 0) ≡ IsWide (Check (named CAA4))
  unfolding plan_steps carried_plan carrying_steps carried_multipliers gcd_of gcd_within lowest plus minus times divided order_of product_formed sum_formed difference_formed quotient_formed first_wide all_fit in_range
  checks_last = refl

  -- where all numbers fit, the multiplier is doubled by the scale of its row, and the definition's takes it back
  carried : optimal (whole (pos 0)) (whole (pos 1)) (pos 0)
      ≡ HasOptimum ((activity, whole (pos 0)) ∷ (built, whole (pos 1)) ∷ (total, pair (pos 1) (pos 2)) ∷ []) ((named CAA2, whole (pos 0)) ∷ (named CAA4, whole (pos 0)) ∷ []) 3
  unfolding plan_steps carried_plan carrying_steps carried_multipliers gcd_of gcd_within lowest plus minus times divided order_of product_formed sum_formed difference_formed quotient_formed first_wide all_fit in_range
  carried = refl

  carried_multiplier : carried_multipliers true rows defs (whole (negsuc 2) ∷ []) ≡ (named CAA2, whole (negsuc 2)) ∷ (named CAA4, whole (negsuc 5)) ∷ []
  unfolding carried_multipliers gcd_of gcd_within lowest plus minus times divided
  carried_multiplier = refl

  -- At the model's cost the plan is checked before the multipliers, and the gap last. The activity is at most 1, twice over; 1 more than the greatest number doesn't
  -- fit, and neither does twice that: it is formed in the check of the plan at the activity, in its column by the multipliers, and in the gap of the cost by the bound.
  abbrev checked : ℤ → ℤ → ℤ → Option Place
  checked x y z =
      first_wide
      (optimum_checks Model
      (made_row v (named CAA2) Most ((activity, pos 1) ∷ []) (pos 1) refl ∷ made_row v (named CAA4) Most ((activity, pos 1) ∷ []) (pos 1) refl ∷ [])
      (activity ∷ cost ∷ []) ((activity, whole x) ∷ (cost, whole greatest) ∷ []) ((named CAA2, whole y) ∷ (named CAA4, whole z) ∷ []))

  plan_checked_first : checked (neg_ℤ greatest) (neg_ℤ greatest) (neg_ℤ greatest) ≡ Some (Check (named CAA2))
  unfolding gcd_of gcd_within lowest plus minus times divided order_of product_formed sum_formed difference_formed quotient_formed first_wide all_fit in_range
  plan_checked_first = refl

  bound_checked_next : checked (pos 0) (neg_ℤ greatest) (neg_ℤ greatest) ≡ Some (Column activity)
  unfolding gcd_of gcd_within lowest plus minus times divided order_of product_formed sum_formed difference_formed quotient_formed first_wide all_fit in_range
  bound_checked_next = refl

  gap_checked_last : checked (pos 0) (negsuc 0) (pos 0) ≡ Some SumGap
  unfolding gcd_of gcd_within lowest plus minus times divided order_of product_formed sum_formed difference_formed quotient_formed first_wide all_fit in_range
  gap_checked_last = refl

  all_checked : checked (pos 0) (pos 0) (pos 0) ≡ None
  unfolding gcd_of gcd_within lowest plus minus times divided order_of product_formed sum_formed difference_formed quotient_formed first_wide all_fit in_range
  all_checked = refl

  -- an unbounded end: the plan before the direction
  abbrev unbounded : Rational → Rational → MethodEnd
  unbounded n d = carried_end Model rows defs vars (IsUnbounded ((activity, whole (pos 0)) ∷ (built, n) ∷ []) ((activity, whole (pos 0)) ∷ (built, d) ∷ []) 3)

  plan_before_direction : unbounded least least ≡ IsWide (LiftPlan total)
  unfolding plan_steps carried_plan direction_steps carried_direction gcd_of gcd_within lowest plus minus times divided order_of product_formed sum_formed difference_formed quotient_formed first_wide all_fit in_range
  plan_before_direction = refl

  direction_after : unbounded (whole (pos 1)) least ≡ IsWide (LiftDirection total)
  unfolding plan_steps carried_plan direction_steps carried_direction gcd_of gcd_within lowest plus minus times divided order_of product_formed sum_formed difference_formed quotient_formed first_wide all_fit in_range
  direction_after = refl
