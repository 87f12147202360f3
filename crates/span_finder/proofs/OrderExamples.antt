-- The order of the trials and of what each of them carries back and checks: where numbers of two steps don't fit, the place of the first is told. And the numbers of the limit.
use Rattle.span_finder.proofs.Common.{◌≡◌, ℕ, ◌-◌, ◌^◌, ℤ, pos, negsuc, neg_ℤ, List, [], ◌∷◌, refl, Vec, Some, None, difference_formed, product_formed, quotient_formed, sum_formed, gcd_of, gcd_within, all_fit, in_range, Rational, divided, lowest, minus, order_of, pair, plus, times, whole, first_wide, Row, RowName, Var, CAA2, CAA4, NCC1, NCC2, NEW_CAPACITY, RATE_OF_ACTIVITY, TOTAL_CAPACITY_ANNUAL, Check, Column, LiftDirection, LiftMultiplier, LiftPlan, answer, answer_of, run, made_row, One, Goal, Least, Greatest, carried_direction, carried_multipliers, carried_plan, carrying_steps, direction_steps, plan_steps, program_left, Trial, MethodEnd, HasOptimum, IsWide, unbounded_end, optimal_end, solved_end, slack_formed, IsBounded, IsStopped, both_trials, spanned}
use Rattle.row_core.specs.declared.Sense.TheVariants as senses
use Rattle.simplex_core.specs.declared.stops.TrialStop.TheVariants as trials

-- the variable, and the row, of this number at the first members
abbrev of_kind : ℕ → Var
of_kind kind = record { kind = kind; index = record { region = 0; other = 0; slice = 0; tech = 0; fuel = 0; emission = 0; mode = 0; year = 0 } }

abbrev named : ℕ → RowName
named eq = record { eq = eq; index = (of_kind 0).index }

abbrev activity : Var
activity = of_kind RATE_OF_ACTIVITY

abbrev built : Var
built = of_kind NEW_CAPACITY

abbrev total : Var
total = of_kind TOTAL_CAPACITY_ANNUAL

-- the greatest number that fits, and the least fraction above 0 that does
abbrev greatest : ℤ
greatest = pos (2 ^ 127 - 1)

abbrev least : Rational
least = pair (pos 1) greatest

-- ---- the limit

-- a tenth of 80/3: 1 * 8 and 1 * 3, over the common divisors 1 and 10; and 8/3 more than 80/3 is 88/3
slack_above : slack_formed (pair (pos 80) (pos 3)) 100000 ≡ pos 8 ∷ pos 3 ∷ pos 80 ∷ pos 8 ∷ pos 88 ∷ pos 3 ∷ []
unfolding gcd_of gcd_within lowest times product_formed sum_formed
slack_above = refl

-- of a cost below 0 it is a tenth of the absolute value
slack_above_negative : slack_formed (pair (negsuc 79) (pos 3)) 100000 ≡ pos 8 ∷ pos 3 ∷ negsuc 79 ∷ pos 8 ∷ negsuc 71 ∷ pos 3 ∷ []
unfolding gcd_of gcd_within lowest times product_formed sum_formed
slack_above_negative = refl

module _ (v : Vec (Var × ℤ)) where
  -- ---- both trials

  -- what is built is at least 3 and at most 8
  abbrev limits : List Row
  limits = made_row v (named NCC1) senses.Most ((built, pos 1) ∷ []) (pos 8) refl ∷ made_row v (named NCC2) senses.Least ((built, pos 1) ∷ []) (pos 3) refl ∷ []

  from_three_to_eight : spanned limits (None ∷ None ∷ []) (built ∷ []) built 3 ≡ IsBounded ((built, whole (pos 3)) ∷ []) ((built, whole (pos 8)) ∷ [])
  unfolding spanned both_trials solved_end program_left run answer_of answer plan_steps carried_plan carrying_steps carried_multipliers gcd_of gcd_within lowest plus minus times divided order_of product_formed sum_formed difference_formed quotient_formed first_wide all_fit in_range
  from_three_to_eight = refl

  -- with two pivots the least value is found, and the greatest isn't
  second_stops : spanned limits (None ∷ None ∷ []) (built ∷ []) built 2 ≡ IsStopped (Trial 2 (trials.Budget 2))
  unfolding spanned both_trials solved_end program_left run answer_of answer plan_steps carried_plan carrying_steps carried_multipliers gcd_of gcd_within lowest plus minus times divided order_of product_formed sum_formed difference_formed quotient_formed first_wide all_fit in_range
  second_stops = refl

  -- with none both trials stop, and the first is told
  first_stops : spanned limits (None ∷ None ∷ []) (built ∷ []) built 0 ≡ IsStopped (Trial 1 (trials.Budget 0))
  unfolding spanned both_trials solved_end program_left run answer_of answer plan_steps carried_plan carrying_steps carried_multipliers gcd_of gcd_within lowest plus minus times divided order_of product_formed sum_formed difference_formed quotient_formed first_wide all_fit in_range
  first_stops = refl

  -- ---- in a trial

  -- twice the total capacity is what is built, and the activity is at most the total: so twice the activity is at most what is built, and a multiplier of that is
  -- doubled
  abbrev rows : List Row
  rows = made_row v (named CAA2) senses.Equal ((built, negsuc 0) ∷ (total, pos 2) ∷ []) (pos 0) refl ∷ made_row v (named CAA4) senses.Most ((activity, pos 1) ∷ (total, negsuc 0) ∷ []) (pos 0) refl ∷ []

  -- with these values of the activity and of what is built, and this multiplier
  abbrev extreme : Goal → Rational → Rational → Rational → MethodEnd
  extreme goal x n lambda = optimal_end (One built goal) rows (Some total ∷ None ∷ []) (activity ∷ built ∷ total ∷ []) ((activity, x) ∷ (built, n) ∷ []) (lambda ∷ []) 5

  -- half of the least fraction doesn't fit, and neither does twice the greatest number: the plan is carried back first
  plan_first : extreme Least (whole (pos 0)) least (whole (neg_ℤ greatest)) ≡ IsWide (LiftPlan total)
  unfolding plan_steps carried_plan carrying_steps carried_multipliers gcd_of gcd_within lowest plus minus times divided order_of product_formed sum_formed difference_formed quotient_formed first_wide all_fit in_range
  plan_first = refl

  -- then the multipliers, before the plan is checked, in which the greatest number less a half is formed
  multipliers_next : extreme Least (whole greatest) (whole (pos 1)) (whole (neg_ℤ greatest)) ≡ IsWide (LiftMultiplier (named CAA4))
  unfolding plan_steps carried_plan carrying_steps carried_multipliers gcd_of gcd_within lowest plus minus times divided order_of product_formed sum_formed difference_formed quotient_formed first_wide all_fit in_range
  multipliers_next = refl

  -- half of the greatest number can be doubled. The plan is checked before the multipliers
  plan_checked_first : extreme Greatest (whole greatest) (whole (pos 1)) (pair (neg_ℤ greatest) (pos 2)) ≡ IsWide (Check (named CAA4))
  unfolding plan_steps carried_plan carrying_steps carried_multipliers gcd_of gcd_within lowest plus minus times divided order_of product_formed sum_formed difference_formed quotient_formed first_wide all_fit in_range
  plan_checked_first = refl

  -- where what is built counts -1, its column misses that by half of the greatest number and 1, which doesn't fit; where it counts 1, by 1 less than the half, which does
  multipliers_checked : extreme Greatest (whole (pos 0)) (whole (pos 1)) (pair (neg_ℤ greatest) (pos 2)) ≡ IsWide (Column built)
  unfolding plan_steps carried_plan carrying_steps carried_multipliers gcd_of gcd_within lowest plus minus times divided order_of product_formed sum_formed difference_formed quotient_formed first_wide all_fit in_range
  multipliers_checked = refl

  nothing_wide : extreme Least (whole (pos 0)) (whole (pos 1)) (pair (neg_ℤ greatest) (pos 2))
      ≡ HasOptimum ((activity, whole (pos 0)) ∷ (built, whole (pos 1)) ∷ (total, pair (pos 1) (pos 2)) ∷ []) ((named CAA2, pair (neg_ℤ greatest) (pos 2)) ∷ (named CAA4, whole (neg_ℤ greatest)) ∷ []) 5
  unfolding plan_steps carried_plan carrying_steps carried_multipliers gcd_of gcd_within lowest plus minus times divided order_of product_formed sum_formed difference_formed quotient_formed first_wide all_fit in_range
  nothing_wide = refl

  -- the plan before the direction, and both before the checks
  abbrev endless : Rational → Rational → Rational → MethodEnd
  endless x n d = unbounded_end (One built Greatest) rows (Some total ∷ None ∷ []) (activity ∷ built ∷ total ∷ []) ((activity, x) ∷ (built, n) ∷ []) ((activity, whole (pos 0)) ∷ (built, d) ∷ []) 5

  plan_before_direction : endless (whole (pos 0)) least least ≡ IsWide (LiftPlan total)
  unfolding plan_steps carried_plan direction_steps carried_direction gcd_of gcd_within lowest plus minus times divided order_of product_formed sum_formed difference_formed quotient_formed first_wide all_fit in_range
  plan_before_direction = refl

  direction_before_checks : endless (whole greatest) (whole (pos 1)) least ≡ IsWide (LiftDirection total)
  unfolding plan_steps carried_plan direction_steps carried_direction gcd_of gcd_within lowest plus minus times divided order_of product_formed sum_formed difference_formed quotient_formed first_wide all_fit in_range
  direction_before_checks = refl

  checks_last : endless (whole greatest) (whole (pos 1)) (whole (pos 1)) ≡ IsWide (Check (named CAA4))
  unfolding plan_steps carried_plan direction_steps carried_direction gcd_of gcd_within lowest plus minus times divided order_of product_formed sum_formed difference_formed quotient_formed first_wide all_fit in_range
  checks_last = refl
