-- Conflicts, trial by trial: which inequality each trial leaves out, and what its multipliers strike off the list.
use Rattle.conflict_sets.proofs.Common.{◌≡◌, ℕ, ℤ, pos, negsuc, List, [], ◌∷◌, refl, Vec, Option, Some, None, difference_formed, product_formed, quotient_formed, sum_formed, gcd_of, gcd_within, all_fit, in_range, divided, lowest, minus, order_of, plus, times, whole, first_wide, Row, RowName, Equal, Most, Var, CAA4, EBA11, TCC1, TDC2, NEW_CAPACITY, RATE_OF_ACTIVITY, TOTAL_DISCOUNTED_COST, answer, answer_of, run, made_row, carried_plan, plan_steps, Values, Least, Budget, Trial, HasPlan, trial_end, trial_program, tried_multipliers, tried_steps, IsConflicting, IsStopped, every, explained, walk}
use Rattle.simplex_core.specs.declared.stops.TrialStop.TheVariants as trials

-- the variable, and the row, of this number at the first members
abbrev of_kind : ℕ → Var
of_kind kind = record { kind = kind; index = record { region = 0; other = 0; slice = 0; tech = 0; fuel = 0; emission = 0; mode = 0; year = 0 } }

abbrev named : ℕ → RowName
named eq = record { eq = eq; index = (of_kind 0).index }

abbrev activity : Var
activity = of_kind RATE_OF_ACTIVITY

abbrev built : Var
built = of_kind NEW_CAPACITY

abbrev cost : Var
cost = of_kind TOTAL_DISCOUNTED_COST

abbrev vars : List Var
vars = activity ∷ built ∷ cost ∷ []

-- the third of four rows is that of the cost
abbrev defs : List (Option Var)
defs = None ∷ None ∷ Some cost ∷ None ∷ []

abbrev plan : ℕ → ℕ → ℕ → Values
plan x n c = (activity, whole (pos x)) ∷ (built, whole (pos n)) ∷ (cost, whole (pos c)) ∷ []

module _ (v : Vec (Var × ℤ)) where
  -- at most what is built, so much activity at least, at a cost of 2 for each unit and of 6 for what is built
  abbrev within_built : Row
  within_built = made_row v (named CAA4) Most ((activity, pos 1) ∷ (built, negsuc 0) ∷ []) (pos 0) refl

  abbrev costing : Row
  costing = made_row v (named TDC2) Equal ((activity, negsuc 1) ∷ (built, negsuc 5) ∷ (cost, pos 1) ∷ []) (pos 0) refl

  abbrev ten_wanted : Row
  ten_wanted = made_row v (named EBA11) Least ((activity, pos 1) ∷ []) (pos 10) refl

  abbrev four_wanted : Row
  four_wanted = made_row v (named EBA11) Least ((activity, pos 1) ∷ []) (pos 4) refl

  -- ---- three that are needed

  -- what is built is at most 9. Each of the three is needed: without the first nothing has to be built, without the second nothing is wanted, and without the third ten are built
  all_needed : explained (within_built ∷ ten_wanted ∷ costing ∷ made_row v (named TCC1) Most ((built, pos 1) ∷ []) (pos 9) refl ∷ []) defs vars 9
      ≡ IsConflicting ((named CAA4, whole (negsuc 0)) ∷ (named EBA11, whole (pos 1)) ∷ (named TCC1, whole (negsuc 0)) ∷ []) (plan 10 0 20 ∷ plan 0 0 0 ∷ plan 10 10 80 ∷ [])
  unfolding explained walk trial_end trial_program tried_multipliers tried_steps run answer_of answer plan_steps carried_plan gcd_of gcd_within lowest plus minus times divided order_of product_formed sum_formed difference_formed quotient_formed first_wide all_fit in_range
  all_needed = refl

  -- a third pivot is due in the first trial
  out_of_pivots : explained (within_built ∷ ten_wanted ∷ costing ∷ made_row v (named TCC1) Most ((built, pos 1) ∷ []) (pos 9) refl ∷ []) defs vars 2 ≡ IsStopped (Budget 2)
  unfolding explained walk trial_end trial_program tried_multipliers tried_steps run answer_of answer plan_steps carried_plan gcd_of gcd_within lowest plus minus times divided order_of product_formed sum_formed difference_formed quotient_formed first_wide all_fit in_range
  out_of_pivots = refl

  -- ---- some that aren't

  -- What is built is at most -1, which nothing meets. The first trial leaves out the first of the three, and needs the limit alone: that strikes the demand off the list, which isn't
  -- tried any more. The next leaves out the limit: nothing is on the list then, so its plan has nothing. With the limit left out first, its plan would have had 4.
  struck_together : explained (within_built ∷ four_wanted ∷ costing ∷ made_row v (named TCC1) Most ((built, pos 1) ∷ []) (negsuc 0) refl ∷ []) defs vars 9
      ≡ IsConflicting ((named TCC1, whole (negsuc 0)) ∷ []) (plan 0 0 0 ∷ [])
  unfolding explained walk trial_end trial_program tried_multipliers tried_steps run answer_of answer plan_steps carried_plan gcd_of gcd_within lowest plus minus times divided order_of product_formed sum_formed difference_formed quotient_formed first_wide all_fit in_range
  struck_together = refl

  -- The activity is at most -1. The first refutation doesn't use the first of the three; the first trial leaves out the demand, and strikes it
  struck_alone : explained (within_built ∷ four_wanted ∷ costing ∷ made_row v (named TCC1) Most ((activity, pos 1) ∷ []) (negsuc 0) refl ∷ []) defs vars 9
      ≡ IsConflicting ((named TCC1, whole (negsuc 0)) ∷ []) (plan 0 0 0 ∷ [])
  unfolding explained walk trial_end trial_program tried_multipliers tried_steps run answer_of answer plan_steps carried_plan gcd_of gcd_within lowest plus minus times divided order_of product_formed sum_formed difference_formed quotient_formed first_wide all_fit in_range
  struck_alone = refl

  -- ---- off the list

  -- a limit that isn't on the list any more is passed over: no pivot may be made, so that any trial with the demand would stop
  passed_over : walk (within_built ∷ ten_wanted ∷ costing ∷ made_row v (named TCC1) Most ((activity, pos 1) ∷ []) (pos 4) refl ∷ []) defs vars 0 2 (named TCC1 ∷ []) ((named EBA11, whole (pos 1)) ∷ []) ((named EBA11, plan 0 0 0) ∷ [])
      ≡ IsConflicting ((named EBA11, whole (pos 1)) ∷ []) (plan 0 0 0 ∷ [])
  unfolding walk
  passed_over = refl

  -- and while it is on the list, it is tried
  not_passed_over : walk (within_built ∷ ten_wanted ∷ costing ∷ made_row v (named TCC1) Most ((activity, pos 1) ∷ []) (pos 4) refl ∷ []) defs vars 0 2 (named TCC1 ∷ []) ((named EBA11, whole (pos 1)) ∷ (named TCC1, whole (negsuc 0)) ∷ []) ((named EBA11, plan 0 0 0) ∷ [])
      ≡ IsStopped (Trial 2 (trials.Budget 0))
  unfolding explained walk trial_end trial_program tried_multipliers tried_steps run answer_of answer plan_steps carried_plan gcd_of gcd_within lowest plus minus times divided order_of product_formed sum_formed difference_formed quotient_formed first_wide all_fit in_range
  not_passed_over = refl

  -- ---- the cost of a trial

  -- ten of the two together are wanted, at 2 and at 1: a trial costs nothing, so it ends with ten of the first, and not with ten of the cheaper
  no_cost : trial_end every (made_row v (named EBA11) Least ((activity, pos 1) ∷ (built, pos 1) ∷ []) (pos 10) refl ∷ made_row v (named TDC2) Equal ((activity, negsuc 1) ∷ (built, negsuc 0) ∷ (cost, pos 1) ∷ []) (pos 0) refl ∷ []) (None ∷ Some cost ∷ []) vars 9
      ≡ HasPlan (plan 10 0 20)
  unfolding trial_end trial_program tried_multipliers tried_steps run answer_of answer plan_steps carried_plan gcd_of gcd_within lowest plus minus times divided order_of product_formed sum_formed difference_formed quotient_formed first_wide all_fit in_range
  no_cost = refl
