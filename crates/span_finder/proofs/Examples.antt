-- The definitions, computed: on a model of two technologies T and U, of which 10 units of activity are wanted, whose best plan builds 10 of T and costs 80, with a limit of 88.
use Rattle.span_finder.proofs.Common.{◌≡◌, ℕ, ℤ, pos, negsuc, List, [], ◌∷◌, inl, inr, refl, Some, None, ◌==◌, if◌then◌else◌, arith, ints, gcd_of, gcd_within, lowest, minus, order_of, plus, times, whole, Var, NEW_CAPACITY, TOTAL_DISCOUNTED_COST, CostRow, Expand, gathered, written_entries, written_right, weight_of, One, Least, Greatest, SPAN, span_name, Values, HasNoBound, HasOptimum, IsPivotDue, IsWide, Budget, Trial, Width, CostsAtMost, cost_terms, LieWithin, measure_of, slack_limit}
use Rattle.row_core.specs.declared.place.Place.TheVariants.{Row}
use Rattle.certified_answers.specs.declared.answers.NoAnswer.TheVariants as answers
use Rattle.simplex_core.specs.declared.stops.TrialStop.TheVariants as trials
use Rattle.span_finder.specs.declared.found.SpanFail.TheVariants.{Memory, Stopped}
use Rattle.span_finder.specs.SpanEnds.{IsBounded, IsNothing, IsPlainStop, IsRising, IsStopped, IsTrialFail, StopsAt, end_seen, greatest_end, least_end, unless_stopped}

-- a variable of a kind, of this technology
abbrev of_kind : ℕ → ℕ → Var
of_kind kind tech = record { kind = kind; index = record { region = 0; other = 0; slice = 0; tech = tech; fuel = 0; emission = 0; mode = 0; year = 0 } }

abbrev built_t : Var
built_t = of_kind NEW_CAPACITY 0

abbrev built_u : Var
built_u = of_kind NEW_CAPACITY 1

abbrev total_cost : Var
total_cost = of_kind TOTAL_DISCOUNTED_COST 0

abbrev variables : List Var
variables = built_t ∷ built_u ∷ total_cost ∷ []

-- ---- the row that limits the cost

-- it has no number of a named equation
beyond : SPAN ≡ 65
beyond = refl

-- a limit of 88: the cost is at most 88; and of 177/2: twice the cost is at most 177
entries_whole : written_entries (gathered (cost_terms variables)) (whole (pos 88)) ≡ (total_cost, pos 1) ∷ []
unfolding lowest gcd_of gcd_within
entries_whole = refl

right_whole : written_right (gathered (cost_terms variables)) (whole (pos 88)) ≡ pos 88
unfolding lowest gcd_of gcd_within
right_whole = refl

entries_half : written_entries (gathered (cost_terms variables)) (lowest (pos 177) (pos 2)) ≡ (total_cost, pos 2) ∷ []
unfolding lowest gcd_of gcd_within
entries_half = refl

right_half : written_right (gathered (cost_terms variables)) (lowest (pos 177) (pos 2)) ≡ pos 177
unfolding lowest gcd_of gcd_within
right_half = refl

-- a plan that costs exactly the limit is within it, and one that costs a half more isn't
abbrev costing : ℤ → Var → ℤ
costing n v = if v.kind == TOTAL_DISCOUNTED_COST then n else pos 0

within : CostsAtMost variables (whole (pos 88)) 2 (costing (pos 176))
within = omega (arith, ints)

beyond_limit : ¬ (CostsAtMost variables (whole (pos 88)) 2 (costing (pos 177)))
beyond_limit h = absurd (omega (arith, ints, h))

-- ---- the limit that a slack leaves

-- a tenth more than 80; above a cost below 0 too; and no slack
tenth_more : slack_limit (whole (pos 80)) 100000 ≡ whole (pos 88)
unfolding plus times lowest gcd_of gcd_within
tenth_more = refl

-- above -80 by a tenth of 80 is -72
above_negative : slack_limit (whole (negsuc 79)) 100000 ≡ whole (negsuc 71)
unfolding plus times lowest gcd_of gcd_within
above_negative = refl

no_slack : slack_limit (whole (pos 80)) 0 ≡ whole (pos 80)
unfolding plus times lowest gcd_of gcd_within
no_slack = refl

-- ---- costs of trials

least_counts : weight_of (One built_t Least) built_t ≡ pos 1
least_counts = refl

greatest_counts : weight_of (One built_t Greatest) built_t ≡ negsuc 0
greatest_counts = refl

others_cost_nothing : weight_of (One built_t Least) built_u ≡ pos 0
others_cost_nothing = refl

-- ---- ends

abbrev plan_of : ℤ → Values
plan_of n = (built_t, whole n) ∷ []

-- both trials end: the first with the least value, the second with the greatest, and not the other way round
bounded : least_end 9 (λ low. greatest_end 9 low (HasOptimum (plan_of (pos 11)) [] 2)) (HasOptimum (plan_of (pos 8)) [] 3) ≡ IsBounded (plan_of (pos 8)) (plan_of (pos 11))
bounded = refl

rising : greatest_end 9 (plan_of (pos 8)) (HasNoBound (plan_of (pos 10)) (plan_of (pos 1)) 2) ≡ IsRising (plan_of (pos 8)) (plan_of (pos 10)) (plan_of (pos 1))
rising = refl

-- there is no greatest value only where the second trial has no end, and not where it stops
stopped_is_no_rise : greatest_end 9 (plan_of (pos 8)) IsPivotDue ≡ IsStopped (Trial 2 (trials.Budget 9))
stopped_is_no_rise = refl

first_stops : least_end 9 (λ low. IsNothing) (IsWide CostRow) ≡ IsStopped (Trial 1 (trials.Width CostRow))
first_stops = refl

-- a number of the elimination that doesn't fit is told without a trial
plain_stop : unless_stopped (Some CostRow) IsNothing ≡ IsStopped (Width CostRow)
plain_stop = refl

-- a plan with a direction is seen as one that rises, and one without as bounded
seen_bounded : end_seen (plan_of (pos 8)) (plan_of (pos 11)) None ≡ IsBounded (plan_of (pos 8)) (plan_of (pos 11))
seen_bounded = refl

-- ---- stops

second_out_of_pivots : IsTrialFail 2 9 answers.Budget (Stopped (Trial 2 (trials.Budget 9)))
second_out_of_pivots = refl

-- a trial that stops with nothing is no failure, out of memory neither
never_nothing : ¬ (IsTrialFail 2 9 answers.Nothing Memory)
never_nothing h = h

told : StopsAt (IsStopped (Trial 2 (trials.Budget 9))) (Stopped (Trial 2 (trials.Budget 9)))
told = refl

-- a stop outside the trials is of the limit's row, or of its expansion, and no other
of_the_row : IsPlainStop (Stopped (Width (Row span_name)))
of_the_row = inl refl

of_its_expansion : IsPlainStop (Stopped (Width (Expand span_name)))
of_its_expansion = inr refl

of_no_other : ¬ (IsPlainStop (Stopped (Width CostRow)))
of_no_other h = elim h [ inl e ↦ cc e | inr e ↦ cc e ]

no_budget : ¬ (IsPlainStop (Stopped (Budget 9)))
no_budget h = h

not_told : ¬ (StopsAt (IsStopped (Trial 2 (trials.Budget 9))) (Stopped (Trial 1 (trials.Budget 9))))
not_told h = cc h

-- ---- ends that are near

-- the measure of an end below 1 is 1, and that of one below -1 is its absolute value
measure_of_half : measure_of (lowest (pos 1) (pos 2)) ≡ whole (pos 1)
unfolding lowest gcd_of gcd_within order_of
measure_of_half = refl

measure_of_negative : measure_of (whole (negsuc 2)) ≡ whole (pos 3)
unfolding order_of
measure_of_negative = refl

-- a tenth above 8 is 4/5 above it, and no more
tenth_above : LieWithin 100000 (lowest (pos 44) (pos 5)) (whole (pos 8)) (whole (pos 8))
unfolding minus times lowest gcd_of gcd_within order_of
tenth_above = refl

more_than_a_tenth : ¬ (LieWithin 100000 (lowest (pos 89) (pos 10)) (whole (pos 8)) (whole (pos 8)))
unfolding minus times lowest gcd_of gcd_within order_of
more_than_a_tenth h = cc h

-- below an end it is measured by the end too: a tenth of 10, not of 9
tenth_below : LieWithin 100000 (whole (pos 10)) (whole (pos 9)) (whole (pos 10))
unfolding minus times lowest gcd_of gcd_within order_of
tenth_below = refl

measured_by_the_end : ¬ (LieWithin 100000 (whole (pos 10)) (whole (pos 9)) (whole (pos 9)))
unfolding minus times lowest gcd_of gcd_within order_of
measured_by_the_end h = cc h

-- beside 0 it is a tenth of 1
beside_zero : LieWithin 100000 (lowest (pos 1) (pos 10)) (whole (pos 0)) (whole (pos 0))
unfolding minus times lowest gcd_of gcd_within order_of
beside_zero = refl

too_far_from_zero : ¬ (LieWithin 100000 (lowest (pos 1) (pos 5)) (whole (pos 0)) (whole (pos 0)))
unfolding minus times lowest gcd_of gcd_within order_of
too_far_from_zero h = cc h

-- above -8 by a tenth of 8
above_minus_eight : LieWithin 100000 (lowest (negsuc 35) (pos 5)) (whole (negsuc 7)) (whole (negsuc 7))
unfolding minus times lowest gcd_of gcd_within order_of
above_minus_eight = refl

-- with no millionths they are equal
same_end : LieWithin 0 (whole (pos 8)) (whole (pos 8)) (whole (pos 8))
unfolding minus times lowest gcd_of gcd_within order_of
same_end = refl

hardly_above : ¬ (LieWithin 0 (lowest (pos 8000001) (pos 1000000)) (whole (pos 8)) (whole (pos 8)))
unfolding minus times lowest gcd_of gcd_within order_of
hardly_above h = cc h
