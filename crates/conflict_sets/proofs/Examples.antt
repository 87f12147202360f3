-- The definitions, computed: the list that multipliers make, what is left of it, and its ends.
use Rattle.conflict_sets.proofs.Common.{◌≡◌, ◌≤◌, ℕ, pos, negsuc, Bool, true, false, List, [], ◌∷◌, refl, arith, subst, ◌<ℤ◌, Option, ints, whole, Frac, Row, RowName, Var, row_name_cmp, AreOverSome, CAA3, CAA4, EBA11, TCC1, CostRow, Values, Multipliers, Budget, Trial, AreRefuted, is_member, is_other_member, is_outside, HasPlan, IsPivotDue, IsWide, StopsTrial, IsConflicting, IsFirstFail, IsStopped, IsTrialFail, Stops, every, found, is_listed, is_other}
use Rattle.simplex_core.specs.declared.stops.TrialStop.TheVariants as trials
use Rattle.certified_answers.specs.declared.answers.NoAnswer.TheVariants as stops
use Rattle.conflict_sets.specs.declared.conflict.ExplainFail.TheVariants.{Memory, Stopped}
use Rattle.conflict_sets.specs.RoundedStops.{EndsSo, IsStopOfSome}

-- the row of this equation; all subscripts are 0
abbrev named : ℕ → RowName
named eq = record { eq = eq; index = record { region = 0; other = 0; slice = 0; tech = 0; fuel = 0; emission = 0; mode = 0; year = 0 } }

-- an activity of at least 10 that is at most a capacity that is at most 4: the multipliers that refute this, a definition's and one of 0 among them
abbrev refuting : Multipliers
refuting = (named CAA3, whole (pos 1)) ∷ (named CAA4, whole (negsuc 0)) ∷ (named EBA11, whole (pos 1)) ∷ (named TCC1, whole (negsuc 0)) ∷ (named 48, whole (pos 0)) ∷ []

-- ---- the list

capacity_listed : is_listed refuting (named CAA4) ≡ true
capacity_listed = refl

-- a multiplier of 0, and a row without one, are none
zero_not_listed : is_listed refuting (named 48) ≡ false
zero_not_listed = refl

missing_not_listed : is_listed refuting (named 51) ≡ false
missing_not_listed = refl

-- what is left out isn't one of the others, and all else on the list is
left_out : is_other refuting (named CAA4) (named CAA4) ≡ false
left_out = refl

other_stays : is_other refuting (named CAA4) (named TCC1) ≡ true
other_stays = refl

-- what isn't on the list is no other of it
never_there : is_other refuting (named CAA4) (named 48) ≡ false
never_there = refl

-- what stands from one name to another is left out at once, and what comes before it or after it isn't
abbrev middle : RowName → RowName → RowName → Bool
middle first last name = is_outside first last name

first_is_within : middle (named CAA4) (named EBA11) (named CAA4) ≡ false
first_is_within = refl

between_is_within : middle (named CAA3) (named EBA11) (named CAA4) ≡ false
between_is_within = refl

last_is_within : middle (named CAA4) (named EBA11) (named EBA11) ≡ false
last_is_within = refl

before_is_outside : middle (named CAA4) (named EBA11) (named CAA3) ≡ true
before_is_outside = refl

after_is_outside : middle (named CAA4) (named EBA11) (named TCC1) ≡ true
after_is_outside = refl

-- the first trial has what no list has
first_has_all : every (named 51) ≡ true
first_has_all = refl

-- ---- members

abbrev members : List RowName
members = named CAA4 ∷ named EBA11 ∷ named TCC1 ∷ []

is_one : is_member members (named EBA11) ≡ true
is_one = refl

definition_is_none : is_member members (named CAA3) ≡ false
definition_is_none = refl

itself_is_no_other : is_other_member members (named EBA11) (named EBA11) ≡ false
itself_is_no_other = refl

another_is : is_other_member members (named EBA11) (named TCC1) ≡ true
another_is = refl

-- ---- what is found

-- two were needed, and one of these is off the list by now: the other is a member, with its own multiplier and its own plan
abbrev plan_of : ℕ → Values
plan_of n = (record { kind = 1; index = record { region = 0; other = 0; slice = 0; tech = 0; fuel = 0; emission = 0; mode = 0; year = 0 } }, whole (pos n)) ∷ []

one_left : found refuting ((named CAA4, plan_of 10) ∷ (named 48, plan_of 4) ∷ []) ≡ IsConflicting ((named CAA4, whole (negsuc 0)) ∷ []) (plan_of 10 ∷ [])
one_left = refl

-- ---- stops

-- of the first trial, and of a later one
first_out_of_pivots : IsFirstFail 7 stops.Budget (Stopped (Budget 7))
first_out_of_pivots = refl

later_out_of_pivots : IsTrialFail 2 7 stops.Budget (Stopped (Trial 2 (trials.Budget 7)))
later_out_of_pivots = refl

-- that nothing was found is no reason, out of memory neither
nothing_is_no_fail : ¬ (IsTrialFail 2 7 stops.Nothing Memory)
nothing_is_no_fail h = h

-- a stop is told as it is, and not as another
told : Stops (IsStopped (Trial 2 (trials.Width CostRow))) (Stopped (Trial 2 (trials.Width CostRow)))
told = refl

not_told : ¬ (Stops (IsStopped (Trial 2 (trials.Width CostRow))) (Stopped (Trial 1 (trials.Width CostRow))))
not_told h = cc h

-- no trial ends with nothing
never_nothing : ¬ (StopsTrial IsPivotDue stops.Nothing)
never_nothing h = h

-- a plan stops nothing
no_stop : ¬ (StopsTrial (HasPlan []) stops.Budget)
no_stop h = cc h

wide_is_no_budget : ¬ (StopsTrial (IsWide CostRow) stops.Budget)
wide_is_no_budget h = cc h

-- by guesses first: the exact trial's own stop, and no other
own_stop : EndsSo IsPivotDue 7 (trials.Budget 7)
own_stop = (refl, refl)

no_other_budget : ¬ (EndsSo IsPivotDue 7 (trials.Budget 8))
no_other_budget h = let e : 8 ≡ 7 = h.1 in omega arith

plan_is_no_stop : ¬ (EndsSo (HasPlan []) 7 (trials.Width CostRow))
plan_is_no_stop h = cc h

-- later trials are counted from 1
none_is_numbered_0 : (rows : List Row) (defs : List (Option Var)) (vars : List Var) → ¬ (IsStopOfSome rows defs vars 7 (Trial 0 (trials.Budget 7)))
none_is_numbered_0 rows defs vars h = let at_least_1 : 1 ≤ 0 = h.0 in omega arith

-- ---- what refutes

-- a multiplier with the denominator 0 beside those of the members, as a list of which nothing could be said
abbrev without_denominator : Multipliers
without_denominator = (named CAA3, record { top = pos 1; bottom = pos 0 }) ∷ (named CAA4, whole (negsuc 0)) ∷ []

-- it is no number over any denominator, so such a list refutes nothing
no_denominator : ¬ (AreOverSome row_name_cmp without_denominator)
no_denominator some = let positive : pos 0 <ℤ pos 0 = (some.each (named CAA3)).positive in omega (arith, ints, positive)

no_denominator_refutes : (rows : List Row) (vars : List Var) (members : List (RowName × Frac)) (refuted : AreRefuted rows vars members) → ¬ (refuted.multipliers ≡ without_denominator)
no_denominator_refutes rows vars members refuted is = no_denominator (subst (AreOverSome row_name_cmp) is refuted.some)
