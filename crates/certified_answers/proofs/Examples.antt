-- The definitions, computed: each with a near miss.
use Rattle.certified_answers.proofs.Common.{◌≡◌, ◌∙◌, ◌^◌, ℕ, pos, negsuc, true, false, List, [], ◌∷◌, refl, ap, inl, arith, Some, None, Rational, pair, whole, RowName, Var, Condition, formed_at, is_model, weight_of, IsClosed, IsNear, plan_cost}
use Rattle.std.proofs.lemmas.Int.{ints}
use Rattle.exact_num.specs.Range.{all_fit, in_range}
use Rattle.exact_num.specs.Steps.{first_wide}
use Rattle.row_core.specs.declared.Row.{Row}
use Rattle.row_core.specs.declared.place.Place.TheVariants.{CostRow, SumGap}
use Rattle.row_core.specs.declared.place.Stopped.TheVariants as parts
use Rattle.row_core.specs.declared.kind_numbers.TheConstants.{NEW_CAPACITY, RATE_OF_ACTIVITY, TOTAL_DISCOUNTED_COST}
use Rattle.row_core.proofs.Members.{Contains-from_Has, Has-from_Contains}
use Rattle.certificate_checker.specs.Reasons.{Reason}
use Rattle.certified_answers.specs.Answers.{AreNamedIn, IsComplete, IsMadeWithin, IsOptimumFor, IsProvedWithin, turned}
use Rattle.certified_answers.specs.Refusals.{IsRefused, IsWidthAt, passes, stop_of}
use Rattle.certified_answers.specs.declared.answers.Certified.TheVariants.{Infeasible, Unbounded}
use Rattle.certified_answers.specs.declared.answers.NoAnswer.TheVariants.{Nothing, Budget, Width}
use Rattle.certified_answers.specs.declared.costs.Cost.TheVariants.{Model, One}
use Rattle.certified_answers.specs.declared.costs.Goal.TheVariants.{Least, Greatest}

-- the variable, and the row, of this number at the first members
abbrev of_kind : ℕ → Var
of_kind kind = record { kind = kind; index = record { region = 0; other = 0; slice = 0; tech = 0; fuel = 0; emission = 0; mode = 0; year = 0 } }

abbrev named : ℕ → RowName
named eq = record { eq = eq; index = (of_kind 0).index }

-- ---- costs

least_weight : weight_of (One (of_kind NEW_CAPACITY) Least) (of_kind NEW_CAPACITY) ≡ pos 1
least_weight = refl

greatest_weight : weight_of (One (of_kind NEW_CAPACITY) Greatest) (of_kind NEW_CAPACITY) ≡ negsuc 0
greatest_weight = refl

other_weight : weight_of (One (of_kind NEW_CAPACITY) Greatest) (of_kind RATE_OF_ACTIVITY) ≡ pos 0
other_weight = refl

model_weight : weight_of Model (of_kind TOTAL_DISCOUNTED_COST) ≡ pos 1
model_weight = refl

not_model : is_model (One (of_kind TOTAL_DISCOUNTED_COST) Least) ≡ false
not_model = refl

-- ---- refusals

at_its_place : IsWidthAt (Some CostRow) (Width CostRow)
at_its_place = refl

not_elsewhere : ¬ (IsWidthAt (Some CostRow) (Width SumGap))
not_elsewhere h = cc h

not_without_cause : ¬ (IsWidthAt None (Width SumGap))
not_without_cause h = cc h

no_budget : ¬ (IsWidthAt None Budget)
no_budget h = h

memory_without_cause : IsWidthAt None (stop_of parts.Memory)
memory_without_cause = tt

-- a condition that doesn't hold, and forms no number
abbrev failing : Reason → Condition
failing reason = record { seen = []; holds = false; reason = reason; amount = [] }

nothing_asked : passes [] ≡ true
unfolding first_wide
nothing_asked = refl

one_fails : (reason : Reason) → IsRefused (failing reason ∷ []) Nothing
unfolding first_wide
one_fails reason = refl

none_fails : ¬ (IsRefused [] Nothing)
unfolding first_wide
none_fails h = cc h

-- a condition that forms a number that doesn't fit is refused at its place, and at no other
abbrev too_wide : Reason → Condition
too_wide reason = record { seen = formed_at CostRow (pos (2 ^ 127) ∷ []); holds = true; reason = reason; amount = [] }

refused_there : (reason : Reason) → IsRefused (too_wide reason ∷ []) (Width CostRow)
unfolding first_wide all_fit in_range
refused_there reason = refl

not_refused_elsewhere : (reason : Reason) → ¬ (IsRefused (too_wide reason ∷ []) (Width SumGap))
unfolding first_wide all_fit in_range
not_refused_elsewhere reason h = cc h

-- nor is what holds and fits refused at a place, or what fails without a number
not_too_wide : (reason : Reason) → ¬ (IsRefused (failing reason ∷ []) (Width CostRow))
unfolding first_wide
not_too_wide reason h = cc h

-- ---- answers

turned_half : turned Greatest (pair (pos 1) (pos 2)) ≡ pair (negsuc 0) (pos 2)
turned_half = refl

-- the bound of the greatest value is the value turned, and not the value
not_turned : (rows : List Row) (vars : List Var) (amount : Rational) → ¬ (IsOptimumFor (One (of_kind NEW_CAPACITY) Greatest) rows vars ((of_kind NEW_CAPACITY, whole (pos 1)) ∷ []) [] amount (whole (pos 1)))
not_turned rows vars amount h = let top : pos 1 ≡ negsuc 0 = ap (λ (r : Rational). r.top) h.2 in cc top

-- 3 isn't within a millionth of 2, and neither 2 nor -2 is closed to 3
not_near : ¬ (IsNear (whole (pos 3)) (whole (pos 2)) 1)
not_near h = omega (arith, ints, h.within)

not_closed : ¬ (IsClosed (whole (pos 3)) (whole (pos 2)))
not_closed h = let top : pos 3 ≡ pos 2 = ap (λ (r : Rational). r.top) h.same in cc top

-- of one variable too the cost is the plan's
not_its_cost : (vars : List Var) (plan : List (Var × Rational)) (amount bound : Rational) → plan_cost vars plan ≡ whole (pos 1) → ¬ (IsOptimumFor (One (of_kind NEW_CAPACITY) Least) [] vars plan [] (whole (pos 2)) bound)
not_its_cost vars plan amount bound is h = let top : pos 2 ≡ pos 1 = ap (λ (r : Rational). r.top) (h.0.cost_is ∙ is) in cc top

-- a guess has no direction
no_direction : (rows : List Row) (vars : List Var) (ppm : ℕ) → ¬ (IsProvedWithin rows vars ppm (Unbounded [] [] 0))
no_direction rows vars ppm h = h

three_made : IsMadeWithin 3 (Infeasible [] 3)
three_made = omega arith

four_made : ¬ (IsMadeWithin 3 (Infeasible [] 4))
four_made h = omega (arith, h)

-- a value is missing
not_complete : ¬ (IsComplete (of_kind NEW_CAPACITY ∷ []) (Unbounded ((of_kind NEW_CAPACITY, whole (pos 1)) ∷ []) [] 0))
not_complete h = cc h.1

no_names : (rows : List Row) → AreNamedIn rows []
no_names rows = record { ascending = refl; among = λ name h. absurd (Has-from_Contains [] name h) }

-- no row has the name
not_named : ¬ (AreNamedIn [] ((named 1, whole (pos 1)) ∷ []))
not_named h = Has-from_Contains [] (named 1) (h.among (named 1) (Contains-from_Has (named 1 ∷ []) (named 1) (inl refl)))

-- the names don't ascend
not_ascending : (rows : List Row) → ¬ (AreNamedIn rows ((named 2, whole (pos 1)) ∷ (named 1, whole (pos 1)) ∷ []))
not_ascending rows h = cc h.ascending
