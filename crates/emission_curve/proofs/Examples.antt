-- The definitions, computed: one technology that emits a unit for each unit it makes, at 8, another that emits nothing, at 13, and a demand of 10. So the least cost is
-- 130 - 5 x at a limit x of at most 10, and 80 above: 110 at 4, 95 at 7, 80 at 20.
use Rattle.row_problem.proofs.Common.{◌≡◌, ℕ, ℤ, pos, negsuc, ◌+ℤ◌, ◌*ℤ◌, Bool, true, false, List, [], ◌∷◌, refl, ap₂, arith, int_le, gcd_of, gcd_within, Rational, lowest, times, whole, Row, RowName, Var, E9, ANNUAL_EMISSIONS, MODEL_PERIOD_EMISSIONS, CostRow, number_at}
use Rattle.simplex_core.specs.declared.stops.TrialStop.TheVariants.{Budget, Width}
use Rattle.exact_solver.specs.MethodEnds as method
use Rattle.emission_curve.specs.Ends.{HasLine, HasLineBelow, HasNoBound, HasNoPlan, IsStopped, ended}
use Rattle.emission_curve.specs.Points.{EndIsRounded}
use Rattle.emission_curve.specs.Slopes.{emissions_entry, emissions_of, entry_at, slope_at}

-- ---- the limit's row

-- of the first region and emission
abbrev named : ℕ → RowName
named eq = record { eq = eq; index = record { region = 0; other = 0; slice = 0; tech = 0; fuel = 0; emission = 0; mode = 0; year = 0 } }

abbrev limit : RowName
limit = named E9

-- the variable of a kind that has its subscripts
abbrev at_first : ℕ → Var
at_first kind = record { kind = kind; index = limit.index }

-- 10^9 times the emissions are at most 2.5 * 10^9: 2 times them are at most 5
twice : (row : Row) → row.name ≡ limit → row.entries.items ≡ (at_first MODEL_PERIOD_EMISSIONS, pos 2) ∷ [] → emissions_entry row ≡ pos 2
twice row name entries = ap₂ (λ (es : List (Var × ℤ)) (n : RowName). number_at es (emissions_of n)) entries name

-- a row that says nothing of them has 0 there
other_emissions : (row : Row) → row.name ≡ limit → row.entries.items ≡ (at_first ANNUAL_EMISSIONS, pos 2) ∷ [] → emissions_entry row ≡ pos 0
other_emissions row name entries = ap₂ (λ (es : List (Var × ℤ)) (n : RowName). number_at es (emissions_of n)) entries name

-- where no row has the name there is no entry, and the slope is 0
no_row : entry_at [] limit ≡ pos 0
no_row = refl

no_slope : slope_at [] ((limit, whole (negsuc 4)) ∷ []) limit ≡ whole (pos 0)
unfolding times lowest gcd_of gcd_within
no_slope = refl

-- the slope is the multiplier times the entry, and not the multiplier
multiplied : times (record { top = negsuc 4; bottom = pos 2 }) (whole (pos 2)) ≡ whole (negsuc 4)
unfolding times lowest gcd_of gcd_within
multiplied = refl

-- ---- ends

budget : ended [] [] limit 7 method.IsPivotDue ≡ IsStopped (Budget 7)
budget = refl

wide : ended [] [] limit 7 (method.IsWide CostRow) ≡ IsStopped (Width CostRow)
wide = refl

no_plan : ended [] [] limit 7 (method.HasNoPlan [] 3) ≡ HasNoPlan
no_plan = refl

no_bound : ended [] [] limit 7 (method.HasNoBound [] [] 3) ≡ HasNoBound
no_bound = refl

-- an end isn't a line, and a line by the exact method isn't one below a cost
not_a_line : ¬ (ended [] [] limit 7 (method.HasNoPlan [] 3) ≡ HasLine (whole (pos 0)) (whole (pos 0)))
not_a_line h = cc h

not_below : ¬ (HasLine (whole (pos 110)) (whole (negsuc 4)) ≡ HasLineBelow (whole (pos 110)) (whole (pos 110)) (whole (negsuc 4)))
not_below h = cc h

-- ---- lines

-- IsAtLeast as a test
abbrev is_at_least : Rational → Rational → ℤ → ℕ → ℕ → ℤ → Bool
is_at_least bound slope a b q c =
    int_le ((bound.top *ℤ slope.bottom *ℤ pos b +ℤ slope.top *ℤ a *ℤ bound.bottom) *ℤ pos q) (bound.bottom *ℤ slope.bottom *ℤ pos b *ℤ c)

-- from the cost of 110 at 4, with the slope of -5: at 7, at 20, and below, at 2
at_seven : is_at_least (whole (pos 110)) (whole (negsuc 4)) (pos 3) 1 1 (pos 95) ≡ true
at_seven = refl

at_twenty : is_at_least (whole (pos 110)) (whole (negsuc 4)) (pos 16) 1 1 (pos 80) ≡ true
at_twenty = refl

at_two : is_at_least (whole (pos 110)) (whole (negsuc 4)) (negsuc 1) 1 1 (pos 120) ≡ true
at_two = refl

-- at 7 1/2, for a plan over 2
at_a_half : is_at_least (whole (pos 110)) (whole (negsuc 4)) (pos 7) 2 2 (pos 185) ≡ true
at_a_half = refl

-- a slope of 0 promises too much at 20, one of -4 at 7, and one of -6 at 2
no_slope_at_twenty : is_at_least (whole (pos 110)) (whole (pos 0)) (pos 16) 1 1 (pos 80) ≡ false
no_slope_at_twenty = refl

flatter_at_seven : is_at_least (whole (pos 110)) (whole (negsuc 3)) (pos 3) 1 1 (pos 95) ≡ false
flatter_at_seven = refl

steeper_at_two : is_at_least (whole (pos 110)) (whole (negsuc 5)) (negsuc 1) 1 1 (pos 120) ≡ false
steeper_at_two = refl

-- a bound of 111 with the right slope does too, even where it is
bound_above : is_at_least (whole (pos 111)) (whole (negsuc 4)) (pos 0) 1 1 (pos 110) ≡ false
bound_above = refl

-- ---- lowest terms

-- a cost of 110 is no cost of 220/2, by the rounded method either
not_lowest : ¬ (EndIsRounded 10 (HasLineBelow (record { top = pos 220; bottom = pos 2 }) (whole (pos 110)) (whole (negsuc 4))))
unfolding gcd_of gcd_within
not_lowest h = let coprime : 2 ≡ 1 = h.1.coprime in omega (arith, coprime)

-- nor is a slope of -10/2
slope_not_lowest : ¬ (EndIsRounded 10 (HasLineBelow (whole (pos 110)) (whole (pos 110)) (record { top = negsuc 9; bottom = pos 2 })))
unfolding gcd_of gcd_within
slope_not_lowest h = let coprime : 2 ≡ 1 = h.3.coprime in omega (arith, coprime)
