-- Lines, texts and statuses, computed.
use Rattle.curve_command.proofs.Common.{◌≡◌, ◌*◌, ◌^◌, pos, negsuc, [], ◌∷◌, codes, map, refl, lowest, whole, no_members, Budget, Width, CostRow, HasLine, HasLineBelow, HasNoBound, HasNoPlan, IsStopped, curve_status, curve_text, limit_line}
use Rattle.exact_num.specs.Gcd.{gcd_of, gcd_within}
use Rattle.scaled_decimals.specs.PrintedFraction.{fraction_text}
use Rattle.scaled_decimals.specs.PrintedPlaces.{millionths, millionths_text}
use Rattle.std.specs.Fmt.{digits}
use Rattle.simplex_core.specs.declared.stops.Stop.TheVariants.{Trial}
use Rattle.command_answers.specs.declared.status.Status.TheVariants.{Done, Uncertified}

-- ---- lines

-- a limit that isn't whole is a fraction
lines : map (limit_line no_members)
    ((pos (4 * 10 ^ 9), HasLine (whole (pos 110)) (whole (negsuc 4)))
    ∷ (pos (5 * 10 ^ 8), HasNoPlan) ∷ (pos 0, HasNoBound)
    ∷ (pos (7 * 10 ^ 9), HasLineBelow (whole (pos 96)) (whole (pos 95)) (whole (negsuc 4)))
    ∷ (pos (10 ^ 9), IsStopped (Budget 3)) ∷ (pos (10 ^ 9), IsStopped (Width CostRow)) ∷ [])
    ≡ codes "limit 4 cost 110 110.000000 slope -5\n"
    ∷ codes "limit 1/2 infeasible\n" ∷ codes "limit 0 unbounded\n"
    ∷ codes "limit 7 cost 96 96.000000 bound 95 95.000000 slope -5\n"
    ∷ codes "limit 1 uncertified budget 3\n" ∷ codes "limit 1 uncertified width cost row\n" ∷ []
unfolding lowest gcd_of gcd_within fraction_text millionths_text millionths digits
lines = refl

two : curve_text no_members ((pos (10 ^ 9), HasNoPlan) ∷ (pos (2 * 10 ^ 9), HasNoBound) ∷ []) ≡ codes "limit 1 infeasible\nlimit 2 unbounded\nend\n"
unfolding lowest gcd_of gcd_within fraction_text digits
two = refl

-- ---- statuses

all_ended : curve_status ((pos 1, HasNoPlan) ∷ (pos 2, HasLine (whole (pos 1)) (whole (pos 0))) ∷ []) ≡ Done
all_ended = refl

-- the first that stopped is told, by its place from 1 on
second_stopped : curve_status ((pos 1, HasNoPlan) ∷ (pos 2, IsStopped (Budget 3)) ∷ (pos 3, IsStopped (Width CostRow)) ∷ []) ≡ Uncertified (Trial 2 (Budget 3))
second_stopped = refl

not_the_last : ¬ (curve_status ((pos 2, IsStopped (Budget 3)) ∷ (pos 3, IsStopped (Width CostRow)) ∷ []) ≡ Uncertified (Trial 2 (Width CostRow)))
not_the_last h = cc h
