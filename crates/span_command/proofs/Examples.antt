-- Texts and lines, computed.
use Rattle.span_command.proofs.Common.{◌≡◌, ℕ, List, pos, negsuc, [], ◌∷◌, codes, refl, arith, ◌<ℤ◌, false, Rational, lowest, pair, whole, Data, no_members, Place, Trial, Width, span_name, Var, IsNearHighEnd, IsNearLowEnd, built, bounded_text, gaps_of, head_text, limited_line, limited_place, rising_text, rounded_text}
use Rattle.std.proofs.lemmas.Int.{ints}
use Rattle.std.specs.Prelude.{None, Some, map}
use Rattle.exact_num.specs.Gcd.{gcd_of, gcd_within}
use Rattle.scaled_decimals.specs.PrintedFraction.{fraction_text}
use Rattle.scaled_decimals.specs.PrintedPlaces.{millionths, millionths_text}
use Rattle.std.specs.Fmt.{digits}
use Rattle.std.specs.Str.{bytes_eq}
use Rattle.simplex_core.specs.declared.stops.TrialStop.TheVariants as trials

-- ---- texts

-- a least cost of 80, a tenth of it more, and a least value of 42/5
head : head_text (whole (pos 80)) (whole (pos 88)) (lowest (pos 42) (pos 5)) ≡ codes "status solved\ncost 80 80.000000\nlimit 88 88.000000\nlow 42/5 8.400000\n"
unfolding lowest gcd_of gcd_within fraction_text millionths_text millionths digits
head = refl

bounded : bounded_text no_members (whole (pos 80)) (whole (pos 88)) (built 0 0 0) [] [] ≡ codes "status solved\ncost 80 80.000000\nlimit 88 88.000000\nlow 0 0.000000\nhigh 0 0.000000\ntable Low\ntable High\nend\n"
unfolding lowest gcd_of gcd_within fraction_text millionths_text millionths digits
bounded = refl

rising : rising_text no_members (whole (pos 20)) (whole (pos 20)) (built 0 0 0) [] [] [] ≡ codes "status solved\ncost 20 20.000000\nlimit 20 20.000000\nlow 0 0.000000\nhigh none\ntable Low\ntable High\ntable Direction\nend\n"
unfolding lowest gcd_of gcd_within fraction_text millionths_text millionths digits
rising = refl

-- ---- stops

its_row : limited_line no_members (Width (Place.Row span_name)) ≡ codes "uncertified width row SPAN[]\n"
its_row = refl

its_check : limited_line no_members (Trial 2 (trials.Width (Place.Check span_name))) ≡ codes "uncertified trial 2 width check SPAN[]\n"
unfolding digits
its_check = refl

its_budget : limited_line no_members (Trial 1 (trials.Budget 3)) ≡ codes "uncertified trial 1 budget 3\n"
unfolding digits
its_budget = refl

a_place_of_no_row : limited_place no_members (Place.Pivot 2) ≡ codes "pivot 2"
unfolding digits
a_place_of_no_row = refl

not_another_trial : bytes_eq (limited_line no_members (Trial 1 (trials.Budget 3))) (codes "uncertified trial 2 budget 3\n") ≡ false
unfolding digits
not_another_trial = refl

-- ---- by the rounded method

-- a cost a little above a bound of 80, by a gap of a thousandth, a limit above the bound, and ends that are multiples of a tenth
nearly : rounded_text no_members (lowest (pos 801) (pos 10)) (whole (pos 80)) 1000 (whole (pos 88)) (lowest (pos 42) (pos 5)) (lowest (pos 34) (pos 3)) [] []
    ≡ codes "status solved\ncost 801/10 80.100000\nbound 80 80.000000\ngap 1000\nlimit 88 88.000000\nlow 42/5 8.400000\nhigh 34/3 11.333333\ntable Low\ntable High\nend\n"
unfolding lowest gcd_of gcd_within fraction_text millionths_text millionths digits
nearly = refl

-- the bound and the gap aren't left out
not_without_bound : bytes_eq (rounded_text no_members (whole (pos 80)) (whole (pos 80)) 10 (whole (pos 88)) (whole (pos 8)) (whole (pos 11)) [] [])
    (codes "status solved\ncost 80 80.000000\nlimit 88 88.000000\nlow 8 8.000000\nhigh 11 11.000000\ntable Low\ntable High\nend\n") ≡ false
unfolding lowest gcd_of gcd_within fraction_text millionths_text millionths digits
not_without_bound = refl

-- ---- gaps that are tried

-- the one that is given, else a hundred-thousandth, a ten-thousandth and a thousandth
gaps_tried : map gaps_of (Some 7 ∷ None ∷ []) ≡ (7 ∷ []) ∷ (10 ∷ 100 ∷ 1000 ∷ []) ∷ []
gaps_tried = refl

-- ---- ends by the rounded method

-- an end is no number with a denominator below 0, which would turn the sense of what it says of plans
no_turned_end : (places : ℕ) (d : Data) (limit : Rational) (var : Var) (ppm : ℕ) (plan : List (Var × Rational)) → ¬ (IsNearHighEnd places d limit var ppm plan (pair (pos 7) (negsuc 0)))
no_turned_end places d limit var ppm plan is = let below : pos 0 <ℤ negsuc 0 = is.lowest.positive in omega (arith, ints, below)

no_turned_low_end : (places : ℕ) (d : Data) (limit : Rational) (var : Var) (ppm : ℕ) (plan : List (Var × Rational)) → ¬ (IsNearLowEnd places d limit var ppm plan (pair (negsuc 11) (negsuc 0)))
no_turned_low_end places d limit var ppm plan is = let below : pos 0 <ℤ negsuc 0 = is.lowest.positive in omega (arith, ints, below)
