-- Which values lie in a range, with near misses.
use Rattle.param_tables.proofs.Common.{◌≡◌, ◌∷◌, [], Some, None, refl, map, pos, negsuc, ℤ, range_fault, whole, Negative, NotPositive, NotWhole, OutOfRange, WholeUnits, Any, AtLeastZero, AboveZero, ZeroToOne, OneOrTwo, Lifetime, ZeroOnly, MinusOneOrAtLeastZero}

-- ---- which values lie in a range

half : ℤ
half = pos 500000000

-- -0.5, -1, -1.5
minus_half : ℤ
minus_half = negsuc 499999999

minus_whole : ℤ
minus_whole = negsuc 999999999

any : map (range_fault Any) (pos 0 ∷ pos 1 ∷ negsuc 0 ∷ minus_half ∷ []) ≡ None ∷ None ∷ None ∷ None ∷ []
unfolding minus_half
any = refl

at_least_zero : map (range_fault AtLeastZero) (pos 0 ∷ pos 1 ∷ negsuc 0 ∷ []) ≡ None ∷ None ∷ Some Negative ∷ []
at_least_zero = refl

above_zero : map (range_fault AboveZero) (pos 1 ∷ pos 0 ∷ negsuc 0 ∷ []) ≡ None ∷ Some NotPositive ∷ Some NotPositive ∷ []
above_zero = refl

zero_to_one : map (range_fault ZeroToOne) (pos 0 ∷ whole 1 ∷ negsuc 0 ∷ pos 1000000001 ∷ []) ≡ None ∷ None ∷ Some OutOfRange ∷ Some OutOfRange ∷ []
zero_to_one = refl

one_or_two : map (range_fault OneOrTwo) (whole 1 ∷ whole 2 ∷ pos 1500000000 ∷ whole 0 ∷ whole 3 ∷ []) ≡ None ∷ None ∷ Some OutOfRange ∷ Some OutOfRange ∷ Some OutOfRange ∷ []
one_or_two = refl

-- 1 and 200; 0, 201 and -1; 1.5, -0.5 and 200.000000001
lives : map (range_fault Lifetime) (whole 1 ∷ whole 200 ∷ whole 0 ∷ whole 201 ∷ minus_whole ∷ pos 1500000000 ∷ minus_half ∷ pos 200000000001 ∷ []) ≡ None ∷ None ∷ Some OutOfRange ∷ Some OutOfRange ∷ Some OutOfRange ∷ Some NotWhole ∷ Some NotWhole ∷ Some NotWhole ∷ []
unfolding minus_half minus_whole
lives = refl

whole_units : map (range_fault ZeroOnly) (pos 0 ∷ pos 1 ∷ negsuc 0 ∷ []) ≡ None ∷ Some WholeUnits ∷ Some WholeUnits ∷ []
whole_units = refl

-- -1, 0 and 0.5 are limits; -0.5, -2 and -0.999999999 are none
limits : map (range_fault MinusOneOrAtLeastZero) (minus_whole ∷ pos 0 ∷ half ∷ minus_half ∷ negsuc 1999999999 ∷ negsuc 999999998 ∷ []) ≡ None ∷ None ∷ None ∷ Some OutOfRange ∷ Some OutOfRange ∷ Some OutOfRange ∷ []
unfolding half minus_half minus_whole
limits = refl
