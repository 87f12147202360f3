-- The definitions of texts and of their values, computed on worked examples and on near misses.
use Rattle.scaled_decimals.proofs.Common.{◌≡◌, ◌^◌, ℕ, pos, negsuc, List, [], ◌∷◌, true, false, Some, None, Ok, Err, refl, codes, all_fit, in_range, pair, lowest, TooLarge, numerator, denominator, decimal_of, is_above, nearest, number_of, FractionText, Whole, Quotient, Decimal, SpellsValue, top_of, bottom_of}
use Rattle.exact_num.specs.Gcd.{gcd_of, gcd_within}
use Rattle.scaled_decimals.specs.FractionText as value
use Rattle.scaled_decimals.specs.NumberReading.{number_in}
use Rattle.std.specs.Prelude.{false, map}
use Rattle.scaled_decimals.specs.NumberText.{Sign, Bare, Plus, Minus, NumberText, IsFormed, spelling}

-- a number without a power of ten
abbrev plain : Sign → List ℕ → List ℕ → NumberText
plain sign whole places = record { sign = sign; whole = whole; fraction = Some places; exponent = None }

-- a whole number with a power of ten
abbrev power : Sign → List ℕ → Sign → List ℕ → NumberText
power sign whole direction digits =
    record { sign = sign; whole = whole; fraction = None; exponent = Some (record { capital = false; sign = direction; digits = digits }) }

-- ---- digits
twelve : number_of (codes "012") ≡ 12
unfolding number_of
twelve = refl

not_ten_places : number_of (codes "1002") ≡ 1002
unfolding number_of
not_ten_places = refl

-- ---- spellings
spelled : spelling (record { sign = Minus; whole = codes "12"; fraction = Some (codes "50"); exponent = Some (record { capital = true; sign = Plus; digits = codes "7" }) }) ≡ codes "-12.50E+7"
spelled = refl

spelled_bare : spelling (plain Bare [] (codes "5")) ≡ codes ".5"
spelled_bare = refl

spelled_point : spelling (plain Plus (codes "5") []) ≡ codes "+5."
spelled_point = refl

-- `.` has a point and no digit, `1e` has no digit in its power, and `1a` isn't digits
no_digit : IsFormed (plain Bare [] []) → ⊥
no_digit is = elim is.nonempty [ ]

no_power : IsFormed (power Bare (codes "1") Bare []) → ⊥
no_power is = elim is.power.0 [ ]

-- ---- the number in a text
negative_number : number_in (codes "-2.5e7") ≡ Some (record { sign = Minus; whole = codes "2"; fraction = Some (codes "5"); exponent = Some (record { capital = false; sign = Bare; digits = codes "7" }) })
negative_number = refl

-- a point alone, a power of ten without digits, and a blank are no numbers
no_numbers : map number_in (codes "." ∷ codes "1e" ∷ codes " 1" ∷ []) ≡ None ∷ None ∷ None ∷ []
no_numbers = refl

-- ---- values: 0.1666666667 is rounded, .5 and 5. aren't
sixth : decimal_of (plain Bare (codes "0") (codes "1666666667")) ≡ Ok (pos 166666667, true)
unfolding numerator denominator number_of
sixth = refl

half : decimal_of (plain Bare [] (codes "5")) ≡ Ok (pos 500000000, false)
unfolding numerator denominator number_of
half = refl

five : decimal_of (plain Bare (codes "5") []) ≡ Ok (pos 5000000000, false)
unfolding numerator denominator number_of
five = refl

-- a tenth of a billionth goes to 0, and one half of one away from 0
tenth : decimal_of (power Bare (codes "1") Minus (codes "10")) ≡ Ok (pos 0, true)
unfolding numerator denominator number_of
tenth = refl

tie : decimal_of (power Bare (codes "5") Minus (codes "10")) ≡ Ok (pos 1, true)
unfolding numerator denominator number_of
tie = refl

negative_tie : decimal_of (power Minus (codes "5") Minus (codes "10")) ≡ Ok (negsuc 0, true)
unfolding numerator denominator number_of
negative_tie = refl

-- 2.5 billionths go to 3, and 2.4 to 2
odd_tie : decimal_of (power Bare (codes "25") Minus (codes "10")) ≡ Ok (pos 3, true)
unfolding numerator denominator number_of
odd_tie = refl

below_tie : decimal_of (power Bare (codes "24") Minus (codes "10")) ≡ Ok (pos 2, true)
unfolding numerator denominator number_of
below_tie = refl

-- 10^15 is the greatest, and the least above it is refused
greatest : decimal_of (power Bare (codes "1") Bare (codes "15")) ≡ Ok (pos (10 ^ 24), false)
unfolding numerator denominator number_of
greatest = refl

ten_times : decimal_of (power Minus (codes "1") Plus (codes "16")) ≡ Err TooLarge
unfolding numerator denominator number_of
ten_times = refl

just_above : is_above (plain Bare (codes "1000000000000000") (codes "0000000001")) ≡ true
unfolding numerator denominator number_of
just_above = refl

-- ---- the nearest whole number
nearest_five_halves : nearest 5 2 ≡ 3
nearest_five_halves = refl

nearest_seven_thirds : nearest 7 3 ≡ 2
nearest_seven_thirds = refl

-- ---- exact values: -12.50 is written 1250 / 100
abbrev decimal : FractionText
decimal = record { negative = true; form = Decimal (codes "12") (codes "50") }

decimal_spelled : value.spelling decimal ≡ codes "-12.50"
decimal_spelled = refl

decimal_top : top_of decimal ≡ negsuc 1249
unfolding number_of
decimal_top = refl

decimal_bottom : bottom_of decimal ≡ pos 100
decimal_bottom = refl

decimal_value : lowest (top_of decimal) (bottom_of decimal) ≡ pair (negsuc 24) (pos 2)
unfolding number_of lowest gcd_of gcd_within
decimal_value = refl

-- 2^127 - 1 is the greatest numerator as written
widest : all_fit (top_of (record { negative = true; form = Whole (codes "170141183460469231731687303715884105727") }) ∷ []) ≡ true
unfolding number_of all_fit in_range
widest = refl

too_wide : all_fit (top_of (record { negative = true; form = Whole (codes "170141183460469231731687303715884105728") }) ∷ []) ≡ false
unfolding number_of all_fit in_range
too_wide = refl

-- 3/00 has the form, and denominator 0
no_denominator : SpellsValue (record { negative = false; form = Quotient (codes "3") (codes "00") }) (codes "3/00") → ⊥
unfolding number_of
no_denominator is = is.nonzero refl
