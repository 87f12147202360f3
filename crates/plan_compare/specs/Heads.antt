-- The first lines: the statuses, the costs, the bounds, and how much the least costs differ.
use Rattle.std.specs.Prelude.{ℕ, ℤ, List, ◌++◌, codes, Option, if◌then◌else◌}
use Rattle.std.specs.Ordering.{is_eq}
use Rattle.exact_num.specs.Rational.{Rational, order_of}
use Rattle.plan_compare.specs.Amounts.{difference, word_of}
use Rattle.value_millionths.specs.Outwards.{down, up}
use Rattle.value_millionths.specs.Shown.{shown}

-- a plan whose cost is the bound has the least cost of all
abbrev pub status : Rational → Rational → List ℕ
status cost bound = if is_eq (order_of cost bound) then codes "least" else codes "near"

abbrev pub status_line : Rational → Rational → Rational → Rational → List ℕ
status_line cost bound cost2 bound2 = codes "status " ++ status cost bound ++ codes " " ++ status cost2 bound2 ++ codes "\n"

-- a space, and the text of a number
abbrev pub spaced : Option ℤ → List ℕ
spaced number = codes " " ++ word_of number

-- both costs, and the second less the first, which is the difference of what was found
abbrev pub cost_line : Rational → Rational → List ℕ
cost_line cost cost2 = codes "cost" ++ spaced (shown cost) ++ spaced (shown cost2) ++ spaced (difference (shown cost) (shown cost2)) ++ codes "\n"

-- both bounds: their difference would say nothing of the least costs
abbrev pub bound_line : Rational → Rational → List ℕ
bound_line bound bound2 = codes "bound" ++ spaced (shown bound) ++ spaced (shown bound2) ++ codes "\n"

-- What the second least cost less the first is at least and at most: each cost rounded up and each bound rounded down, so that nothing is promised
-- which the numbers themselves don't say.
abbrev pub at_least : Rational → Rational → Option ℤ
at_least cost bound2 = difference (up cost) (down bound2)

abbrev pub at_most : Rational → Rational → Option ℤ
at_most bound cost2 = difference (down bound) (up cost2)

abbrev pub difference_line : Rational → Rational → Rational → Rational → List ℕ
difference_line cost bound cost2 bound2 =
    codes "difference" ++ spaced (at_least cost bound2) ++ spaced (at_most bound cost2) ++ codes "\n"

-- all of them
abbrev pub head_text : Rational → Rational → Rational → Rational → List ℕ
head_text cost bound cost2 bound2 =
    codes "compared\n" ++ status_line cost bound cost2 bound2 ++ cost_line cost cost2 ++ bound_line bound bound2
    ++ difference_line cost bound cost2 bound2
