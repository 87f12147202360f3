-- The one line of CSV that `solve` writes for a table of many models: `status,cost,bound,gap,pivots`. The status is the exit code, and a field of which there is no
-- number is empty.
use Rattle.std.specs.Prelude.{ℕ, ◌%◌, ◌==◌, pos, unsigned_abs, Bool, List, [], ◌++◌, codes, if◌then◌else◌}
use Rattle.std.specs.Fmt.{decimal}
use Rattle.exact_num.specs.Formed.{difference_formed, sum_formed}
use Rattle.exact_num.specs.Range.{all_fit}
use Rattle.exact_num.specs.Rational.{Rational, lowest, minus, plus}
use Rattle.mps_writer.specs.MpsText.{line}
use Rattle.scaled_decimals.specs.PrintedPlaces.{places_text}

-- x is a whole number of millionths
abbrev pub is_in_millionths : Rational → Bool
is_in_millionths x = 1000000 % unsigned_abs x.bottom == 0

-- half a millionth
abbrev pub half_millionth : Rational
half_millionth = lowest (pos 1) (pos 2000000)

-- x with six decimal places, rounded up: to the nearest millionth of half a millionth more, where x isn't a whole number of them. Empty where that sum leaves 128 bits.
abbrev pub up_text : Rational → List ℕ
up_text x =
    if is_in_millionths x then places_text x
    else if all_fit (sum_formed x half_millionth) then places_text (plus x half_millionth)
    else []

-- the cost less the bound, rounded up: 0 where they are equal, and nowhere else
abbrev pub gap_text : Rational → Rational → List ℕ
gap_text cost bound = if all_fit (difference_formed cost bound) then up_text (minus cost bound) else []

-- of a model that is solved
abbrev pub solved_line : Rational → Rational → ℕ → List ℕ
solved_line cost bound made =
    line (codes "0," ++ places_text cost ++ codes "," ++ places_text bound ++ codes "," ++ gap_text cost bound ++ codes "," ++ decimal made)

-- of one that has no plan
abbrev pub infeasible_line : ℕ → List ℕ
infeasible_line made = line (codes "1,,,," ++ decimal made)

-- of one whose cost has no bound
abbrev pub unbounded_line : ℕ → List ℕ
unbounded_line made = line (codes "2,,,," ++ decimal made)
