-- The lines of a report. Each ends with a line feed.
use Rattle.std.specs.Prelude.{ℕ, ◌==◌, List, [], ◌++◌, codes, decimal, if◌then◌else◌}
use Rattle.exact_num.specs.Rational.{Rational}
use Rattle.scaled_decimals.specs.PrintedFraction.{fraction_text}
use Rattle.scaled_decimals.specs.PrintedPlaces.{places_text}
use Rattle.result_tables.specs.declared.attempts.Begun.{Begun}
use Rattle.result_tables.specs.declared.attempts.Begun.TheVariants.{FromNothing, FromValues, WithoutStart}
use Rattle.result_tables.specs.declared.attempts.FoundBy.{FoundBy}
use Rattle.result_tables.specs.declared.attempts.FoundBy.TheVariants.{ByGuesses, ByMethod, OnGrid}

-- a word and a value, as a fraction and rounded to six decimal places
abbrev pub amount_line : List ℕ → Rational → List ℕ
amount_line word x = word ++ codes " " ++ fraction_text x ++ codes " " ++ places_text x ++ codes "\n"

-- a word and a whole number
abbrev pub count_line : List ℕ → ℕ → List ℕ
count_line word n = word ++ codes " " ++ decimal n ++ codes "\n"

-- the number of decimal places of the written factors, where it isn't 6
abbrev pub places_line : ℕ → List ℕ
places_line places = if places == 6 then [] else count_line (codes "places") places

-- what guesses began from, where a file was given for it: how many values were taken, and how many were passed over; or that it has none
abbrev pub start_line : Begun → List ℕ
start_line FromNothing = []
start_line WithoutStart = codes "start none\n"
start_line (FromValues taken passed) = codes "start " ++ decimal taken ++ codes " passed " ++ decimal passed ++ codes "\n"

-- the number of the attempt that gave what is told, where it isn't the first, and of guesses what they began from
abbrev pub attempt_lines : FoundBy → List ℕ
attempt_lines ByMethod = []
attempt_lines OnGrid = count_line (codes "attempt") 2
attempt_lines (ByGuesses begun) = count_line (codes "attempt") 3 ++ start_line begun

-- the numbers of pivots, and of numbers of the data that were rounded, the decimal places of the written factors, and the attempt
abbrev pub count_lines : ℕ → ℕ → ℕ → FoundBy → List ℕ
count_lines pivots rounded places attempt =
    count_line (codes "pivots") pivots ++ (count_line (codes "rounded") rounded ++ (places_line places ++ attempt_lines attempt))

-- how a table begins
abbrev pub heading : List ℕ → List ℕ
heading name = codes "table " ++ name ++ codes "\n"
