-- The row that is written for an equation, from its terms and its right side: denominators cleared, and divided by the greatest common divisor.
use Rattle.std.specs.Prelude.{ℕ, ℤ, pos, ◌*ℤ◌, int_div, unsigned_abs, List, [], ◌∷◌, ◌++◌, ◌==◌, if◌then◌else◌}
use Rattle.exact_num.specs.Formed.{common}
use Rattle.exact_num.specs.Gcd.{gcd_of}
use Rattle.exact_num.specs.Rational.{Rational}
use Rattle.row_core.specs.declared.Var.{Var}
use Rattle.row_core.specs.Numbers.{is_zero, numbers_of}

-- the terms whose coefficient isn't 0
abbrev pub kept : List (Var × Rational) → List (Var × Rational)
kept [] = []
kept (term ∷ terms) = if is_zero term.1.top then kept terms else (term ∷ kept terms)

-- the denominators of terms, and that of the right side last
abbrev pub denominators : List (Var × Rational) → Rational → List ℤ
denominators [] right = right.bottom ∷ []
denominators (term ∷ terms) right = term.1.bottom ∷ denominators terms right

-- a common denominator of what had d and of a number over b: d over the greatest common divisor of both, times b
abbrev pub widened : ℤ → ℤ → ℤ
widened d b = int_div d (common d b) *ℤ b

-- the common denominator after each of the denominators in turn
abbrev pub widened_by_each : ℤ → List ℤ → List ℤ
widened_by_each d [] = []
widened_by_each d (b ∷ bs) = widened d b ∷ widened_by_each (widened d b) bs

-- the common denominator after all of them
abbrev pub widened_by_all : ℤ → List ℤ → ℤ
widened_by_all d [] = d
widened_by_all d (b ∷ bs) = widened_by_all (widened d b) bs

-- the common denominator of the terms and the right side
abbrev pub common_denominator : List (Var × Rational) → Rational → ℤ
common_denominator terms right = widened_by_all (pos 1) (denominators terms right)

-- the numerator of a number over a multiple d of its denominator
abbrev pub numerator_over : ℤ → Rational → ℤ
numerator_over d number = number.top *ℤ int_div d number.bottom

-- each variable with the numerator of its coefficient
abbrev pub entries_over : ℤ → List (Var × Rational) → List (Var × ℤ)
entries_over d [] = []
entries_over d (term ∷ terms) = (term.0, numerator_over d term.1) ∷ entries_over d terms

-- the greatest common divisor of a list of numbers, 0 where all of them are 0
abbrev pub common_divisor : List ℤ → ℕ
common_divisor [] = 0
common_divisor (z ∷ zs) = gcd_of (unsigned_abs z) (common_divisor zs)

-- what a row is divided by: a row of zeros alone is divided by 1
abbrev pub row_divisor : List ℤ → ℕ
row_divisor zs = if common_divisor zs == 0 then 1 else common_divisor zs

-- each entry divided by g
abbrev pub entries_divided : {K : Type 0} → ℕ → List (K × ℤ) → List (K × ℤ)
entries_divided g [] = []
entries_divided g (entry ∷ entries) = (entry.0, int_div entry.1 (pos g)) ∷ entries_divided g entries

-- the entries and the right side over the common denominator, without 0
abbrev pub cleared_entries : List (Var × Rational) → Rational → List (Var × ℤ)
cleared_entries terms right = entries_over (common_denominator (kept terms) right) (kept terms)

abbrev pub cleared_right : List (Var × Rational) → Rational → ℤ
cleared_right terms right = numerator_over (common_denominator (kept terms) right) right

-- what they are divided by
abbrev pub written_divisor : List (Var × Rational) → Rational → ℕ
written_divisor terms right = row_divisor (cleared_right terms right ∷ numbers_of (cleared_entries terms right))

-- the entries and the right side of the row
abbrev pub written_entries : List (Var × Rational) → Rational → List (Var × ℤ)
written_entries terms right = entries_divided (written_divisor terms right) (cleared_entries terms right)

abbrev pub written_right : List (Var × Rational) → Rational → ℤ
written_right terms right = int_div (cleared_right terms right) (pos (written_divisor terms right))

-- the numbers that are formed: the common denominator after each denominator, each numerator over the last one, and that of the right side
abbrev pub written_formed : List (Var × Rational) → Rational → List ℤ
written_formed terms right =
    widened_by_each (pos 1) (denominators (kept terms) right)
    ++ (numbers_of (cleared_entries terms right) ++ cleared_right terms right ∷ [])
