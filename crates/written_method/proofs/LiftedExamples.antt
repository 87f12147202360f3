-- A small model, lifted by computation: an activity x of at least 10 and at most the total capacity t, which is the capacity n, and the cost c of both. The plan x = n = 10 costs 80, and the multipliers -6 and 8 of the two inequalities say that none costs less.
use Rattle.written_method.proofs.Common.{◌≡◌, ℕ, pos, negsuc, true, false, [], ◌∷◌, refl, ap₂, gcd_of, gcd_within, Rational, whole, lowest, plus, minus, times, divided, Row, RowName, Var, var_cmp, row_name_cmp, value_in, number_at, solved_for}
use Rattle.written_method.specs.Lifted.{lifted_value, right_side}
use Rattle.written_method.specs.Multiplied.{scaled_multipliers, coefficient}

abbrev variable : ℕ → Var
variable kind = record { kind = kind; index = record { region = 0; other = 0; slice = 0; tech = 0; fuel = 0; emission = 0; mode = 0; year = 0 } }

abbrev x : Var
x = variable 1

abbrev n : Var
n = variable 2

abbrev t : Var
t = variable 6

abbrev c : Var
c = variable 37

-- ---- values

abbrev columns : Var → Rational
columns = value_in var_cmp ((x, whole (pos 10)) ∷ (n, whole (pos 10)) ∷ [])

-- c - 2x - 6t = 0, with t = 10
abbrev totals : Var → Rational
totals = value_in var_cmp ((x, whole (pos 10)) ∷ (n, whole (pos 10)) ∷ (t, whole (pos 10)) ∷ [])

-- t - n = 0 gives t the value 10
total : (row : Row) → row.entries.items ≡ (n, negsuc 0) ∷ (t, pos 1) ∷ [] → row.rhs ≡ pos 0 → lifted_value right_side columns (record { row = row; variable = t }) ≡ whole (pos 10)
unfolding gcd_of gcd_within lowest plus minus times divided
total row e r = ap₂ (λ es right. solved_for var_cmp columns t es right (number_at es t)) e r

cost : (row : Row) → row.entries.items ≡ (x, negsuc 1) ∷ (t, negsuc 5) ∷ (c, pos 1) ∷ [] → row.rhs ≡ pos 0 → lifted_value right_side totals (record { row = row; variable = c }) ≡ whole (pos 80)
unfolding gcd_of gcd_within lowest plus minus times divided
cost row e r = ap₂ (λ es right. solved_for var_cmp totals c es right (number_at es c)) e r

-- 2t - n = 7 gives t the value 17/2 of a plan, and 5 of a direction
half : solved_for var_cmp columns t ((n, negsuc 0) ∷ (t, pos 2) ∷ []) (pos 7) (pos 2) ≡ record { top = pos 17; bottom = pos 2 }
unfolding gcd_of gcd_within lowest plus minus times divided
half = refl

half_way : solved_for var_cmp columns t ((n, negsuc 0) ∷ (t, pos 2) ∷ []) (pos 0) (pos 2) ≡ whole (pos 5)
unfolding gcd_of gcd_within lowest plus minus times divided
half_way = refl

-- ---- multipliers

abbrev name : ℕ → RowName
name eq = record { eq = eq; index = record { region = 0; other = 0; slice = 0; tech = 0; fuel = 0; emission = 0; mode = 0; year = 0 } }

-- t - n = 0 is row 3, x - t at most 0 is row 5, x at least 10 is row 17, and c - 2x - 6t = 0 is row 41; where row 5 was doubled, its multiplier is too
scaled : scaled_multipliers (name 5 ∷ name 17 ∷ []) (whole (pos 2) ∷ whole (pos 1) ∷ []) (whole (negsuc 2) ∷ whole (pos 8) ∷ []) [] ≡ (name 5, whole (negsuc 5)) ∷ (name 17, whole (pos 8)) ∷ []
unfolding gcd_of gcd_within lowest times
scaled = refl

abbrev of_rows : RowName → Rational
of_rows = value_in row_name_cmp ((name 5, whole (negsuc 5)) ∷ (name 17, whole (pos 8)) ∷ [])

-- the last definition's multiplier is 1, the coefficient of c in the cost; and 0 where no cost is asked for
of_cost : solved_for row_name_cmp of_rows (name 41) ((name 41, pos 1) ∷ []) (coefficient true c) (pos 1) ≡ whole (pos 1)
unfolding gcd_of gcd_within lowest plus minus times divided
of_cost = refl

of_no_cost : solved_for row_name_cmp of_rows (name 41) ((name 41, pos 1) ∷ []) (coefficient false c) (pos 1) ≡ whole (pos 0)
unfolding gcd_of gcd_within lowest plus minus times divided
of_no_cost = refl

-- then that of t is 0 - (-1 * -6 + -6 * 1), which is 0; and -6 where no cost is asked for
of_total : solved_for row_name_cmp (value_in row_name_cmp ((name 5, whole (negsuc 5)) ∷ (name 17, whole (pos 8)) ∷ (name 41, whole (pos 1)) ∷ [])) (name 3) ((name 3, pos 1) ∷ (name 5, negsuc 0) ∷ (name 41, negsuc 5) ∷ []) (coefficient true t) (pos 1) ≡ whole (pos 0)
unfolding gcd_of gcd_within lowest plus minus times divided
of_total = refl

of_total_alone : solved_for row_name_cmp (value_in row_name_cmp ((name 5, whole (negsuc 5)) ∷ (name 17, whole (pos 8)) ∷ (name 41, whole (pos 0)) ∷ [])) (name 3) ((name 3, pos 1) ∷ (name 5, negsuc 0) ∷ (name 41, negsuc 5) ∷ []) (coefficient false t) (pos 1) ≡ whole (negsuc 5)
unfolding gcd_of gcd_within lowest plus minus times divided
of_total_alone = refl
