-- The numbers that the steps of the method form, and what the pivots leave: worked out by hand, and by a program of another kind.
use Rattle.written_method.proofs.Common.{◌≡◌, pos, negsuc, ℤ, List, [], ◌∷◌, Some, refl, difference_formed, product_formed, quotient_formed, sum_formed, gcd_of, gcd_within, Rational, divided, lowest, minus, pair, plus, times, whole, Var, Form, var_cmp, value_in, Scaled, expanded, expanded_formed, Line, solved_for, solved_formed, Tableau, pivot_formed, pivoted}
use Rattle.written_method.proofs.EliminationExamples.{c, n, t, x}

-- ---- a pivot

abbrev line : List ℤ → ℤ → ℤ → Line
line entries right own = record { entries = entries; right = right; own = own }

-- 4x + 2y is 8, 6x + 2s is 10, 3y + 5s is 1, and 3z - 2x + y is 0: the numbers of the first two have 2 as a common divisor, and stay as they are until they are combined
abbrev even : Tableau
even = record {
  lines = line (pos 4 ∷ pos 2 ∷ pos 0 ∷ []) (pos 8) (pos 0) ∷ line (pos 6 ∷ pos 0 ∷ pos 2 ∷ []) (pos 10) (pos 0) ∷ line (pos 0 ∷ pos 3 ∷ pos 5 ∷ []) (pos 1) (pos 0) ∷ line (negsuc 1 ∷ pos 1 ∷ pos 0 ∷ []) (pos 0) (pos 3) ∷ [];
  basics = 1 ∷ 0 ∷ 2 ∷ [];
  columns = 3;
}

-- x is cleared by the first row. Of the second 2 times are taken less 3 times the first, and of the last 2 times and the first: over the divisor 2 of 4 and 6, and of 4
-- and 2. At the right side, at z and at each column stand two products and their difference. The third has no x, and forms nothing
even_formed : pivot_formed 0 0 even
    ≡ pos 20 ∷ pos 24 ∷ negsuc 3 ∷ pos 0 ∷ pos 0 ∷ pos 0 ∷ pos 12 ∷ pos 12 ∷ pos 0 ∷ pos 0 ∷ pos 6 ∷ negsuc 5 ∷ pos 4 ∷ pos 0 ∷ pos 4
    ∷ pos 0 ∷ negsuc 7 ∷ pos 8 ∷ pos 6 ∷ pos 0 ∷ pos 6 ∷ negsuc 3 ∷ negsuc 3 ∷ pos 0 ∷ pos 2 ∷ negsuc 1 ∷ pos 4 ∷ pos 0 ∷ pos 0 ∷ pos 0 ∷ []
unfolding gcd_of gcd_within
even_formed = refl

-- what is combined is divided by 2, and the first row is not
even_pivoted : pivoted 0 0 even ≡ record {
  lines = line (pos 4 ∷ pos 2 ∷ pos 0 ∷ []) (pos 8) (pos 0) ∷ line (pos 0 ∷ negsuc 2 ∷ pos 2 ∷ []) (negsuc 1) (pos 0) ∷ line (pos 0 ∷ pos 3 ∷ pos 5 ∷ []) (pos 1) (pos 0) ∷ line (pos 0 ∷ pos 2 ∷ pos 0 ∷ []) (pos 4) (pos 3) ∷ [];
  basics = 0 ∷ 0 ∷ 2 ∷ [];
  columns = 3;
}
unfolding gcd_of gcd_within
even_pivoted = refl

-- ---- a row with two defined variables

-- 3t - n is 2, and 3c - 4x - 2n is 1
abbrev definitions : List (Var × Form)
definitions = (c, record { entries = (x, negsuc 3) ∷ (n, negsuc 1) ∷ (c, pos 3) ∷ []; right = pos 1 }) ∷ (t, record { entries = (n, negsuc 0) ∷ (t, pos 3) ∷ []; right = pos 2 }) ∷ []

-- 2x + 2t + 3c at most 7
abbrev of_both : Scaled
of_both = record { form = record { entries = (x, pos 2) ∷ (t, pos 2) ∷ (c, pos 3) ∷ []; right = pos 7 }; scale = Some (whole (pos 1)) }

-- t goes first: 3 times the row less 2 times t's makes 6x + 2n + 9c at most 17, over the scale 3. Then c: less 3 times c's that is 18x + 8n at most 14
both_formed : expanded_formed definitions of_both
    ≡ pos 6 ∷ pos 0 ∷ pos 6 ∷ pos 0 ∷ negsuc 1 ∷ pos 2 ∷ pos 6 ∷ pos 6 ∷ pos 0 ∷ pos 9 ∷ pos 0 ∷ pos 9 ∷ pos 21 ∷ pos 4 ∷ pos 17 ∷ pos 3 ∷ pos 1
    ∷ pos 6 ∷ negsuc 11 ∷ pos 18 ∷ pos 2 ∷ negsuc 5 ∷ pos 8 ∷ pos 9 ∷ pos 9 ∷ pos 0 ∷ pos 17 ∷ pos 3 ∷ pos 14 ∷ pos 3 ∷ pos 2 ∷ []
unfolding gcd_of gcd_within lowest times product_formed
both_formed = refl

-- which is half of that, over the scale 3/2
both_expanded : expanded definitions of_both ≡ record { form = record { entries = (x, pos 9) ∷ (n, pos 4) ∷ []; right = pos 7 }; scale = Some (pair (pos 3) (pos 2)) }
unfolding gcd_of gcd_within lowest times
both_expanded = refl

-- ---- an equation solved for its variable

-- 3t - 2n is 5, with n = 3/4
abbrev three_quarters : Var → Rational
three_quarters = value_in var_cmp ((n, pair (pos 3) (pos 4)) ∷ [])

-- -2 * 3/4 is -3 over 2; 0 and -3 over 2 are added; 5 less -3 over 2 is 13 over 2; and a third of that is 13 over 6
five_formed : solved_formed var_cmp three_quarters t ((n, negsuc 1) ∷ (t, pos 3) ∷ []) (pos 5) (pos 3)
    ≡ negsuc 2 ∷ pos 2 ∷ pos 0 ∷ negsuc 2 ∷ negsuc 2 ∷ pos 2 ∷ pos 10 ∷ negsuc 2 ∷ pos 13 ∷ pos 2 ∷ pos 13 ∷ pos 6 ∷ []
unfolding gcd_of gcd_within lowest plus minus times product_formed sum_formed difference_formed quotient_formed
five_formed = refl

five_solved : solved_for var_cmp three_quarters t ((n, negsuc 1) ∷ (t, pos 3) ∷ []) (pos 5) (pos 3) ≡ pair (pos 13) (pos 6)
unfolding gcd_of gcd_within lowest plus minus times divided
five_solved = refl
