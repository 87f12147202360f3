-- The definitions, computed on small tableaus and a small linear program, and on near misses. Expected values are those of another program.
use Rattle.row_problem.proofs.Common.{◌≡◌, pos, negsuc, true, false, [], ◌∷◌, Some, None, refl, replicate, gcd_of, gcd_within, in_range, lowest, order_of, pair, whole, Var, NEW_CAPACITY, LinearProgram}
use Rattle.row_core.specs.declared.Sense.TheVariants.{Least}
use Rattle.decimal_solver.proofs.Words.{column_values, row_multipliers, spread, variable_values, Line, cleared, entry_in, filled, merged, merged_to, pivot_line, scaled_entries, and_then, near, entering_from, leaving_from, least_right, others_cleared, run, cost_entries, first_entries, first_rows, first_state, greatest_entry}
use Rattle.decimal_solver.specs.States.{GridRow}

-- ---- the nearest number

tie_up : near (pos 5) 2 ≡ pos 3
tie_up = refl

tie_down : near (negsuc 4) 2 ≡ negsuc 2
tie_down = refl

below_half : near (pos 4) 3 ≡ pos 1
below_half = refl

above_half : near (negsuc 4) 3 ≡ negsuc 1
above_half = refl

-- ---- a pivot

abbrev first : Line
first = record { entries = (0, pos 3000000000) ∷ (2, pos 1000000000) ∷ []; right = pos 5000000000 }

-- a third, rounded, and five thirds
abbrev pivot : Line
pivot = record { entries = (0, pos 1000000000) ∷ (2, pos 333333333) ∷ []; right = pos 1666666667 }

pivot_made : pivot_line (pos 1000000000) 0 3 first ≡ Some pivot
unfolding entry_in scaled_entries in_range
pivot_made = refl

-- without the columns from the second on
pivot_limited : pivot_line (pos 1000000000) 0 2 first ≡ Some (record { entries = (0, pos 1000000000) ∷ []; right = pos 1666666667 })
unfolding entry_in scaled_entries in_range
pivot_limited = refl

-- one without an entry there isn't made
no_pivot : pivot_line (pos 1000000000) 1 3 first ≡ None
unfolding entry_in scaled_entries in_range
no_pivot = refl

-- twice the pivot row is taken away: an entry goes, one comes, and one stays
line_cleared : cleared 0 pivot (record { entries = (0, pos 2000000000) ∷ (1, pos 7) ∷ []; right = pos 0 }) ≡ Some (record { entries = (1, pos 7) ∷ (2, negsuc 666666665) ∷ []; right = negsuc 3333333333 })
unfolding entry_in merged merged_to filled in_range
line_cleared = refl

line_kept : cleared 0 pivot (record { entries = (1, pos 7) ∷ []; right = pos 1 }) ≡ Some (record { entries = (1, pos 7) ∷ []; right = pos 1 })
unfolding entry_in
line_kept = refl

-- ---- what enters and what leaves

enters_above_10 : entering_from true 3 (pos 10) None ((0, pos 10) ∷ (1, pos 11) ∷ (2, pos 12) ∷ (3, pos 13) ∷ []) ≡ Some 2
unfolding entering_from
enters_above_10 = refl

enters_first : entering_from false 3 (pos 10) None ((0, pos 10) ∷ (1, pos 11) ∷ (2, pos 12) ∷ []) ≡ Some 1
unfolding entering_from
enters_first = refl

enters_not_at_10 : entering_from true 3 (pos 10) None ((0, pos 10) ∷ []) ≡ None
unfolding entering_from
enters_not_at_10 = refl

abbrev row_with : Line → GridRow
row_with line = record { line = line; basic = 5; scale = pos 1 }

leaves_above_1000 : leaving_from None 0 0 None (row_with (record { entries = (0, pos 1001) ∷ []; right = negsuc 3 }) ∷ []) ≡ Some (record { row = 0; quotient = whole (pos 0); rank = 5 })
unfolding leaving_from entry_in lowest gcd_of gcd_within
leaves_above_1000 = refl

leaves_not_at_1000 : leaving_from None 0 0 None (row_with (record { entries = (0, pos 1000) ∷ []; right = pos 0 }) ∷ []) ≡ None
unfolding leaving_from entry_in
leaves_not_at_1000 = refl

-- ---- a linear program: z is 5 times a capacity of at least 3

abbrev capacity : Var
capacity = record { kind = NEW_CAPACITY; index = record { region = 0; other = 0; slice = 0; tech = 0; fuel = 0; emission = 0; mode = 0; year = 0 } }

abbrev least : LinearProgram
least = record { rows = record { sense = Least; entries = (capacity, pos 1) ∷ []; right = pos 3 } ∷ []; columns = capacity ∷ []; cost = (capacity, negsuc 4) ∷ []; cost_right = pos 0; cost_own = pos 1 }

values_ended : and_then (and_then (first_state least) (run 2)) (λ s. variable_values (column_values (replicate s.columns (whole (pos 0))) s.rows) 0 [] (capacity ∷ [])) ≡ Some ((capacity, pair (pos 3000001) (pos 1000000)) ∷ [])
unfolding first_rows first_entries greatest_entry cost_entries least_right run entering_from leaving_from others_cleared entry_in scaled_entries merged merged_to filled in_range lowest gcd_of gcd_within order_of column_values variable_values
values_ended = refl

multipliers_ended : and_then (and_then (first_state least) (run 2)) (λ s. row_multipliers (spread (replicate s.columns (pos 0)) s.cost.entries) s.slack [] s.rows) ≡ Some (pair (pos 4999999) (pos 1000000) ∷ [])
unfolding first_rows first_entries greatest_entry cost_entries least_right run entering_from leaving_from others_cleared entry_in scaled_entries merged merged_to filled in_range lowest gcd_of gcd_within order_of spread row_multipliers
multipliers_ended = refl

-- one pivot is too few
one_pivot : and_then (first_state least) (run 1) ≡ None
unfolding first_rows first_entries greatest_entry cost_entries least_right run entering_from leaving_from others_cleared entry_in scaled_entries merged merged_to filled in_range lowest gcd_of gcd_within order_of
one_pivot = refl
