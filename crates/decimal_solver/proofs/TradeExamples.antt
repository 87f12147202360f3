-- The grid on a linear program with trade, at its thresholds, and with values and multipliers that are cut off. Expected values are those of another program.
use Rattle.row_problem.proofs.Common.{◌≡◌, ℕ, pos, negsuc, ℤ, true, false, [], ◌∷◌, Option, None, Some, refl, replicate, difference_formed, gcd_of, gcd_within, all_fit, in_range, lowest, minus, order_of, pair, whole, Most, Var, RATE_OF_ACTIVITY, TRADE, LinearProgram, Values}
use Rattle.row_core.specs.declared.Sense.TheVariants.{Least}
use Rattle.decimal_solver.proofs.Words.{column_values, row_multipliers, spread, variable_value, variable_values, Line, entry_in, filled, merged, merged_to, scaled_entries, and_then, degenerate_after, entering, entering_from, is_degenerate, leaving_from, least_right, others_cleared, run, cost_entries, first_entries, first_rows, first_state, greatest_entry, One, Phase, Start, State, Two}
use Rattle.decimal_solver.specs.States.{GridRow}

-- the variable of this kind between two regions
abbrev between : ℕ → ℕ → ℕ → Var
between kind r rr = record { kind = kind; index = record { region = r; other = rr; slice = 0; tech = 0; fuel = 0; emission = 0; mode = 0; year = 0 } }

-- activities of two regions, and their trade, which may be negative
abbrev first : Var
first = between RATE_OF_ACTIVITY 0 0

abbrev second : Var
second = between RATE_OF_ACTIVITY 1 0

abbrev trade : Var
trade = between TRADE 0 1

-- ---- a linear program

-- 2 a + 3 t is at least 0, b - t at least 3, and -3 t at most 7; twice the cost is a + 4 b. So at best t is -7/3, a is 7/2 and b is 2/3
abbrev trading : LinearProgram
trading = record {
  rows = record { sense = Least; entries = (first, pos 2) ∷ (trade, pos 3) ∷ []; right = pos 0 }
      ∷ record { sense = Least; entries = (second, pos 1) ∷ (trade, negsuc 0) ∷ []; right = pos 3 }
      ∷ record { sense = Most; entries = (trade, negsuc 2) ∷ []; right = pos 7 }
      ∷ [];
  columns = first ∷ second ∷ trade ∷ [];
  cost = (first, negsuc 0) ∷ (second, negsuc 3) ∷ [];
  cost_right = pos 0;
  cost_own = pos 2;
}

-- columns 2 and 3 are those of the trade, 4 to 6 the slacks, and 7 is x0. A right side of 0 is 1000 below it
begun : first_state trading ≡ Some (record {
  rows =
      record { line = record { entries = (0, negsuc 666666666) ∷ (2, negsuc 999999999) ∷ (3, pos 1000000000) ∷ (4, pos 1000000000) ∷ (7, negsuc 999999999) ∷ []; right = negsuc 999 }; basic = 4; scale = negsuc 2 }
      ∷ record { line = record { entries = (1, negsuc 999999999) ∷ (2, pos 1000000000) ∷ (3, negsuc 999999999) ∷ (5, pos 1000000000) ∷ (7, negsuc 999999999) ∷ []; right = negsuc 3000000999 }; basic = 5; scale = negsuc 0 }
      ∷ record { line = record { entries = (2, negsuc 999999999) ∷ (3, pos 1000000000) ∷ (6, pos 1000000000) ∷ (7, negsuc 999999999) ∷ []; right = pos 2333332333 }; basic = 6; scale = pos 3 }
      ∷ [];
  cost = record { entries = (0, negsuc 499998999) ∷ (1, negsuc 1999998999) ∷ []; right = pos 0 };
  artificial = record { entries = (7, negsuc 999999999) ∷ []; right = pos 0 };
  phase = Start;
  slack = 4;
  columns = 8;
  pivots = 0;
  degenerate = 0;
})
unfolding first_rows first_entries greatest_entry cost_entries least_right in_range
begun = refl

-- two thirds and seven thirds are rounded. With a pivot for x0, two of phase 1 and two of phase 2 the trade is negative
state_after : ℕ → Option State
unfolding first_rows first_entries greatest_entry cost_entries least_right run entering_from leaving_from others_cleared entry_in scaled_entries merged merged_to filled in_range lowest gcd_of gcd_within order_of
state_after n = and_then (first_state trading) (run n)

values_after : ℕ → Option Values
unfolding state_after column_values variable_values difference_formed all_fit minus
values_after n = and_then (state_after n) (λ s. variable_values (column_values (replicate s.columns (whole (pos 0))) s.rows) 0 [] (first ∷ second ∷ trade ∷ []))

traded : values_after 5 ≡ Some ((first, pair (pos 3499999997) (pos 1000000000)) ∷ (second, pair (pos 666668667) (pos 1000000000)) ∷ (trade, pair (negsuc 2333332332) (pos 1000000000)) ∷ [])
unfolding values_after
traded = refl

-- the fifth is needed
four_pivots : values_after 4 ≡ None
unfolding values_after
four_pivots = refl

-- each multiplier is over the greatest entry of its row
trade_multipliers : and_then (state_after 5) (λ s. row_multipliers (spread (replicate s.columns (pos 0)) s.cost.entries) s.slack [] s.rows)
    ≡ Some (pair (pos 749998499) (pos 3000000000) ∷ pair (pos 1999999) (pos 1000000) ∷ pair (negsuc 1250000500) (pos 3000000000) ∷ [])
unfolding state_after spread row_multipliers
trade_multipliers = refl

-- a cost of 3/2 for each unit of the trade isn't set off by 1000, and is an earning in its second column; that of an activity is
trade_costs : cost_entries ((trade, negsuc 2) ∷ []) 2 [] ((trade, 0) ∷ []) ≡ Some ((0, negsuc 1499999999) ∷ (1, pos 1500000000) ∷ [])
unfolding cost_entries in_range
trade_costs = refl

activity_costs : cost_entries ((first, negsuc 2) ∷ []) 2 [] ((first, 0) ∷ []) ≡ Some ((0, negsuc 1499998999) ∷ [])
unfolding cost_entries in_range
activity_costs = refl

-- ---- thresholds

-- an activity of at most 1 in so many parts: a millionth is 1000, and nothing is left of it. Half of that is below 0, so x0 is there
abbrev at_most_one : ℤ → LinearProgram
at_most_one parts = record { rows = record { sense = Most; entries = (first, parts) ∷ []; right = pos 1 } ∷ []; columns = first ∷ []; cost = []; cost_right = pos 0; cost_own = pos 1 }

beginning : ℤ → Option (Phase × ℕ)
unfolding first_rows first_entries greatest_entry cost_entries least_right in_range
beginning parts = and_then (first_state (at_most_one parts)) (λ s. Some (s.phase, s.columns))

no_x0 : beginning (pos 1000000) ≡ Some (Two, 2)
unfolding beginning
no_x0 = refl

with_x0 : beginning (pos 2000000) ≡ Some (Start, 3)
unfolding beginning
with_x0 = refl

-- a right side of at most 10 is as good as 0; at the start its row is multiplied by -1
degenerate_at_10 : is_degenerate One (pos 10) ≡ true
degenerate_at_10 = refl

not_at_11 : is_degenerate One (pos 11) ≡ false
not_at_11 = refl

degenerate_below_0 : is_degenerate Two (negsuc 20) ≡ true
degenerate_below_0 = refl

degenerate_at_10_in_two : is_degenerate Two (pos 10) ≡ true
degenerate_at_10_in_two = refl

not_at_11_in_two : is_degenerate Two (pos 11) ≡ false
not_at_11_in_two = refl

degenerate_at_start : is_degenerate Start (negsuc 9) ≡ true
degenerate_at_start = refl

not_at_start : is_degenerate Start (negsuc 10) ≡ false
not_at_start = refl

-- one row with this right side, after so many degenerate pivots in a row; the second column has the greatest entry
abbrev row_with : ℤ → ℕ → GridRow
row_with right basic = record { line = record { entries = (0, pos 1000000000) ∷ []; right = right }; basic = basic; scale = pos 1 }

abbrev costs : Line
costs = record { entries = (0, pos 11) ∷ (1, pos 12) ∷ []; right = pos 0 }

abbrev counting : ℕ → ℤ → State
counting degenerate right = record { rows = row_with right 2 ∷ []; cost = costs; artificial = costs; phase = Two; slack = 2; columns = 3; pivots = 60; degenerate = degenerate }

fiftieth : degenerate_after (counting 49 (pos 10)) 0 ≡ 50
fiftieth = refl

count_ends : degenerate_after (counting 50 (pos 11)) 0 ≡ 0
count_ends = refl

greatest_after_49 : entering 49 2 costs ≡ Some 1
unfolding entering_from
greatest_after_49 = refl

first_after_50 : entering 50 2 costs ≡ Some 0
unfolding entering_from
first_after_50 = refl

first_after_51 : entering 51 2 costs ≡ Some 0
unfolding entering_from
first_after_51 = refl

-- -3 counts as 0, so it ties with 0, and the least basic column leaves; a right side of 1 leaves after them
tied : leaving_from None 0 0 None (row_with (pos 1) 2 ∷ row_with (negsuc 2) 4 ∷ row_with (pos 0) 3 ∷ []) ≡ Some (record { row = 2; quotient = whole (pos 0); rank = 3 })
unfolding leaving_from entry_in lowest gcd_of gcd_within order_of
tied = refl

-- x0, in column 4, leaves first
tied_with_x0 : leaving_from (Some 4) 0 0 None (row_with (pos 0) 3 ∷ row_with (negsuc 2) 4 ∷ []) ≡ Some (record { row = 1; quotient = whole (pos 0); rank = 0 })
unfolding leaving_from entry_in lowest gcd_of gcd_within order_of
tied_with_x0 = refl

-- ---- what is cut off

-- a value below 0 is 0
values_cut_off : column_values (replicate 4 (whole (pos 0))) (row_with (negsuc 0) 1 ∷ row_with (pos 500000000) 3 ∷ []) ≡ whole (pos 0) ∷ whole (pos 0) ∷ whole (pos 0) ∷ pair (pos 1) (pos 2) ∷ []
unfolding column_values lowest gcd_of gcd_within
values_cut_off = refl

-- before the second part of a trade is taken away from its first
trade_cut_off : variable_value (column_values (replicate 2 (whole (pos 0))) (row_with (negsuc 500000000) 0 ∷ row_with (pos 500000000) 1 ∷ [])) 0 trade ≡ Some (pair (negsuc 0) (pos 2))
unfolding column_values lowest gcd_of gcd_within difference_formed all_fit in_range minus
trade_cut_off = refl

-- a multiplier above 0 is 0, by the entry of its slack; where the row was multiplied by -1 the sign turns
abbrev scaled_by : ℤ → GridRow
scaled_by scale = record { line = record { entries = []; right = pos 0 }; basic = 0; scale = scale }

multipliers_cut_off : row_multipliers (pos 9 ∷ pos 1 ∷ negsuc 499999999 ∷ negsuc 499999999 ∷ []) 1 [] (scaled_by (pos 2) ∷ scaled_by (pos 2) ∷ scaled_by (negsuc 1) ∷ []) ≡ Some (whole (pos 0) ∷ pair (negsuc 0) (pos 4) ∷ pair (pos 1) (pos 4) ∷ [])
unfolding row_multipliers in_range lowest gcd_of gcd_within
multipliers_cut_off = refl
