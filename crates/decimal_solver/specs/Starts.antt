-- The first tableau of the grid, of a linear program.
use Rattle.std.specs.Prelude.{ℕ, suc, ◌+◌, nat_lt, ℤ, pos, neg_ℤ, unsigned_abs, List, [], ◌∷◌, ◌++◌, length, Option, Some, None, if◌then◌else◌}
use Rattle.row_problem.specs.Prelude.{fold, Var, value_at, var_cmp, number_at, as_most, width_of, Inequality, LinearProgram, is_split}
use Rattle.int_tableau.specs.Starts.{in_columns_of, placed}
use Rattle.decimal_solver.specs.Folds.{folded}
use Rattle.decimal_solver.specs.Lines.{Entries, with_entry}
use Rattle.decimal_solver.specs.Numbers.{and_then, lowered, raised, scaled_number, unit}
use Rattle.decimal_solver.specs.Rounds.{least_right}
use Rattle.decimal_solver.specs.States.{GridRow, Phase, Start, Two, State}

-- the greater of the greatest so far and one more
abbrev pub greater : ℕ → Var × ℤ → ℕ
greater so_far e = if nat_lt so_far (unsigned_abs e.1) then unsigned_abs e.1 else so_far

-- the greatest of some absolute values and `so_far`
unfoldable pub greatest_entry : ℕ → List (Var × ℤ) → ℕ
greatest_entry so_far es = fold greater so_far es

-- the entries with those of one more
abbrev pub with_first : ℤ → ℕ → List (Var × ℕ) → Entries → Var × ℤ → Option Entries
with_first f m places made e = and_then (scaled_number f e.1 m) (λ z. Some (made ++ in_columns_of (is_split e.0) z (value_at var_cmp places e.0)))

-- near (f * e / m) of each entry e, in the columns of its variable: one that may be negative has a second column, with the number negated
unfoldable pub first_entries : ℤ → ℕ → List (Var × ℕ) → Entries → List (Var × ℤ) → Option Entries
first_entries f m places made es = folded (with_first f m places) made es

-- row i of n: its variables, its slack, and -10^9 at x0. Its numbers are divided by its greatest entry; its right side is lowered
abbrev pub first_row : List (Var × ℕ) → ℕ → ℕ → ℕ → Inequality → Option GridRow
first_row places width n i row =
    let f : ℤ = as_most row.sense (pos unit) in
    let m : ℕ = greatest_entry 0 row.entries in
    and_then (first_entries f m places [] row.entries)
    (λ es. and_then (scaled_number f row.right m)
    (λ b. and_then (lowered b)
    (λ b. Some (record {
      line = record { entries = es ++ ((width + i, pos unit) ∷ (width + n, neg_ℤ (pos unit)) ∷ []); right = b };
      basic = width + i;
      scale = as_most row.sense (pos m);
    }))))

-- the rows with one more, whose number is how many were made
abbrev pub with_row : List (Var × ℕ) → ℕ → ℕ → List GridRow → Inequality → Option (List GridRow)
with_row places width n made row = and_then (first_row places width n (length made) row) (λ r. Some (made ++ r ∷ []))

unfoldable pub first_rows : List (Var × ℕ) → ℕ → ℕ → List GridRow → List Inequality → Option (List GridRow)
first_rows places width n made rows = folded (with_row places width n) made rows

-- the line of z: of each column's cost, -near (10^9 * k / own) lowered, the number negated; the cost of a variable that may be negative isn't lowered
abbrev pub with_cost : List (Var × ℤ) → ℕ → Entries → Var × ℕ → Option Entries
with_cost cost own made p =
    and_then (scaled_number (pos unit) (number_at cost p.0) own)
    (λ z. if is_split p.0
    then Some (with_entry (with_entry made p.1 z) (p.1 + 1) (neg_ℤ z))
    else and_then (raised z) (λ y. Some (with_entry made p.1 y)))

unfoldable pub cost_entries : List (Var × ℤ) → ℕ → Entries → List (Var × ℕ) → Option Entries
cost_entries cost own made ps = folded (with_cost cost own) made ps

-- x0 is there where some right side is negative
abbrev pub first_phase : Option ℕ → Phase
first_phase None = Two
first_phase (Some row) = Start

abbrev pub first_columns : Option ℕ → ℕ → ℕ
first_columns None x0 = x0
first_columns (Some row) x0 = suc x0

-- the first state: the slacks are basic
abbrev pub first_state : LinearProgram → Option State
first_state p =
    let places : List (Var × ℕ) = placed 0 p.columns in
    let width : ℕ = width_of p.columns in
    let n : ℕ = length p.rows in
    and_then (first_rows places width n [] p.rows)
    (λ rows. and_then (cost_entries p.cost (unsigned_abs p.cost_own) [] places)
    (λ cost. Some (record {
      rows = rows;
      cost = record { entries = cost; right = pos 0 };
      artificial = record { entries = (width + n, neg_ℤ (pos unit)) ∷ []; right = pos 0 };
      phase = first_phase (least_right 0 (pos 0) None rows);
      slack = width;
      columns = first_columns (least_right 0 (pos 0) None rows) (width + n);
      pivots = 0;
      degenerate = 0;
    })))
