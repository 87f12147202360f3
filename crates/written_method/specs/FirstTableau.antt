-- The tableau and the state with which the method begins.
use Rattle.std.specs.Prelude.{ℕ, zero, suc, ◌+◌, ℤ, pos, negsuc, neg_ℤ, int_lt, Bool, false, ◌||◌, List, [], ◌∷◌, ◌++◌, length, if◌then◌else◌}
use Rattle.row_core.specs.declared.Sense.{Sense}
use Rattle.row_core.specs.declared.Sense.TheVariants.{Least, Equal, Most}
use Rattle.row_core.specs.declared.Var.{Var}
use Rattle.row_core.specs.Rows.{number_at}
use Rattle.written_method.specs.Lines.{Line}
use Rattle.written_method.specs.Programs.{Inequality, LinearProgram, is_split}
use Rattle.written_method.specs.Rounds.{State, Phase, Start, Two}
use Rattle.written_method.specs.Tableaus.{Tableau}

-- a number of a row as the row reads at most its right side: a row of at least is multiplied by -1
abbrev pub as_most : Sense → ℤ → ℤ
as_most Least z = neg_ℤ z
as_most Equal z = z
as_most Most z = z

-- the numbers of variables, column by column: one that may be negative has a column for its positive part and one for its negative part
abbrev pub by_column : (Var → ℤ) → List Var → List ℤ
by_column f [] = []
by_column f (v ∷ vs) = if is_split v then f v ∷ neg_ℤ (f v) ∷ by_column f vs else f v ∷ by_column f vs

-- how many columns that are
abbrev pub width_of : List Var → ℕ
width_of [] = 0
width_of (v ∷ vs) = if is_split v then suc (suc (width_of vs)) else suc (width_of vs)

abbrev pub zeros : ℕ → List ℤ
zeros zero = []
zeros (suc n) = pos 0 ∷ zeros n

-- the entries in n slack columns: 1 in that of row i
abbrev pub slack_entries : ℕ → ℕ → List ℤ
slack_entries zero i = []
slack_entries (suc n) zero = pos 1 ∷ zeros n
slack_entries (suc n) (suc i) = pos 0 ∷ slack_entries n i

-- the entry in the column of x0, where it is there
abbrev pub x0_entry : Bool → ℤ → List ℤ
x0_entry there z = if there then (z ∷ []) else []

-- the right side of a row, as it reads at most
abbrev pub right_of : Inequality → ℤ
right_of row = as_most row.sense row.right

abbrev pub any_negative : List Inequality → Bool
any_negative [] = false
any_negative (row ∷ rows) = int_lt (right_of row) (pos 0) || any_negative rows

-- the line of row i of n: its variables, its slack, and -1 at x0 where that is there
abbrev pub row_line : List Var → Bool → ℕ → ℕ → Inequality → Line
row_line columns there n i row = record {
  entries = by_column (λ v. as_most row.sense (number_at row.entries v)) columns ++ (slack_entries n i ++ x0_entry there (negsuc 0));
  right = right_of row;
  own = pos 0;
}

-- the lines of rows from row i on
abbrev pub row_lines : List Var → Bool → ℕ → ℕ → List Inequality → List Line
row_lines columns there n i [] = []
row_lines columns there n i (row ∷ rows) = row_line columns there n i row ∷ row_lines columns there n (suc i) rows

-- the line of z
abbrev pub cost_line : LinearProgram → Bool → Line
cost_line p there = record {
  entries = by_column (number_at p.cost) p.columns ++ (zeros (length p.rows) ++ x0_entry there (pos 0));
  right = p.cost_right;
  own = p.cost_own;
}

-- the line of w, which says that w is x0
abbrev pub artificial_line : LinearProgram → Line
artificial_line p = record { entries = zeros (width_of p.columns) ++ (zeros (length p.rows) ++ negsuc 0 ∷ []); right = pos 0; own = pos 1 }

-- n numbers from `low` on
abbrev pub counted_from : ℕ → ℕ → List ℕ
counted_from low zero = []
counted_from low (suc n) = low ∷ counted_from (suc low) n

-- the tableau with x0 and the line of w, or without them: the slacks are basic
abbrev pub tableau_with : LinearProgram → Bool → Tableau
tableau_with p there = record {
  lines = row_lines p.columns there (length p.rows) 0 p.rows ++ cost_line p there ∷ (if there then (artificial_line p ∷ []) else []);
  basics = counted_from (width_of p.columns) (length p.rows);
  columns = width_of p.columns + length p.rows + (if there then 1 else 0);
}

-- the first tableau has them where some right side is negative
abbrev pub first_tableau : LinearProgram → Tableau
first_tableau p = tableau_with p (any_negative p.rows)

abbrev pub first_phase : Bool → Phase
first_phase there = if there then Start else Two

abbrev pub first_state : LinearProgram → State
first_state p = record { tableau = first_tableau p; phase = first_phase (any_negative p.rows); pivots = 0; degenerate = 0 }
