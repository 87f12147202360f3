-- The rounds on the grid: which column enters, which row leaves, the state after a pivot, and all rounds.
use Rattle.std.specs.Prelude.{ℕ, zero, suc, ◌+◌, ◌-◌, ◌==◌, nat_lt, ℤ, pos, negsuc, int_lt, int_le, Bool, true, false, ◌&&◌, ◌||◌, List, [], ◌∷◌, ◌++◌, length, slice_index_or, slice_set, Option, Some, None, is_none, if◌then◌else◌}
use Rattle.row_problem.specs.Prelude.{fold, Rational, lowest, order_of, rank_of}
use Rattle.std.specs.declared.cmp.Ordering.TheVariants.{Less, Equal, Greater}
use Rattle.decimal_solver.specs.Folds.{folded}
use Rattle.decimal_solver.specs.Lines.{Entries, Line, cleared, entry_in, pivot_line}
use Rattle.decimal_solver.specs.Numbers.{and_then}
use Rattle.decimal_solver.specs.States.{GridRow, Phase, Start, One, Two, State}

-- ---- the column that enters

-- the greatest entry so far and its column, by one more entry
abbrev pub entered : Bool → ℕ → ℤ × Option ℕ → ℕ × ℤ → ℤ × Option ℕ
entered greedy limit s e = if nat_lt e.0 limit && (int_lt s.0 e.1 && (greedy || is_none s.1)) then (e.1, Some e.0) else s

-- the column with the greatest entry above `best` in the columns before `limit`, the first of those; or, not greedily, the first with such an entry
unfoldable pub entering_from : Bool → ℕ → ℤ → Option ℕ → Entries → Option ℕ
entering_from greedy limit best chosen es = (fold {B = ℤ × Option ℕ} (entered greedy limit) (best, chosen) es).1

-- a column can enter where its entry is above 10; after 50 degenerate pivots in a row the first that can does
abbrev pub entering : ℕ → ℕ → Line → Option ℕ
entering degenerate limit line = entering_from (nat_lt degenerate 50) limit (pos 10) None line.entries

-- ---- the row that leaves

-- a row that may leave: its place, the quotient of its right side and its entry, and its place among those of the same quotient
pub record Candidate : Type 0 where
  pub row : ℕ
  pub quotient : Rational
  pub rank : ℕ

abbrev pub leaves_before : Candidate → Candidate → Bool
leaves_before a b = elim (order_of a.quotient b.quotient) [ Less ↦ true | Equal ↦ nat_lt a.rank b.rank | Greater ↦ false ]

abbrev pub better : Option Candidate → Candidate → Candidate
better None a = a
better (Some b) a = if leaves_before a b then a else b

-- a right side below 0 counts as 0
abbrev pub clipped : ℤ → ℤ
clipped z = if int_lt z (pos 0) then pos 0 else z

abbrev pub candidate_at : Option ℕ → ℕ → ℤ → GridRow → Candidate
candidate_at x0 at entry row = record { row = at; quotient = lowest (clipped row.line.right) entry; rank = rank_of x0 row.basic }

-- a row can leave where its entry is above 1000
abbrev pub chosen_with : Option ℕ → ℕ → ℕ → Option Candidate → GridRow → Option Candidate
chosen_with x0 c at chosen row =
    if int_lt (pos 1000) (entry_in c row.line.entries) then Some (better chosen (candidate_at x0 at (entry_in c row.line.entries) row)) else chosen

-- the next row, and the one that leaves so far
abbrev pub with_candidate : Option ℕ → ℕ → ℕ × Option Candidate → GridRow → ℕ × Option Candidate
with_candidate x0 c s row = (s.0 + 1, chosen_with x0 c s.0 s.1 row)

-- the one with the least quotient leaves; at a tie x0, then the least basic column
unfoldable pub leaving_from : Option ℕ → ℕ → ℕ → Option Candidate → List GridRow → Option Candidate
leaving_from x0 c at chosen rows = (fold {B = ℕ × Option Candidate} (with_candidate x0 c) (at, chosen) rows).1

-- the next row, the least right side so far and its row, by one more row
abbrev pub lesser : ℕ × ℤ × Option ℕ → GridRow → ℕ × ℤ × Option ℕ
lesser s row = if int_lt row.line.right s.1 then (s.0 + 1, row.line.right, Some s.0) else (s.0 + 1, s.1, s.2)

-- the row with the least right side below `best`, the first of those
unfoldable pub least_right : ℕ → ℤ → Option ℕ → List GridRow → Option ℕ
least_right at best chosen rows = (fold {B = ℕ × ℤ × Option ℕ} lesser (at, best, chosen) rows).2

-- ---- what is due

-- a pivot; nothing, as no column can enter in phase 2; or the attempt is at its end: no column can enter while x0 is there, or no row can leave
pub data Due : Type 0 where
  Pivot : (row column : ℕ) → Due
  Optimal : Due
  Stuck : Due

abbrev pub leaving : Option ℕ → ℕ → List GridRow → Due
leaving x0 c rows = elim (leaving_from x0 c 0 None rows) [ None ↦ Stuck | Some a ↦ Pivot a.row c ]

abbrev pub due : State → Due
due s =
    elim s.phase [
      | Start ↦ elim (least_right 0 (pos 0) None s.rows) [ None ↦ Stuck | Some row ↦ Pivot row (s.columns - 1) ]
      | One ↦ elim (entering s.degenerate s.columns s.artificial) [ None ↦ Stuck | Some c ↦ leaving (Some (s.columns - 1)) c s.rows ]
      | Two ↦ elim (entering s.degenerate s.columns s.cost) [ None ↦ Optimal | Some c ↦ leaving None c s.rows ]
    ]

-- ---- the state after a pivot

abbrev pub no_row : GridRow
no_row = record { line = record { entries = []; right = pos 0 }; basic = 0; scale = pos 0 }

abbrev pub row_at : List GridRow → ℕ → GridRow
row_at rows r = slice_index_or rows r no_row

-- one more row, which is row r or is cleared in column c
abbrev pub with_cleared : ℕ → ℕ → Line → List GridRow → GridRow → Option (List GridRow)
with_cleared r c pivot made row =
    if length made == r
    then Some (made ++ row ∷ [])
    else and_then (cleared c pivot row.line) (λ line. Some (made ++ record { line = line; basic = row.basic; scale = row.scale } ∷ []))

-- the rows by the new line of row r, each other one cleared in column c
unfoldable pub others_cleared : ℕ → ℕ → Line → List GridRow → List GridRow → Option (List GridRow)
others_cleared r c pivot made rows = folded (with_cleared r c pivot) made rows

-- with the new line in row r, in which c is basic
abbrev pub with_pivot : ℕ → ℕ → Line → ℤ → List GridRow → List GridRow
with_pivot r c pivot scale rows = slice_set rows r (record { line = pivot; basic = c; scale = scale })

-- the row that x0 is taken into is multiplied by -1 before
abbrev pub factor_in : Phase → ℤ
factor_in Start = negsuc 999999999
factor_in One = pos 1000000000
factor_in Two = pos 1000000000

-- the pivot is degenerate where its row's right side is at most 10
abbrev pub is_degenerate : Phase → ℤ → Bool
is_degenerate Start right = int_le (negsuc 9) right
is_degenerate One right = int_le right (pos 10)
is_degenerate Two right = int_le right (pos 10)

abbrev pub degenerate_after : State → ℕ → ℕ
degenerate_after s r = if is_degenerate s.phase (row_at s.rows r).line.right then suc s.degenerate else 0

-- whether x0 leaves
abbrev pub x0_leaves : State → ℕ → Bool
x0_leaves s r = elim s.phase [ Start ↦ false | One ↦ (row_at s.rows r).basic == (s.columns - 1) | Two ↦ false ]

abbrev pub phase_by : Phase → Bool → Phase
phase_by Start leaves = One
phase_by One leaves = if leaves then Two else One
phase_by Two leaves = Two

abbrev pub columns_after : State → ℕ → ℕ
columns_after s r = if x0_leaves s r then s.columns - 1 else s.columns

abbrev pub after : State → ℕ → ℕ → Option State
after s r c =
    and_then (pivot_line (factor_in s.phase) c s.columns (row_at s.rows r).line)
    (λ pivot. and_then (others_cleared r c pivot [] s.rows)
    (λ rows. and_then (cleared c pivot s.cost)
    (λ cost. and_then (cleared c pivot s.artificial)
    (λ artificial. Some (record {
      rows = with_pivot r c pivot (row_at s.rows r).scale rows;
      cost = cost;
      artificial = if x0_leaves s r then no_row.line else artificial;
      phase = phase_by s.phase (x0_leaves s r);
      slack = s.slack;
      columns = columns_after s r;
      pivots = suc s.pivots;
      degenerate = degenerate_after s r;
    })))))

-- ---- all rounds

-- the state with which the rounds end, where a pivot that is due goes on as said
abbrev pub at_due : State → (ℕ → ℕ → Option State) → Due → Option State
at_due s goes_on (Pivot r c) = goes_on r c
at_due s goes_on Optimal = Some s
at_due s goes_on Stuck = None

-- the state in which no column can enter, with so many pivots at most
unfoldable pub run : ℕ → State → Option State
run zero s = at_due s (λ r c. None) (due s)
run (suc n) s = at_due s (λ r c. and_then (after s r c) (run n)) (due s)
