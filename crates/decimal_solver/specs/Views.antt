-- The code's values as those of the definitions.
use Rattle.std.specs.Prelude.{◌≡◌, ℕ, ◌+◌, ◌-◌, ◌<◌, ℤ, List, drop, length, map, Option, Some, None, ⊤}
use Rattle.decimal_solver.specs.declared.states.Entry.{Entry}
use Rattle.decimal_solver.specs.declared.states.Number.{Number}
use Rattle.decimal_solver.specs.declared.states.Line.{Line}
use Rattle.decimal_solver.specs.declared.states.GridRow.{GridRow}
use Rattle.decimal_solver.specs.declared.states.Phase.{Phase}
use Rattle.decimal_solver.specs.declared.states.Phase.TheVariants as phases
use Rattle.decimal_solver.specs.declared.states.Due.{Due}
use Rattle.decimal_solver.specs.declared.states.Due.TheVariants as dues
use Rattle.decimal_solver.specs.declared.states.State.{State}
use Rattle.row_problem.specs.Prelude.{NoAnswer, Nothing, Budget, Width, Memory, value_of}
use Rattle.decimal_solver.specs.declared.choosing.Candidate.{Candidate}
use Rattle.decimal_solver.specs.declared.states.Merging.{Merging}
use Rattle.decimal_solver.specs.Lines.{Entries, merged, with_entry}
use Rattle.decimal_solver.specs.Lines as lines
use Rattle.decimal_solver.specs.Rounds as rounds
use Rattle.decimal_solver.specs.States as states

-- the definition gives nothing; out of memory has no cause
abbrev pub IsNothing : {A : Type 0} → Option A → NoAnswer → Type 0
IsNothing given Nothing = given ≡ None
IsNothing given Budget = given ≡ None
IsNothing given (Width place) = given ≡ None
IsNothing given Memory = ⊤

abbrev pub entry_seen : Entry → ℕ × ℤ
entry_seen e = (e.column, e.number)

abbrev pub entries_seen : List Entry → Entries
entries_seen es = map entry_seen es

abbrev pub number_seen : Number → ℤ
number_seen n = n.value

abbrev pub line_seen : Line → lines.Line
line_seen l = record { entries = entries_seen l.entries.items; right = l.right }

abbrev pub row_seen : GridRow → states.GridRow
row_seen r = record { line = line_seen r.line; basic = r.basic; scale = r.scale }

abbrev pub rows_seen : List GridRow → List states.GridRow
rows_seen rows = map row_seen rows

abbrev pub phase_seen : Phase → states.Phase
phase_seen phases.Start = states.Start
phase_seen phases.One = states.One
phase_seen phases.Two = states.Two

abbrev pub due_seen : Due → rounds.Due
due_seen (dues.Pivot row column) = rounds.Pivot row column
due_seen dues.Optimal = rounds.Optimal
due_seen dues.Stuck = rounds.Stuck

abbrev pub candidate_seen : Candidate → rounds.Candidate
candidate_seen a = record { row = a.row; quotient = value_of a.quotient; rank = a.rank }

abbrev pub chosen_seen : Option Candidate → Option rounds.Candidate
chosen_seen None = None
chosen_seen (Some a) = Some (candidate_seen a)

abbrev pub state_seen : State → states.State
state_seen s = record {
  rows = rows_seen s.rows.items;
  cost = line_seen s.cost;
  artificial = line_seen s.artificial;
  phase = phase_seen s.phase;
  slack = s.slack;
  columns = s.columns;
  pivots = s.pivots;
  degenerate = s.degenerate;
}

-- ---- two lines that are merged

pub record IsNextMerging (q : ℤ) (line : List Entry) (left : ℕ) (pivot : List Entry) (right : ℕ) (next : Merging) : Type 0 where
  pub same : (made : Entries) → merged q made (entries_seen (drop left line)) (entries_seen (drop right pivot)) ≡ merged q (with_entry made next.column next.number) (entries_seen (drop next.left line)) (entries_seen (drop next.right pivot))
  pub fewer : (length line - next.left) + (length pivot - next.right) < (length line - left) + (length pivot - right)

-- the next entry, and what is left of the two lines after it; or nothing is left
abbrev pub IsMerging : ℤ → List Entry → ℕ → List Entry → ℕ → Option Merging → Type 0
IsMerging q line left pivot right None = (made : Entries) → merged q made (entries_seen (drop left line)) (entries_seen (drop right pivot)) ≡ Some made
IsMerging q line left pivot right (Some next) = IsNextMerging q line left pivot right next

-- a number of the next entry doesn't fit; out of memory has no cause
abbrev pub IsNoMerge : ℤ → List Entry → ℕ → List Entry → ℕ → NoAnswer → Type 0
IsNoMerge q line left pivot right stop = (made : Entries) → IsNothing (merged q made (entries_seen (drop left line)) (entries_seen (drop right pivot))) stop
