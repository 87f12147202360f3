-- What the code's values mean in the written method.
use Rattle.std.specs.Prelude.{ℕ, ◌-◌, ◌==◌, nat_lt, pos, Option, Some, None, if◌then◌else◌}
use Rattle.int_tableau.specs.Counted.{Counted, pivoted_once, shortened}
use Rattle.written_method.specs.Choices as choices
use Rattle.written_method.specs.Choices.{first_positive_from, greatest_from, leaving_from}
use Rattle.written_method.specs.Rounds as rounds
use Rattle.written_method.specs.Runs as runs
use Rattle.written_method.specs.Tableaus.{Tableau, basic_of, line_of}
use Rattle.simplex_core.specs.declared.candidate.Candidate.{Candidate}
use Rattle.simplex_core.specs.declared.progress.Phase.{Phase}
use Rattle.simplex_core.specs.declared.progress.Phase.TheVariants as phases
use Rattle.simplex_core.specs.declared.progress.Progress.{Progress}
use Rattle.simplex_core.specs.declared.progress.Due.{Due}
use Rattle.simplex_core.specs.declared.progress.Due.TheVariants as dues
use Rattle.simplex_core.specs.declared.running.Finish.{Finish}
use Rattle.simplex_core.specs.declared.running.Finish.TheVariants as finishes

abbrev pub candidate_seen : Candidate → choices.Candidate
candidate_seen a = record { row = a.row; right = a.right; entry = a.entry; rank = a.rank }

abbrev pub chosen_seen : Option Candidate → Option choices.Candidate
chosen_seen None = None
chosen_seen (Some a) = Some (candidate_seen a)

-- the row of a candidate, if there is one
abbrev pub row_of_candidate : Option choices.Candidate → Option ℕ
row_of_candidate None = None
row_of_candidate (Some a) = Some a.row

abbrev pub phase_seen : Phase → rounds.Phase
phase_seen phases.Start = rounds.Start
phase_seen phases.One = rounds.One
phase_seen phases.Two = rounds.Two

abbrev pub state_seen : Progress → rounds.State
state_seen p = record { tableau = p.tableau.tableau; phase = phase_seen p.phase; pivots = p.tableau.pivots; degenerate = p.degenerate }

abbrev pub due_seen : Due → rounds.Due
due_seen (dues.Pivot row column) = rounds.Pivot row column
due_seen dues.NoColumn = rounds.NoColumn
due_seen (dues.NoRow column) = rounds.NoRow column

abbrev pub ending_seen : Finish → runs.End
ending_seen finishes.Optimal = runs.Optimal
ending_seen finishes.Infeasible = runs.Infeasible
ending_seen (finishes.Unbounded column) = runs.Unbounded column
ending_seen finishes.PivotDue = runs.PivotDue

-- the column that enters by the entries of a row
abbrev pub entering_by : Tableau → ℕ → ℕ → Option ℕ
entering_by t row degenerate =
    if nat_lt degenerate 50 then greatest_from 0 (pos 0) None (line_of t row).entries else first_positive_from 0 (line_of t row).entries

-- a round by the entries of a row
abbrev pub round_by : Tableau → ℕ → Option ℕ → ℕ → rounds.Due
round_by t row x0 degenerate =
    elim (entering_by t row degenerate) [
      | None ↦ rounds.NoColumn
      | Some c ↦ elim (leaving_from x0 c 0 None t.lines t.basics) [ None ↦ rounds.NoRow c | Some a ↦ rounds.Pivot a.row c ]
    ]

-- after a pivot while x0 is basic: where x0 leaves, it is dropped
abbrev pub left_tableau : ℕ → ℕ → Counted → Counted
left_tableau r c t = if basic_of t.tableau r == (t.tableau.columns - 1) then shortened (pivoted_once r c t) else pivoted_once r c t

abbrev pub left_phase : ℕ → Tableau → rounds.Phase
left_phase r t = if basic_of t r == (t.columns - 1) then rounds.Two else rounds.One
