-- The entries of one kind of variable, which are passed through variable by variable. Only private functions cite these.
use Rattle.std.specs.Prelude.{◌≡◌, ◌≤◌, List, drop, filter, length}
use Rattle.std.specs.List.{AllByRecursion}
use Rattle.row_core.specs.declared.Var.{Var}
use Rattle.row_core.specs.Contents.{RowContents}
use Rattle.mps_writer.specs.Entries.{Rises, entries_of, is_of}
use Rattle.mps_writer.specs.declared.sent_columns.Gathered.{Gathered}

-- the entries that aren't passed by have all entries of the rows at each of these variables that is of their kind, in the order of rows
pub record Serves (rows : List RowContents) (gathered : Gathered) (vars : List Var) : Type 0 where
  pub within : gathered.passed ≤ length gathered.entries.items
  pub rising : Rises (drop gathered.passed gathered.entries.items)
  pub each : AllByRecursion (λ w. w.kind ≡ gathered.kind → filter (is_of w) (drop gathered.passed gathered.entries.items) ≡ filter (is_of w) (entries_of rows)) vars
