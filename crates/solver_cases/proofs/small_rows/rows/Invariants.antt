use Rattle.written_method.specs.Ready.{RowsAreAmong}
use Rattle.solver_cases.specs.Programs.{variables}
use Rattle.solver_cases.proofs.small_rows.rows.Given as goal

abbrev pub invariant-loop-text : goal.invariant-loop-text
invariant-loop-text l = RowsAreAmong (variables l.third) l.given.items
