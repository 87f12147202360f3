use Rattle.std.proofs.Common.{List, sym, subst}
use Rattle.row_core.specs.declared.Row.{Row}
use Rattle.written_method.specs.Ready.{RowsAreAmong}
use Rattle.solver_cases.specs.Programs.{variables}
use Rattle.solver_cases.proofs.ProgramLaws.{rows-push}
use Rattle.solver_cases.proofs.small_rows.rows.Goals as goal

pub loop-text-preserved : goal.loop-text-preserved
loop-text-preserved c =
    subst (λ (rs : List Row). RowsAreAmong (variables c.args.third) rs) (sym c.in_ok-push.ensures.items) (rows-push c.args.third c.loop-text.given.items c.in_ok-row.field-0 c.loop-text.invariant c.in_ok-row.ensures)
