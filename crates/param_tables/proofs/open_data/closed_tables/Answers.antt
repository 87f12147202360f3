use Rattle.param_tables.proofs.Common.{◌++◌, ◌∷◌, [], sym, subst}
use Rattle.param_tables.specs.OpenTables.{AreClosed}
use Rattle.param_tables.proofs.ClosedLaws.{closed_more}
use Rattle.param_tables.proofs.open_data.closed_tables.Goals as goal

pub loop-table-preserved : goal.loop-table-preserved
loop-table-preserved c =
    subst (AreClosed (c.loop-table.yielded ++ c.in-Some.table ∷ [])) (sym c.in_ok-push.ensures.items)
    (closed_more c.loop-table.yielded c.loop-table.tables.items c.in-Some.table c.in_ok-close.field-0 c.loop-table.invariant c.in_ok-close.ensures)
