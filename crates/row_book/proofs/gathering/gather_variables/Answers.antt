use Rattle.row_book.proofs.Common.{◌++◌, entry_variables}
use Rattle.row_book.proofs.TallyLaws.{sorted-same}
use Rattle.row_book.proofs.gathering.gather_variables.Goals as goal

pub returns-then-len-before : goal.returns-then-len-before
returns-then-len-before c =
    sorted-same c.sort_variables.result c.add_by_kind.new.vars.items c.sort_variables.new.vars.items (c.args.vars.now.items ++ entry_variables c.args.rows.now) c.in-Ok.ensures c.sort_variables.ensures
