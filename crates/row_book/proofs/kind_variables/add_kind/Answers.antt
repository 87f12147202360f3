use Rattle.row_book.proofs.Common.{◌≡◌, ◌+◌, ◌++◌, List, drop, Row, Var, variables_of, entry_variables, is_of_kind, next_kind}
use Rattle.std.specs.Prelude.{None, filter}
use Rattle.row_book.proofs.KindVariableLaws.{added-more, next-more, split}
use Rattle.row_book.proofs.kind_variables.add_kind.Goals as goal

pub loop-row-preserved : goal.loop-row-preserved
loop-row-preserved c =
    let rows : List Row = c.args.rows.now in
    let k = c.loop-row.row-index in
    let row : Row = c.row-item.result in
    let here : List Var = variables_of row.entries.items in
    let rest : List Var = entry_variables (drop (k + 1) rows) in
    let parts : entry_variables (drop k rows) ≡ here ++ rest = split rows k row c.loop-row-test.true c.row-item.is in
    record {
      added = added-more (is_of_kind c.args.kind) c.loop-row.vars.items c.add_kind_of_row.new.vars.items here rest (entry_variables (drop k rows)) (c.args.vars.now.items ++ filter (is_of_kind c.args.kind) (entry_variables rows)) c.in_ok-next.ensures.added parts c.loop-row.invariant.added;
      next = next-more c.args.kind c.loop-row.next c.in_ok-next.next here rest (entry_variables (drop k rows)) (next_kind c.args.kind None (entry_variables rows)) c.in_ok-next.ensures.next parts c.loop-row.invariant.next;
    }
