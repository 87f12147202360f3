-- One column after another.
use Rattle.simplex_core.proofs.Common.{◌≤◌, List, length, ap, arith, length-append, Frac, column_lift}
use Rattle.simplex_core.proofs.ValueLaws.{columns-all, columns-push}
use Rattle.simplex_core.proofs.columns.column_values.Goals as goal

pub loop-column-preserved : goal.loop-column-preserved
loop-column-preserved c =
    let t = c.args.tableau.now.tableau in
    let column = c.loop-column.column in
    record {
      many = omega (arith, c.loop-column.invariant.many, ap (λ (vs : List Frac). length vs) c.in_ok-push.ensures.items, length-append {A = Frac});
      values = columns-push (column_lift t c.args.growing) column c.loop-column.values.items c.push.new.self.items c.column_value.result c.loop-column.invariant.many c.in_ok-push.ensures.items c.loop-column.invariant.values c.column_value.ensures;
    }

pub returns : goal.returns
returns c =
    let t = c.args.tableau.now.tableau in
    let end : t.columns ≤ c.loop-column.column = omega (arith, c.columns-column-end.ensures.count, c.loop-column-test.false) in
    columns-all t c.in_ok-rows.rows.items c.args.growing c.loop-column.values.items c.loop-column.column c.loop-column.invariant.many end c.loop-column.invariant.values c.in_ok-rows.ensures.many c.in_ok-rows.ensures.rows c.requires.growing
