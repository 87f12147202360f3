-- One entry after another, up to the column.
use Rattle.row_problem.proofs.Common.{refl, arith, drop_all, drop_at, back_in_range}
use Rattle.decimal_solver.specs.Lines.{entry_in}
use Rattle.decimal_solver.proofs.LineLaws.{nat_lt-no, nat_lt-yes, same-no, same-yes}
use Rattle.decimal_solver.proofs.lines.entry_in.Goals as goal

pub returns-then-entry-column-2-clause-value : goal.returns-then-entry-column-2-clause-value
unfolding entry_in
returns-then-entry-column-2-clause-value c =
    let e = c.entry-item.result in
    rw (c.loop-entry.invariant, drop_at c.args.entries.now c.loop-entry.entry-index c.entry-item.result c.loop-entry-test.true c.entry-item.is, nat_lt-no e.column c.args.column c.if-entry-column.true, same-yes e.column c.args.column c.if-entry-column-2.true) (back_in_range e.number e.fits)

pub returns-else-entry-column-2-clause-value : goal.returns-else-entry-column-2-clause-value
unfolding entry_in
returns-else-entry-column-2-clause-value c =
    let e = c.entry-item.result in
    rw (c.loop-entry.invariant, drop_at c.args.entries.now c.loop-entry.entry-index c.entry-item.result c.loop-entry-test.true c.entry-item.is, nat_lt-no e.column c.args.column c.if-entry-column.true, same-no e.column c.args.column c.if-entry-column-2.false) refl

pub loop-entry-preserved : goal.loop-entry-preserved
unfolding entry_in
loop-entry-preserved c =
    rw (c.loop-entry.invariant, drop_at c.args.entries.now c.loop-entry.entry-index c.entry-item.result c.loop-entry-test.true c.entry-item.is, nat_lt-yes c.entry-item.result.column c.args.column (omega (arith, c.if-entry-column.false))) refl

pub returns-clause-value : goal.returns-clause-value
unfolding entry_in
returns-clause-value c = rw (c.loop-entry.invariant, drop_all c.loop-entry.entry-index c.args.entries.now (omega (arith, c.loop-entry-test.false))) refl
