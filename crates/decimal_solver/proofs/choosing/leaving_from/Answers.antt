-- One row after another.
use Rattle.std.proofs.Common.{ℕ, ◌+◌, Option, sym, ap, arith}
use Rattle.decimal_solver.proofs.Words.{Candidate, leaving_from, row_seen}
use Rattle.decimal_solver.proofs.FoldLaws.{folded-end, folded-next}
use Rattle.decimal_solver.proofs.choosing.leaving_from.Goals as goal

pub loop-row-preserved : goal.loop-row-preserved
loop-row-preserved c =
    let i = c.loop-row.row in
    folded-next row_seen c.args.rows.now i c.index-rows-row.result c.loop-row-test.true c.index-rows-row.is c.loop-row.invariant (ap {B = ℕ × Option Candidate} (λ o. (i + 1, o)) (sym c.with_row-chosen.ensures))

pub returns : goal.returns
unfolding leaving_from
returns c = sym (ap (λ (s : ℕ × Option Candidate). s.1) (folded-end row_seen c.args.rows.now c.loop-row.row (omega (arith, c.loop-row-test.false)) c.loop-row.invariant))
