-- Year by year.
use Rattle.plan_compare.proofs.Common.{ℕ, ◌+◌, Option, ℤ, map, length, ap, ◌∙◌, arith, members, year, sum_from, sum_of_two, side_of, shown_in}
use Rattle.plan_compare.proofs.RangeLaws.{from_to, sum_next}
use Rattle.plan_compare.proofs.sums.sum_of.Goals as goal

pub loop-year-preserved : goal.loop-year-preserved
loop-year-preserved c =
    let number : ℕ → Option ℤ = shown_in (side_of c.args.side) c.args.var in
    let end : ℕ = length (members c.args.side.sets.now year) in
    ap (λ (sum : Option ℤ). sum_from sum (map number (from_to (c.loop-year.year + 1) end))) (c.sum_of_two-sum.ensures ∙ ap (sum_of_two c.loop-year.sum) c.shown_in.ensures)
    ∙ sum_next number c.loop-year.year end c.loop-year.sum _ (omega (arith, c.loop-year-test.true, c.count-year-end.ensures.count)) c.loop-year.invariant
