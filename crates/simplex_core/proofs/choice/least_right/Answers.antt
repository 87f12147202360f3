-- One right side after another.
use Rattle.simplex_core.proofs.Common.{◌≡◌, ◌+◌, ◌<◌, ℤ, length, drop, sym, ap₂, ◌∙◌, subst, arith, to_z, of_z, w128, InRange, back_in_range, least_right_from, right_sides, rows_of}
use Rattle.simplex_core.proofs.ChoiceLaws.{least-takes, least-passes}
use Rattle.simplex_core.proofs.choice.least_right.Goals as goal
use Rattle.simplex_core.proofs.choice.least_right.Goals.{then-right-best, else-right-best}

pub loop-row-preserved : goal.loop-row-preserved
loop-row-preserved c =
    let t = c.args.tableau.now.tableau in
    let row = c.loop-row.row in
    let best : ℤ = to_z w128 c.loop-row.best-bits in
    let z : ℤ = to_z w128 (of_z w128 c.rhs-right.result) in
    let in_rows : row < rows_of t = omega (arith, c.rows-row-end.ensures.count) in
    let lines : rows_of t < length t.lines = omega (arith, c.rows-row-end.ensures.count, c.rows-row-end.ensures.line_of_z) in
    let fits : InRange c.rhs-right.result = subst InRange (sym c.rhs-right.ensures.value) c.rhs-right.ensures.range in
    let back : z ≡ c.rhs-right.result = back_in_range c.rhs-right.result fits in
    elim c.if-right-best.branch [
      | then-right-best w ↦ record {
        chosen =
            c.loop-row.invariant.chosen
            ∙ least-takes t row c.loop-row.chosen best z lines in_rows (back ∙ c.rhs-right.ensures.value) w.if-right-best.true
            ∙ ap₂ (λ k y. least_right_from (row + 1) k y (drop (row + 1) (right_sides t))) (sym w.chosen-is) (sym w.best-is);
        range = subst InRange (sym (w.best-is ∙ back)) fits;
      }
      | else-right-best w ↦ record {
        chosen =
            c.loop-row.invariant.chosen
            ∙ least-passes t row c.loop-row.chosen best z lines in_rows (back ∙ c.rhs-right.ensures.value) w.if-right-best.false
            ∙ ap₂ (λ k y. least_right_from (row + 1) k y (drop (row + 1) (right_sides t))) (sym w.chosen-is) (sym w.best-is);
        range = subst InRange (sym w.best-is) c.loop-row.invariant.range;
      }
    ]
