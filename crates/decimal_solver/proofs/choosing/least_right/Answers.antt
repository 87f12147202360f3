-- One right side after another.
use Rattle.row_problem.proofs.Common.{◌≡◌, ◌+◌, ℕ, ℤ, Bool, Option, sym, ap, ap₂, ◌∙◌, arith, to_z, of_z, if◌then◌else◌, w128, int_lt, Some, back_in_range}
use Rattle.decimal_solver.proofs.Words.{least_right, row_seen}
use Rattle.decimal_solver.proofs.FoldLaws.{folded-end, folded-next}
use Rattle.decimal_solver.proofs.choosing.least_right.Goals as goal
use Rattle.decimal_solver.proofs.choosing.least_right.Goals.{then-tested-best, else-tested-best}

pub loop-row-preserved : goal.loop-row-preserved
loop-row-preserved c =
    let i = c.loop-row.row in
    let row = c.index-rows-row.result in
    let best : ℤ = to_z w128 c.loop-row.best-bits in
    let chosen = c.loop-row.chosen in
    let right : ℤ = row.line.right in
    let back : to_z w128 (of_z w128 right) ≡ right = back_in_range right row.line.right_fits in
    let next = folded-next row_seen c.args.rows.now i row c.loop-row-test.true c.index-rows-row.is c.loop-row.invariant in
    let by_test = λ (t : Bool). if t then (i + 1, right, Some i) else (i + 1, best, chosen) in
    elim c.if-tested-best.branch [
      | then-tested-best w ↦ next (ap by_test (ap (λ y. int_lt y best) (sym back) ∙ w.if-tested-best.true) ∙ ap₂ {C = ℕ × ℤ × Option ℕ} (λ y o. (i + 1, y, o)) (sym (w.best-is ∙ back)) (sym w.chosen-is))
      | else-tested-best w ↦ next (ap by_test (ap (λ y. int_lt y best) (sym back) ∙ w.if-tested-best.false) ∙ ap₂ {C = ℕ × ℤ × Option ℕ} (λ y o. (i + 1, y, o)) (sym w.best-is) (sym w.chosen-is))
    ]

pub returns : goal.returns
unfolding least_right
returns c = sym (ap (λ (s : ℕ × ℤ × Option ℕ). s.2) (folded-end row_seen c.args.rows.now c.loop-row.row (omega (arith, c.loop-row-test.false)) c.loop-row.invariant))
