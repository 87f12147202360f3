-- One row after another.
use Rattle.row_problem.proofs.Common.{◌≡◌, pos, List, map, replicate, sym, ap, ◌∙◌, arith, to_z, of_z, w128, fold, Frac, lowest, value_of, back_in_range}
use Rattle.decimal_solver.proofs.Words.{column_values, with_basic, unit, clipped, row_seen, rows_seen}
use Rattle.decimal_solver.proofs.EndLaws.{map-replicate, written, written-past}
use Rattle.decimal_solver.proofs.FoldLaws.{folded-end, folded-next}
use Rattle.decimal_solver.proofs.ending.column_values.Goals as goal
use Rattle.decimal_solver.proofs.ending.column_values.Goals.{then-row-len, else-row-len}

pub loop-row-init : goal.loop-row-init
unfolding column_values
loop-row-init c =
    let all = c.in_ok-values.ensures.items_if_clones_equal (λ y h. h) in
    record { same = ap (λ vs. fold with_basic vs (rows_seen c.args.rows.now)) (sym (ap (λ (vs : List Frac). map value_of vs) all ∙ map-replicate value_of c.args.columns c.fraction.result ∙ ap (λ x. replicate c.args.columns x) c.fraction.ensures)) }

pub loop-row-preserved : goal.loop-row-preserved
loop-row-preserved c =
    let row = c.row-item.result in
    let items : List Frac = c.loop-row.values.items in
    let next = folded-next row_seen c.args.rows.now c.loop-row.row-index row c.loop-row-test.true c.row-item.is c.loop-row.invariant in
    let right : to_z w128 (of_z w128 row.line.right) ≡ row.line.right = back_in_range row.line.right row.line.right_fits in
    elim c.if-row-len.branch [
      | then-row-len w ↦
          let clipped_is : to_z w128 (of_z w128 w.clipped.result) ≡ clipped row.line.right = back_in_range w.clipped.result w.clipped.ensures.range ∙ w.clipped.ensures.value ∙ ap clipped right in
          let value_is : value_of w.ratio.result ≡ lowest (clipped row.line.right) (pos unit) = w.ratio.ensures ∙ ap (λ z. lowest z (pos unit)) clipped_is in
          next (written value_of items row.basic w.ratio.result _ value_is ∙ ap (λ v. map value_of v.items) (sym w.values-is))
      | else-row-len w ↦
          next (written-past value_of items row.basic (lowest (clipped row.line.right) (pos unit)) (omega (arith, c.len.ensures, w.if-row-len.false)) ∙ ap (λ v. map value_of v.items) (sym w.values-is))
    ]

pub returns : goal.returns
returns c = sym (folded-end row_seen c.args.rows.now c.loop-row.row-index (omega (arith, c.loop-row-test.false)) c.loop-row.invariant)
