-- One row after another.
use Rattle.row_problem.proofs.Common.{◌≡◌, ◌<◌, ◌≤◌, List, [], None, Some, length, get_or, sym, ap, ◌∙◌, subst, arith, rules, get_or_default, take_all, err_from_is_err_and}
use Rattle.decimal_solver.proofs.Words.{GridRow, Line, cleared, others_cleared, IsNothing, line_seen, row_seen, rows_seen}
use Rattle.decimal_solver.proofs.FoldLaws.{left-at, left-end, left-next, left-stop}
use Rattle.decimal_solver.proofs.RowLaws.{counted-set, others-at, others-pivot, others-set, written-back}
use Rattle.decimal_solver.proofs.pivoting.clear_others.Goals as goal
use Rattle.decimal_solver.proofs.pivoting.clear_others.Goals.{then-position-row+in_ok-clear, else-position-row}

pub returns-in_err-clear-clause-nothing : goal.returns-in_err-clear-clause-nothing
returns-in_err-clear-clause-nothing c =
    let pivot : Line = line_seen c.args.pivot.now in
    let items : List GridRow = c.loop-position.other-items in
    let i = c.loop-position.position in
    let row : GridRow = get_or items i c.other-item.result in
    let stop = c.in_err-clear.field-0.0 in
    let within : i < length items = omega (arith, c.loop-position.invariant.counted) in
    let here = left-at row_seen items i row within (get_or_default items i c.other-item.result row within) c.loop-position.invariant.same in
    let p = err_from_is_err_and c.from_residual.result c.from_residual.ensures.1 in
    rw (p.1, p.2)
    (subst (λ (xs : List GridRow). IsNothing (others_cleared c.args.row c.args.column pivot [] (rows_seen xs)) stop) c.deref_mut-other-items.ensures.value
    (left-stop here (cleared c.args.column pivot (line_seen row.line)) stop (others-at c.args.row c.args.column pivot items i row within None c.if-position-row.true) c.in_err-clear.ensures.nothing))

pub loop-position-preserved : goal.loop-position-preserved
loop-position-preserved c =
    let pivot : Line = line_seen c.args.pivot.now in
    let items : List GridRow = c.loop-position.other-items in
    let new : List GridRow = c.if-position-row.other-items in
    let i = c.loop-position.position in
    let row : GridRow = get_or items i c.other-item.result in
    let within : i < length items = omega (arith, c.loop-position.invariant.counted) in
    let here = left-at row_seen items i row within (get_or_default items i c.other-item.result row within) c.loop-position.invariant.same in
    elim c.if-position-row.branch [
      | then-position-row+in_ok-clear w ↦
          record {
            same = others-set items new i _ within w.other-items-is (left-next here (others-at c.args.row c.args.column pivot items i row within (Some (line_seen w.clear.new.line)) w.if-position-row.true w.in_ok-clear.ensures.value));
            counted = counted-set items new i _ w.other-items-is ∙ c.loop-position.invariant.counted;
          }
      | else-position-row w ↦
          record {
            same = others-set items new i _ within w.other-items-is (left-next here (others-pivot c.args.row c.args.column pivot items i row within (omega (arith, w.if-position-row.false))));
            counted = counted-set items new i _ w.other-items-is ∙ c.loop-position.invariant.counted;
          }
    ]

pub returns-clause-value : goal.returns-clause-value
returns-clause-value c =
    let items : List GridRow = c.loop-position.other-items in
    let i = c.loop-position.position in
    let beyond : length items ≤ i = omega (arith, c.loop-position.invariant.counted, c.loop-position-test.false) in
    let counted : length items ≡ length c.args.rows.now.items = c.loop-position.invariant.counted ∙ ap (λ (xs : List GridRow). length xs) c.deref_mut-other-items.ensures.value in
    ap (λ (xs : List GridRow). others_cleared c.args.row c.args.column (line_seen c.args.pivot.now) [] (rows_seen xs)) (sym c.deref_mut-other-items.ensures.value)
    ∙ left-end row_seen items i beyond c.loop-position.invariant.same
    ∙ ap (λ (xs : List GridRow). Some (rows_seen xs)) (take_all i items beyond ∙ sym (written-back items c.args.rows.now.items c.args.rows.now.len counted (search rules)))
