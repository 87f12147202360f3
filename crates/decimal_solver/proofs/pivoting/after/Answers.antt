-- The parts of a pivot, one after another.
use Rattle.row_problem.proofs.Common.{◌≡◌, ◌<◌, ◌+◌, ◌-◌, ℕ, ℤ, suc, [], List, Option, None, Some, if◌then◌else◌, length, get_or, sym, ap, ap₂, ◌∙◌, arith, refl, to_z, of_z, w128, get_or-map, length-map, err_from_is_err_and, back_in_range}
use Rattle.decimal_solver.proofs.Words.{Entry, GridRow, Line, cleared, pivot_line, after, columns_after, factor_in, no_row, others_cleared, phase_by, row_at, x0_leaves, Phase, Start, One, Two, entries_seen, line_seen, phase_seen, row_seen, rows_seen, state_seen}
use Rattle.decimal_solver.specs.declared.states.State.{State}
use Rattle.decimal_solver.specs.States as states
use Rattle.decimal_solver.proofs.Nothing.{nothing-later}
use Rattle.decimal_solver.proofs.RunLaws.{after-beyond, rows-pivot, same-state}
use Rattle.decimal_solver.proofs.pivoting.after.Goals as goal
use Rattle.decimal_solver.proofs.pivoting.after.Goals.{then-leaves, else-leaves, then-leaves-2, else-leaves-2}

factor-back : (p : Phase) → to_z w128 (of_z w128 (factor_in p)) ≡ factor_in p
factor-back Start = refl
factor-back One = refl
factor-back Two = refl

-- the row as the definitions find it
row-is : (rows : List GridRow) (r : ℕ) (row : GridRow) → r < length rows → row ≡ get_or rows r row → row_at (rows_seen rows) r ≡ row_seen row
row-is rows r row h e = get_or-map row_seen rows r row no_row h ∙ ap row_seen (sym e)

pub returns-then-row-len-clause-nothing : goal.returns-then-row-len-clause-nothing
returns-then-row-len-clause-nothing c =
    after-beyond (state_seen c.args.state) c.args.row c.args.column (omega (arith, length-map c.args.state.rows.items row_seen, c.len.ensures, c.if-row-len.true))

-- and the new line of that row
pivot-found : (state : State) (r k : ℕ) (row : GridRow) (f : ℤ) (o : Option Line) → r < length state.rows.items → row ≡ get_or state.rows.items r row → f ≡ factor_in (phase_seen state.phase)
    → pivot_line (to_z w128 (of_z w128 f)) k state.columns (line_seen row.line) ≡ o → pivot_line (factor_in (phase_seen state.phase)) k state.columns (row_at (rows_seen state.rows.items) r).line ≡ o
pivot-found state r k row f o within is e h =
    ap₂ (λ f (x : states.GridRow). pivot_line f k state.columns x.line) (sym (ap (λ z. to_z w128 (of_z w128 z)) e ∙ factor-back (phase_seen state.phase))) (row-is state.rows.items r row within is) ∙ h

pub returns-in_err-pivot-clause-nothing : goal.returns-in_err-pivot-clause-nothing
returns-in_err-pivot-clause-nothing c =
    let r = c.args.row in
    let k = c.args.column in
    let q = err_from_is_err_and c.from_residual.result c.from_residual.ensures.1 in
    rw (q.1, q.2)
    (nothing-later _ (after (state_seen c.args.state) r k) c.in_err-pivot.field-0.0
    (λ h. rw (pivot-found c.args.state r k c.index.result.now c.factor_in.result None (omega (arith, c.len.ensures, c.if-row-len.false)) c.index.ensures c.factor_in.ensures h) refl) c.in_err-pivot.ensures.nothing)

pub returns-in_err-clear_others-clause-nothing : goal.returns-in_err-clear_others-clause-nothing
returns-in_err-clear_others-clause-nothing c =
    let s : states.State = state_seen c.args.state in
    let r = c.args.row in
    let k = c.args.column in
    let pivot : Line = line_seen c.in_ok-pivot.pivot in
    let pivot_is = pivot-found c.args.state r k c.index.result.now c.factor_in.result (Some pivot) (omega (arith, c.len.ensures, c.if-row-len.false)) c.index.ensures c.factor_in.ensures c.in_ok-pivot.ensures.value in
    let q = err_from_is_err_and c.from_residual-in_err-clear_others.result c.from_residual-in_err-clear_others.ensures.1 in
    rw (q.1, q.2) (nothing-later (others_cleared r k pivot [] s.rows) (after s r k) c.in_err-clear_others.field-0.0 (λ h. rw (pivot_is, h) refl) c.in_err-clear_others.ensures.nothing)

pub returns-in_err-clear-clause-nothing : goal.returns-in_err-clear-clause-nothing
returns-in_err-clear-clause-nothing c =
    let s : states.State = state_seen c.args.state in
    let r = c.args.row in
    let k = c.args.column in
    let pivot : Line = line_seen c.in_ok-pivot.pivot in
    let pivot_is = pivot-found c.args.state r k c.index.result.now c.factor_in.result (Some pivot) (omega (arith, c.len.ensures, c.if-row-len.false)) c.index.ensures c.factor_in.ensures c.in_ok-pivot.ensures.value in
    let q = err_from_is_err_and c.from_residual-in_err-clear.result c.from_residual-in_err-clear.ensures.1 in
    rw (q.1, q.2) (nothing-later (cleared k pivot s.cost) (after s r k) c.in_err-clear.field-0.0 (λ h. rw (pivot_is, c.in_ok-clear_others.ensures.value, h) refl) c.in_err-clear.ensures.nothing)

pub returns-in_err-clear-2-clause-nothing : goal.returns-in_err-clear-2-clause-nothing
returns-in_err-clear-2-clause-nothing c =
    let s : states.State = state_seen c.args.state in
    let r = c.args.row in
    let k = c.args.column in
    let pivot : Line = line_seen c.in_ok-pivot.pivot in
    let pivot_is = pivot-found c.args.state r k c.index.result.now c.factor_in.result (Some pivot) (omega (arith, c.len.ensures, c.if-row-len.false)) c.index.ensures c.factor_in.ensures c.in_ok-pivot.ensures.value in
    let q = err_from_is_err_and c.from_residual-in_err-clear-2.result c.from_residual-in_err-clear-2.ensures.1 in
    rw (q.1, q.2)
    (nothing-later (cleared k pivot s.artificial) (after s r k) c.in_err-clear-2.field-0.0 (λ h. rw (pivot_is, c.in_ok-clear_others.ensures.value, c.in_ok-clear.ensures.value, h) refl) c.in_err-clear-2.ensures.nothing)

next : (n : ℕ) → n + 1 ≡ suc n
next n = omega arith

pub returns-clause-value : goal.returns-clause-value
returns-clause-value c =
    let s : states.State = state_seen c.args.state in
    let items : List GridRow = c.args.state.rows.items in
    let r = c.args.row in
    let k = c.args.column in
    let pivot : Line = line_seen c.in_ok-pivot.pivot in
    let artificial : Line = line_seen c.clear-2.new.line in
    let within : r < length items = omega (arith, c.len.ensures, c.if-row-len.false) in
    let pivot_is = pivot-found c.args.state r k c.index.result.now c.factor_in.result (Some pivot) within c.index.ensures c.factor_in.ensures c.in_ok-pivot.ensures.value in
    let scale : to_z w128 (of_z w128 c.index-2.result.now.scale) ≡ (row_at s.rows r).scale =
    back_in_range c.index-2.result.now.scale c.index-2.result.now.scale_fits ∙ ap (λ (x : states.GridRow). x.scale) (sym (row-is items r c.index-2.result.now within c.index-2.ensures)) in
    let leaves : c.x0_leaves-leaves.result ≡ x0_leaves s r = c.x0_leaves-leaves.ensures in
    let new_artificial : line_seen c.if-leaves.artificial ≡ (if x0_leaves s r then no_row.line else artificial) = elim c.if-leaves.branch [
      | then-leaves w ↦
          ap line_seen w.artificial-is
          ∙ ap₂ {C = Line} (λ (es : List Entry) z. record { entries = entries_seen es; right = z }) w.no_line-artificial.ensures.entries w.no_line-artificial.ensures.right
          ∙ ap (λ t. if t then no_row.line else artificial) (sym (sym leaves ∙ w.if-leaves.true))
      | else-leaves w ↦
          ap line_seen w.artificial-is ∙ ap (λ t. if t then no_row.line else artificial) (sym (sym leaves ∙ w.if-leaves.false))
    ] in
    let new_columns : c.if-leaves-2.result ≡ columns_after s r = elim c.if-leaves-2.branch [
      | then-leaves-2 w ↦ w.result-is ∙ w.saturating_sub.ensures ∙ ap (λ t. if t then s.columns - 1 else s.columns) (sym (sym leaves ∙ w.if-leaves-2.true))
      | else-leaves-2 w ↦ w.result-is ∙ ap (λ t. if t then s.columns - 1 else s.columns) (sym (sym leaves ∙ w.if-leaves-2.false))
    ] in
    rw (pivot_is, c.in_ok-clear_others.ensures.value, c.in_ok-clear.ensures.value, c.in_ok-clear-2.ensures.value)
    (same-state _ _ _ _ _ _ _ _ _ _ _ _ _ _
    (rows-pivot c.clear_others.new.rows.items r _ k pivot (row_at s.rows r).scale (ap {B = states.GridRow} (λ z. record { line = pivot; basic = k; scale = z }) scale))
    new_artificial
    (c.phase_after.ensures ∙ ap (λ t. phase_by s.phase t) leaves)
    new_columns
    (next c.args.state.pivots)
    c.degenerate_after-degenerate.ensures.value)
