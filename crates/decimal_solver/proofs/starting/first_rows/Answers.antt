-- One row after another.
use Rattle.row_problem.proofs.Common.{◌≡◌, ℕ, refl, List, [], ◌∷◌, Some, length, sym, ap, ◌∙◌, arith, length-append, length-map, map-append, err_from_is_err_and, Inequality, inequality_of}
use Rattle.decimal_solver.proofs.Words.{GridRow, first_row, row_seen, rows_seen}
use Rattle.decimal_solver.specs.declared.starting.Layout.{Layout}
use Rattle.decimal_solver.proofs.FoldLaws.{left-at, left-end, left-next, left-stop}
use Rattle.decimal_solver.proofs.starting.first_rows.Goals as goal

-- the next row is the one after those that were made
numbered : (layout : Layout) (made : List GridRow) (i : ℕ) (row : Inequality) → length made ≡ i → first_row layout.places.items layout.width layout.rows (length (rows_seen made)) row ≡ first_row layout.places.items layout.width layout.rows i row
numbered layout made i row e = ap (λ n. first_row layout.places.items layout.width layout.rows n row) (length-map made row_seen ∙ e)

pub returns-in_err-first_row-clause-nothing : goal.returns-in_err-first_row-clause-nothing
returns-in_err-first_row-clause-nothing c =
    let i = c.loop-position.position in
    let row = c.index-rows-position.result in
    let here = left-at inequality_of c.args.rows.now i row c.loop-position-test.true c.index-rows-position.is c.loop-position.invariant.same in
    let same = numbered c.args.layout.now c.loop-position.made.items i (inequality_of row) c.loop-position.invariant.counted in
    let q = err_from_is_err_and c.from_residual-in_err-first_row.result c.from_residual-in_err-first_row.ensures.1 in
    rw (q.1, q.2) (left-stop here _ c.in_err-first_row.field-0.0 (λ h. rw (same ∙ h) refl) c.in_err-first_row.ensures.nothing)

pub loop-position-preserved : goal.loop-position-preserved
loop-position-preserved c =
    let i = c.loop-position.position in
    let row = c.index-rows-position.result in
    let made : List GridRow = c.loop-position.made.items in
    let r : GridRow = c.in_ok-first_row.field-0 in
    let here = left-at inequality_of c.args.rows.now i row c.loop-position-test.true c.index-rows-position.is c.loop-position.invariant.same in
    let same = numbered c.args.layout.now made i (inequality_of row) c.loop-position.invariant.counted in
    record {
      same = left-next here (rw (same ∙ c.in_ok-first_row.ensures.value) (ap Some (sym (ap (λ (xs : List GridRow). rows_seen xs) c.in_ok-push.ensures.items ∙ map-append row_seen made (r ∷ [])))));
      counted = omega (arith, c.loop-position.invariant.counted, ap (λ (xs : List GridRow). length xs) c.in_ok-push.ensures.items, length-append {A = GridRow});
    }

pub returns-clause-value : goal.returns-clause-value
returns-clause-value c = left-end inequality_of c.args.rows.now c.loop-position.position (omega (arith, c.loop-position-test.false)) c.loop-position.invariant.same
