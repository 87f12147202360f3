-- One definition before another, from the last.
use Rattle.variable_elimination.proofs.Common.{◌≡◌, ℕ, ◌+◌, ◌-◌, ◌<◌, ℤ, List, length, drop, sym, ap, ◌∙◌, subst, arith, None, is_some, err_from_is_err_and, all_fit, first_wide, RowName, LiftMultiplier, column_of, numbers_of, row_name_cmp, value_in, number_at, definitions_of, AreTriangular, coefficient, defined_steps, solved_formed, cells_at, AreDone, values_in}
use Rattle.variable_elimination.proofs.CellSteps.{given-at, column-fits}
use Rattle.variable_elimination.proofs.DefinitionSteps.{some-left}
use Rattle.variable_elimination.proofs.GrowthLaws.{IsFirst-from}
use Rattle.variable_elimination.proofs.MultiplyingSteps.{triangular-drop, done-start, done-none, done-next, done-stop, one_column, nothing-left}
use Rattle.variable_elimination.proofs.multiplying.add_defined.Goals as goal
use Rattle.variable_elimination.proofs.multiplying.add_defined.Goals.{in-Some+in_ok-push_defined, in_default}

-- the position of the row that is done next
abbrev position : ℕ → ℕ → ℕ
position count done = count - 1 - done

pub loop-done-init : goal.loop-done-init
loop-done-init c = done-start c.args.with_cost c.args.rows.now c.args.defs.now (length c.args.rows.now - 0) c.args.made.now (omega arith)

pub column_of-requires : goal.column_of-requires
column_of-requires c =
    let rows = c.args.rows.now in
    let defs = c.args.defs.now in
    let v = c.in-Some.variable in
    let i = position (length rows) c.loop-done.done in
    let h : i < length defs = omega (arith, c.loop-done-test.true, c.requires.same) in
    ap is_some (c.requires.columns v (given-at defs i v h c.in-Some.is))

pub push_defined-requires-clause-positive : goal.push_defined-requires-clause-positive
push_defined-requires-clause-positive c =
    let rows = c.args.rows.now in
    let defs = c.args.defs.now in
    let i = position (length rows) c.loop-done.done in
    let r = c.index-rows-i.result in
    let h : i < length rows = omega (arith, c.loop-done-test.true) in
    (subst AreTriangular (some-left rows defs i r None h c.requires.same c.index-rows-i.is c.in-Some.variable c.in-Some.is) (triangular-drop rows defs i c.requires.triangular)).0.positive

pub push_defined-requires-clause-column_fits : goal.push_defined-requires-clause-column_fits
push_defined-requires-clause-column_fits c =
    let rows = c.args.rows.now in
    let defs = c.args.defs.now in
    let v = c.in-Some.variable in
    let i = position (length rows) c.loop-done.done in
    let h : i < length defs = omega (arith, c.loop-done-test.true, c.requires.same) in
    let whole : c.column_of.result.now ≡ column_of rows v = one_column (cells_at c.args.columns.now v) c.column_of.result.now (column_of rows v) c.column_of.ensures (c.requires.columns v (given-at defs i v h c.in-Some.is)) in
    ap (λ (es : List (RowName × ℤ)). all_fit (numbers_of es)) whole ∙ column-fits rows v

pub returns-in_err-push_defined-clause-stopped : goal.returns-in_err-push_defined-clause-stopped
returns-in_err-push_defined-clause-stopped c =
    let rows = c.args.rows.now in
    let defs = c.args.defs.now in
    let cost = c.args.with_cost in
    let first = values_in c.args.made.now in
    let done = c.loop-done.done in
    let i = position (length rows) done in
    let r = c.index-rows-i.result in
    let v = c.in-Some.variable in
    let made = c.loop-done.made in
    let column = c.column_of.result.now in
    let h : i < length rows = omega (arith, c.loop-done-test.true) in
    let inside : i < length defs = omega (arith, c.loop-done-test.true, c.requires.same) in
    let is : length rows - done ≡ i + 1 = omega (arith, c.loop-done-test.true) in
    let whole : column ≡ column_of rows v = one_column (cells_at c.args.columns.now v) column (column_of rows v) c.column_of.ensures (c.requires.columns v (given-at defs i v inside c.in-Some.is)) in
    let stop = IsFirst-from (first_wide (defined_steps cost rows (definitions_of rows defs) first)) (LiftMultiplier r.name)
    (all_fit (solved_formed row_name_cmp (value_in row_name_cmp (values_in made)) r.name column (coefficient cost v) (number_at r.entries.items v))) c.in_err-push_defined.field-0.0
    (done-stop cost rows defs first i (length rows - done) is made c.loop-done.invariant r v column (some-left rows defs i r None h c.requires.same c.index-rows-i.is v c.in-Some.is) whole)
    c.in_err-push_defined.ensures.stopped in
    let p = err_from_is_err_and c.from_residual.result c.from_residual.ensures.1 in
    rw (p.1, p.2) stop

pub loop-done-preserved : goal.loop-done-preserved
loop-done-preserved c =
    let rows = c.args.rows.now in
    let defs = c.args.defs.now in
    let cost = c.args.with_cost in
    let first = values_in c.args.made.now in
    let done = c.loop-done.done in
    let i = position (length rows) done in
    let made = c.loop-done.made in
    let h : i < length rows = omega (arith, c.loop-done-test.true) in
    let inside : i < length defs = omega (arith, c.loop-done-test.true, c.requires.same) in
    let is : length rows - done ≡ i + 1 = omega (arith, c.loop-done-test.true) in
    let next : i ≡ length rows - (done + 1) = omega (arith, c.loop-done-test.true) in
    elim c.match-defs-i.branch [
      | in-Some+in_ok-push_defined w ↦
          let r = w.index-rows-i.result in
          let v = w.in-Some.variable in
          let column = w.column_of.result.now in
          let whole : column ≡ column_of rows v = one_column (cells_at c.args.columns.now v) column (column_of rows v) w.column_of.ensures (c.requires.columns v (given-at defs i v inside w.in-Some.is)) in
          subst (λ n. AreDone cost rows (drop n rows) (drop n defs) first c.match-defs-i.made) next
          (subst (AreDone cost rows (drop i rows) (drop i defs) first) (sym w.made-is)
          (done-next cost rows defs first i (length rows - done) is made c.loop-done.invariant r v column (some-left rows defs i r None h c.requires.same w.index-rows-i.is v w.in-Some.is) whole w.push_defined.new.made
          w.in_ok-push_defined.ensures.pushed w.in_ok-push_defined.ensures.fits))
      | in_default w ↦
          subst (λ n. AreDone cost rows (drop n rows) (drop n defs) first c.match-defs-i.made) next
          (subst (AreDone cost rows (drop i rows) (drop i defs) first) (sym w.made-is) (done-none cost rows defs first i (length rows - done) is made c.loop-done.invariant (nothing-left rows defs i h c.requires.same w.in_default.is)))
    ]
