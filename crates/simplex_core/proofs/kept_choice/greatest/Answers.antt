-- From one entry other than 0 to the next.
use Rattle.simplex_core.proofs.Common.{◌≡◌, ◌≢◌, ◌+◌, ◌<◌, ℕ, suc, ℤ, pos, Option, Some, List, length, drop, set, sym, ap, ap₂, ◌∙◌, subst, arith, to_z, of_z, if◌then◌else◌, w128, int_lt, ◌≤ℤ◌, IfSome, ints, InRange, back_in_range, greatest_from, length-set, Tableau, line_of, rows_of, IsKept}
use Rattle.simplex_core.proofs.KeptChoiceLaws.{without-number, without-zeros, without-rest, without-all}
use Rattle.simplex_core.proofs.ChoiceLaws.{AreZeros, greatest-next, greatest-rest}
use Rattle.simplex_core.proofs.kept_choice.greatest.Goals as goal
use Rattle.simplex_core.proofs.kept_choice.greatest.Goals.{then-entry-best, else-entry-best}

-- x0's row, and what is known of it
entries_of : (t : Tableau) (home x0 : ℕ) → IsKept home x0 t → length (line_of t home).entries ≡ suc x0
entries_of t home x0 w = w.shaped.entries home (let more : rows_of t < length t.lines = w.shaped.lines in let row : home < rows_of t = w.home_row in omega arith) ∙ w.last_column

pub loop-column-preserved : goal.loop-column-preserved
loop-column-preserved c =
    let d = c.args.x0 in
    let line : List ℤ = (line_of c.args.tableau.now.tableau c.args.home).entries in
    let zs : List ℤ = set line d (pos 0) in
    let many : length line ≡ suc d = entries_of c.args.tableau.now.tableau c.args.home d c.requires.kept in
    let next = c.in-Some.ensures.found in
    let column = c.in-Some.column in
    let best : ℤ = to_z w128 c.loop-column.best-bits in
    let z : ℤ = to_z w128 (of_z w128 c.in-Some.entry) in
    let back : z ≡ c.in-Some.entry = back_in_range c.in-Some.entry next.fits in
    let apart : column ≢ d = c.if-column-x0.false in
    let below : column < length line = next.within in
    let before : column < d = omega arith in
    let within : column < length zs = omega (arith, length-set line d (pos 0)) in
    let step : greatest_from c.loop-column.from best c.loop-column.chosen (drop c.loop-column.from zs) ≡ (if int_lt best z then greatest_from (column + 1) z (Some column) (drop (column + 1) zs) else greatest_from (column + 1) best c.loop-column.chosen (drop (column + 1) zs)) =
    greatest-next zs c.loop-column.from column best z c.loop-column.chosen c.loop-column.invariant.least next.from within (without-number line d column z apart (next.number ∙ sym back)) (without-zeros line d c.loop-column.from column (omega arith) next.before) in
    elim c.if-entry-best.branch [
      | then-entry-best w ↦ record {
        chosen =
            c.loop-column.invariant.chosen
            ∙ step
            ∙ ap (λ t. if t then greatest_from (column + 1) z (Some column) (drop (column + 1) zs) else greatest_from (column + 1) best c.loop-column.chosen (drop (column + 1) zs)) w.if-entry-best.true
            ∙ ap₂ (λ y o. greatest_from (column + 1) y o (drop (column + 1) zs)) (sym w.best-is) (sym w.chosen-is);
        range = subst InRange (sym (w.best-is ∙ back)) next.fits;
        least = let p : pos 0 ≤ℤ best = c.loop-column.invariant.least in subst (λ y. pos 0 ≤ℤ y) (sym w.best-is) (omega (arith, ints, w.if-entry-best.true));
        column = subst (λ (o : Option ℕ). IfSome o (λ d. d < c.args.tableau.now.tableau.columns)) (sym w.chosen-is) c.in-Some.ensures.column;
        within = omega arith;
      }
      | else-entry-best w ↦ record {
        chosen =
            c.loop-column.invariant.chosen
            ∙ step
            ∙ ap (λ t. if t then greatest_from (column + 1) z (Some column) (drop (column + 1) zs) else greatest_from (column + 1) best c.loop-column.chosen (drop (column + 1) zs)) w.if-entry-best.false
            ∙ ap₂ (λ y o. greatest_from (column + 1) y o (drop (column + 1) zs)) (sym w.best-is) (sym w.chosen-is);
        range = subst InRange (sym w.best-is) c.loop-column.invariant.range;
        least = subst (λ y. pos 0 ≤ℤ y) (sym w.best-is) c.loop-column.invariant.least;
        column = subst (λ (o : Option ℕ). IfSome o (λ d. d < c.args.tableau.now.tableau.columns)) (sym w.chosen-is) c.loop-column.invariant.column;
        within = omega arith;
      }
    ]

pub returns-then-column-x0-clause-chosen : goal.returns-then-column-x0-clause-chosen
returns-then-column-x0-clause-chosen c =
    let d = c.args.x0 in
    let line : List ℤ = (line_of c.args.tableau.now.tableau c.args.home).entries in
    let many : length line ≡ suc d = entries_of c.args.tableau.now.tableau c.args.home d c.requires.kept in
    let next = c.in-Some.ensures.found in
    let zeros : AreZeros line c.loop-column.from d = subst (AreZeros line c.loop-column.from) c.if-column-x0.true next.before in
    sym (c.loop-column.invariant.chosen ∙ greatest-rest (set line d (pos 0)) c.loop-column.from (to_z w128 c.loop-column.best-bits) c.loop-column.chosen c.loop-column.invariant.least (without-rest line d c.loop-column.from many zeros))

pub returns-clause-chosen : goal.returns-clause-chosen
returns-clause-chosen c =
    let d = c.args.x0 in
    let line : List ℤ = (line_of c.args.tableau.now.tableau c.args.home).entries in
    let many : length line ≡ suc d = entries_of c.args.tableau.now.tableau c.args.home d c.requires.kept in
    sym (c.loop-column.invariant.chosen ∙ greatest-rest (set line d (pos 0)) c.loop-column.from (to_z w128 c.loop-column.best-bits) c.loop-column.chosen c.loop-column.invariant.least (without-all line d c.loop-column.from many c.in_default.ensures.none))
