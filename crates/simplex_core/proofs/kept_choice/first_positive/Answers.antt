-- From one entry other than 0 to the next.
use Rattle.simplex_core.proofs.Common.{◌≡◌, ◌≢◌, ◌+◌, ◌<◌, ℕ, suc, pos, ℤ, Some, List, length, drop, set, sym, ap, ◌∙◌, subst, arith, to_z, of_z, if◌then◌else◌, w128, back_in_range, first_positive_from, length-set, Tableau, line_of, rows_of, IsKept}
use Rattle.simplex_core.proofs.KeptChoiceLaws.{without-number, without-zeros, without-rest, without-all}
use Rattle.simplex_core.proofs.ChoiceLaws.{AreZeros, first_positive-next, first_positive-rest}
use Rattle.simplex_core.proofs.kept_choice.first_positive.Goals as goal

entries_of : (t : Tableau) (home x0 : ℕ) → IsKept home x0 t → length (line_of t home).entries ≡ suc x0
entries_of t home x0 w = w.shaped.entries home (let more : rows_of t < length t.lines = w.shaped.lines in let row : home < rows_of t = w.home_row in omega arith) ∙ w.last_column

pub returns-then-column-x0-clause-chosen : goal.returns-then-column-x0-clause-chosen
returns-then-column-x0-clause-chosen c =
    let d = c.args.x0 in
    let line : List ℤ = (line_of c.args.tableau.now.tableau c.args.home).entries in
    let many : length line ≡ suc d = entries_of c.args.tableau.now.tableau c.args.home d c.requires.kept in
    let next = c.in-Some.ensures.found in
    let zeros : AreZeros line c.loop-column.from d = subst (AreZeros line c.loop-column.from) c.if-column-x0.true next.before in
    sym (c.loop-column.invariant.chosen ∙ first_positive-rest (set line d (pos 0)) c.loop-column.from (without-rest line d c.loop-column.from many zeros))

pub returns-then-entry-gt0-clause-chosen : goal.returns-then-entry-gt0-clause-chosen
returns-then-entry-gt0-clause-chosen c =
    let d = c.args.x0 in
    let line : List ℤ = (line_of c.args.tableau.now.tableau c.args.home).entries in
    let zs : List ℤ = set line d (pos 0) in
    let many : length line ≡ suc d = entries_of c.args.tableau.now.tableau c.args.home d c.requires.kept in
    let next = c.in-Some.ensures.found in
    let column = c.in-Some.column in
    let z : ℤ = to_z w128 (of_z w128 c.in-Some.entry) in
    let back : z ≡ c.in-Some.entry = back_in_range c.in-Some.entry next.fits in
    let apart : column ≢ d = c.if-column-x0.false in
    let below : column < length line = next.within in
    let before : column < d = omega arith in
    let within : column < length zs = omega (arith, length-set line d (pos 0)) in
    sym
    (c.loop-column.invariant.chosen
    ∙ first_positive-next zs c.loop-column.from column z next.from within (without-number line d column z apart (next.number ∙ sym back)) (without-zeros line d c.loop-column.from column (omega arith) next.before)
    ∙ ap (λ t. if t then Some column else first_positive_from (column + 1) (drop (column + 1) zs)) c.if-entry-gt0.true)

pub loop-column-preserved : goal.loop-column-preserved
loop-column-preserved c =
    let d = c.args.x0 in
    let line : List ℤ = (line_of c.args.tableau.now.tableau c.args.home).entries in
    let zs : List ℤ = set line d (pos 0) in
    let many : length line ≡ suc d = entries_of c.args.tableau.now.tableau c.args.home d c.requires.kept in
    let next = c.in-Some.ensures.found in
    let column = c.in-Some.column in
    let z : ℤ = to_z w128 (of_z w128 c.in-Some.entry) in
    let back : z ≡ c.in-Some.entry = back_in_range c.in-Some.entry next.fits in
    let apart : column ≢ d = c.if-column-x0.false in
    let below : column < length line = next.within in
    let before : column < d = omega arith in
    let within : column < length zs = omega (arith, length-set line d (pos 0)) in
    record {
      chosen =
          c.loop-column.invariant.chosen
          ∙ first_positive-next zs c.loop-column.from column z next.from within (without-number line d column z apart (next.number ∙ sym back)) (without-zeros line d c.loop-column.from column (omega arith) next.before)
          ∙ ap (λ t. if t then Some column else first_positive_from (column + 1) (drop (column + 1) zs)) c.if-entry-gt0.false;
      within = omega arith;
    }

pub returns-clause-chosen : goal.returns-clause-chosen
returns-clause-chosen c =
    let d = c.args.x0 in
    let line : List ℤ = (line_of c.args.tableau.now.tableau c.args.home).entries in
    let many : length line ≡ suc d = entries_of c.args.tableau.now.tableau c.args.home d c.requires.kept in
    sym (c.loop-column.invariant.chosen ∙ first_positive-rest (set line d (pos 0)) c.loop-column.from (without-all line d c.loop-column.from many c.in_default.ensures.none))
