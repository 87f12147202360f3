-- From one entry other than 0 to the next.
use Rattle.simplex_core.proofs.Common.{◌≡◌, ◌+◌, ◌<◌, ℕ, ℤ, pos, Option, Some, List, length, drop, sym, ap, ap₂, ◌∙◌, subst, arith, to_z, of_z, if◌then◌else◌, w128, int_lt, ◌≤ℤ◌, IfSome, ints, InRange, back_in_range, greatest_from, line_of}
use Rattle.simplex_core.proofs.ChoiceLaws.{greatest-next, greatest-rest}
use Rattle.simplex_core.proofs.choice.greatest.Goals as goal
use Rattle.simplex_core.proofs.choice.greatest.Goals.{then-entry-best, else-entry-best}

pub loop-column-preserved : goal.loop-column-preserved
loop-column-preserved c =
    let zs : List ℤ = (line_of c.args.tableau.now.tableau c.args.row).entries in
    let next = c.in-Some.ensures.found in
    let column = c.in-Some.column in
    let best : ℤ = to_z w128 c.loop-column.best-bits in
    let z : ℤ = to_z w128 (of_z w128 c.in-Some.entry) in
    let back : z ≡ c.in-Some.entry = back_in_range c.in-Some.entry next.fits in
    let within : column < length zs = next.within in
    let step : greatest_from c.loop-column.from best c.loop-column.chosen (drop c.loop-column.from zs) ≡ (if int_lt best z then greatest_from (column + 1) z (Some column) (drop (column + 1) zs) else greatest_from (column + 1) best c.loop-column.chosen (drop (column + 1) zs)) =
    greatest-next zs c.loop-column.from column best z c.loop-column.chosen c.loop-column.invariant.least next.from within (next.number ∙ sym back) next.before in
    elim c.if-entry-best.branch [
      | then-entry-best w ↦ record {
        chosen =
            c.loop-column.invariant.chosen
            ∙ step
            ∙ ap (λ t. if t then greatest_from (column + 1) z (Some column) (drop (column + 1) zs) else greatest_from (column + 1) best c.loop-column.chosen (drop (column + 1) zs)) w.if-entry-best.true
            ∙ ap₂ (λ y o. greatest_from (column + 1) y o (drop (column + 1) zs)) (sym w.best-is) (sym w.chosen-is);
        range = subst InRange (sym (w.best-is ∙ back)) next.fits;
        least = let p : pos 0 ≤ℤ best = c.loop-column.invariant.least in subst (λ y. pos 0 ≤ℤ y) (sym w.best-is) (omega (arith, ints, w.if-entry-best.true));
        column = subst (λ (o : Option ℕ). IfSome o (λ d. d < c.args.tableau.now.tableau.columns)) (sym w.chosen-is) c.in-Some.ensures.column;
        seen = omega (arith, c.loop-column.invariant.seen, next.from);
        within = omega arith;
      }
      | else-entry-best w ↦ record {
        chosen =
            c.loop-column.invariant.chosen
            ∙ step
            ∙ ap (λ t. if t then greatest_from (column + 1) z (Some column) (drop (column + 1) zs) else greatest_from (column + 1) best c.loop-column.chosen (drop (column + 1) zs)) w.if-entry-best.false
            ∙ ap₂ (λ y o. greatest_from (column + 1) y o (drop (column + 1) zs)) (sym w.best-is) (sym w.chosen-is);
        range = subst InRange (sym w.best-is) c.loop-column.invariant.range;
        least = subst (λ y. pos 0 ≤ℤ y) (sym w.best-is) c.loop-column.invariant.least;
        column = subst (λ (o : Option ℕ). IfSome o (λ d. d < c.args.tableau.now.tableau.columns)) (sym w.chosen-is) c.loop-column.invariant.column;
        seen = omega (arith, c.loop-column.invariant.seen, next.from);
        within = omega arith;
      }
    ]

pub returns-clause-chosen : goal.returns-clause-chosen
returns-clause-chosen c =
    let zs : List ℤ = (line_of c.args.tableau.now.tableau c.args.row).entries in
    sym (c.loop-column.invariant.chosen ∙ greatest-rest zs c.loop-column.from (to_z w128 c.loop-column.best-bits) c.loop-column.chosen c.loop-column.invariant.least c.in_default.ensures.none)
