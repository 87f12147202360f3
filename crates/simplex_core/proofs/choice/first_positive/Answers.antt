-- From one entry other than 0 to the next.
use Rattle.simplex_core.proofs.Common.{◌≡◌, ◌+◌, ◌<◌, ℤ, Some, List, length, drop, sym, ap, ◌∙◌, arith, to_z, of_z, if◌then◌else◌, w128, back_in_range, first_positive_from, line_of}
use Rattle.simplex_core.proofs.ChoiceLaws.{first_positive-next, first_positive-rest}
use Rattle.simplex_core.proofs.choice.first_positive.Goals as goal

pub returns-then-entry-gt0-clause-chosen : goal.returns-then-entry-gt0-clause-chosen
returns-then-entry-gt0-clause-chosen c =
    let zs : List ℤ = (line_of c.args.tableau.now.tableau c.args.row).entries in
    let next = c.in-Some.ensures.found in
    let column = c.in-Some.column in
    let z : ℤ = to_z w128 (of_z w128 c.in-Some.entry) in
    let back : z ≡ c.in-Some.entry = back_in_range c.in-Some.entry next.fits in
    sym
    (c.loop-column.invariant.chosen
    ∙ first_positive-next zs c.loop-column.from column z next.from next.within (next.number ∙ sym back) next.before
    ∙ ap (λ t. if t then Some column else first_positive_from (column + 1) (drop (column + 1) zs)) c.if-entry-gt0.true)

pub loop-column-preserved : goal.loop-column-preserved
loop-column-preserved c =
    let zs : List ℤ = (line_of c.args.tableau.now.tableau c.args.row).entries in
    let next = c.in-Some.ensures.found in
    let column = c.in-Some.column in
    let z : ℤ = to_z w128 (of_z w128 c.in-Some.entry) in
    let back : z ≡ c.in-Some.entry = back_in_range c.in-Some.entry next.fits in
    let within : column < length zs = next.within in
    record {
      chosen =
          c.loop-column.invariant.chosen
          ∙ first_positive-next zs c.loop-column.from column z next.from within (next.number ∙ sym back) next.before
          ∙ ap (λ t. if t then Some column else first_positive_from (column + 1) (drop (column + 1) zs)) c.if-entry-gt0.false;
      within = omega arith;
    }

pub returns-clause-chosen : goal.returns-clause-chosen
returns-clause-chosen c =
    let zs : List ℤ = (line_of c.args.tableau.now.tableau c.args.row).entries in
    sym (c.loop-column.invariant.chosen ∙ first_positive-rest zs c.loop-column.from c.in_default.ensures.none)
