-- One row after another.
use Rattle.simplex_core.proofs.Common.{◌≡◌, ◌+◌, ℤ, sym, ap, ◌∙◌, subst, to_z, of_z, w128, InRange, lowest, value_of, back_in_range, as_most, Line, entry_of, line_of}
use Rattle.simplex_core.proofs.ValueLaws.{multipliers-step}
use Rattle.simplex_core.proofs.multipliers.by_slack.Goals as goal

pub loop-position-preserved : goal.loop-position-preserved
loop-position-preserved c =
    let line : Line = line_of c.args.tableau.now.tableau c.args.line in
    let d : ℤ = to_z w128 (of_z w128 c.args.d) in
    let i = c.loop-position.position in
    let row = c.index-rows-position.result in
    let entry_fits : InRange c.entry-entry.result = subst InRange (sym c.entry-entry.ensures.value) c.entry-entry.ensures.range in
    let number : to_z w128 (of_z w128 c.as_most.result) ≡ as_most row.sense (entry_of line (c.args.slack + i)) =
    back_in_range c.as_most.result c.as_most.ensures.range ∙ c.as_most.ensures.value ∙ ap (as_most row.sense) (back_in_range c.entry-entry.result entry_fits ∙ c.entry-entry.ensures.value) in
    let value : value_of c.ratio.result ≡ lowest (as_most row.sense (entry_of line (c.args.slack + i))) d = c.ratio.ensures ∙ ap (λ z. lowest z d) number in
    c.loop-position.invariant ∙ multipliers-step c.args.slack line d c.args.rows.now i row c.ratio.result c.loop-position.lambda.items c.push.new.self.items c.loop-position-test.true c.index-rows-position.is value c.in_ok-push.ensures.items
