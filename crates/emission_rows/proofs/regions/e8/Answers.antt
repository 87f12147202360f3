-- The left side is made of the term, and the right side of the limit and the exogenous emission.
use Rattle.std.proofs.Common.{refl, ap, ap₂, ◌∙◌}
use Rattle.row_core.specs.Calculated.{negative_of, total_of}
use Rattle.row_core.proofs.AmountLaws.{added}
use Rattle.named_equations.specs.Indices.{by_rey}
use Rattle.emission_rows.specs.Emissions.{e8}
use Rattle.emission_rows.proofs.regions.e8.Goals as goal

pub returns : goal.returns
returns c =
    c.write.ensures c.args.name (by_rey (e8 c.args.model.now.facts) c.args.name.index)
    (added c.in_ok-add.ensures refl c.one.ensures c.new-left.ensures)
    refl
    (c.plus.ensures ∙ ap₂ total_of c.value.ensures (c.negative.ensures ∙ ap negative_of c.value-exogenous.ensures))
