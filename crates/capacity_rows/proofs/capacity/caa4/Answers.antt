-- The left side is made of the terms.
use Rattle.std.proofs.Common.{refl, ap, ap₂, ◌∙◌}
use Rattle.named_equations.specs.Indices.{by_rlty}
use Rattle.row_core.specs.Calculated.{product_of, negative_of}
use Rattle.row_core.proofs.AmountLaws.{added}
use Rattle.capacity_rows.specs.Capacity.{caa4}
use Rattle.capacity_rows.proofs.capacity.caa4.Goals as goal

pub returns : goal.returns
returns c =
    let unit = c.times-unit.ensures ∙ ap₂ product_of c.value.ensures c.value-2.ensures in
    c.write.ensures c.args.name (by_rlty (caa4 c.args.model.now.facts) c.args.name.index)
    (added c.in_ok-add-2.ensures refl (c.negative.ensures ∙ ap negative_of unit)
    (added c.in_ok-add.ensures refl c.one.ensures c.new-left.ensures))
    refl c.zero.ensures
