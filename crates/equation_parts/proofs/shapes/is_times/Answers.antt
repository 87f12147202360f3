-- The left side is made of the terms.
use Rattle.equation_parts.proofs.Common.{refl, ap, ◌∙◌, negative_of, added, is_times}
use Rattle.equation_parts.proofs.shapes.is_times.Goals as goal

pub returns : goal.returns
returns c a h =
    c.write.ensures c.args.name (is_times c.args.variable c.args.other a)
    (added c.in_ok-add-2.ensures refl (c.negative.ensures ∙ ap negative_of h)
    (added c.in_ok-add.ensures refl c.one.ensures c.new-left.ensures))
    refl c.zero.ensures
