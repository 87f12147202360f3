-- The left side is made of the terms.
use Rattle.equation_parts.proofs.Common.{refl, added, is_covered}
use Rattle.equation_parts.proofs.shapes.is_covered.Goals as goal

pub returns : goal.returns
returns c z h =
    c.write.ensures c.args.name (is_covered c.args.variable z c.args.cover)
    (added c.in_ok-add-2.ensures refl c.minus_one.ensures
    (added c.in_ok-add.ensures refl h c.new-left.ensures))
    refl c.zero.ensures
