-- The sign moves to the numerator.
use Rattle.exact_num.proofs.Common.{ap₂, ◌∙◌, InRange, lowest}
use Rattle.exact_num.proofs.RangeLaws.{back_in_range}
use Rattle.exact_num.proofs.RationalLaws.{lowest-neg_ℤ}
use Rattle.exact_num.proofs.arithmetic.ratio.Goals as goal

pub returns-then-den-lt0 : goal.returns-then-den-lt0
returns-then-den-lt0 c =
    let num_fits : InRange c.args.num = c.requires.num_fits in
    let den_fits : InRange c.args.den = c.requires.den_fits in
    let top_fits : InRange c.opposite.result = c.opposite.ensures.range in
    let bottom_fits : InRange c.opposite-then-den-lt0.result = c.opposite-then-den-lt0.ensures.range in
    let top = simp back_in_range at c.opposite.ensures.value in
    let bottom = simp back_in_range at c.opposite-then-den-lt0.ensures.value in
    let is = simp back_in_range at c.positive_ratio.ensures in
    is ∙ ap₂ lowest top bottom ∙ lowest-neg_ℤ c.args.num c.args.den c.requires.nonzero
