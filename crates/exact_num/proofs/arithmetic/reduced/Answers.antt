-- The two quotients are the pair in lowest terms.
use Rattle.exact_num.proofs.Common.{ℤ, pos, sym, ◌∙◌, subst, ◌<ℤ◌, InRange, IsLowest}
use Rattle.exact_num.proofs.Integers.{nonzero_of_pos}
use Rattle.exact_num.proofs.RangeLaws.{back_in_range}
use Rattle.exact_num.proofs.RationalLaws.{common_pos, divided_by, lowest-IsLowest}
use Rattle.exact_num.proofs.arithmetic.reduced.Goals as goal

pub quotient-requires-clause-positive : goal.quotient-requires-clause-positive
quotient-requires-clause-positive c =
    let divisor_fits : InRange c.args.divisor = c.requires.divisor_fits in
    let P = λ (z : ℤ). pos 0 <ℤ z in
    simp back_in_range (subst P (sym c.requires.greatest) (common_pos c.args.num c.args.den c.requires.positive))

pub quotient-requires-2-clause-positive : goal.quotient-requires-2-clause-positive
quotient-requires-2-clause-positive c =
    let divisor_fits : InRange c.args.divisor = c.requires.divisor_fits in
    let P = λ (z : ℤ). pos 0 <ℤ z in
    simp back_in_range (subst P (sym c.requires.greatest) (common_pos c.args.num c.args.den c.requires.positive))

pub lowest_pair-requires-clause-lowest : goal.lowest_pair-requires-clause-lowest
lowest_pair-requires-clause-lowest c =
    let num_fits : InRange c.args.num = c.requires.num_fits in
    let den_fits : InRange c.args.den = c.requires.den_fits in
    let divisor_fits : InRange c.args.divisor = c.requires.divisor_fits in
    let top_fits : InRange c.quotient.result = c.quotient.ensures.range in
    let bottom_fits : InRange c.quotient-2.result = c.quotient-2.ensures.range in
    let top = simp back_in_range at c.quotient.ensures.value in
    let bottom = simp back_in_range at c.quotient-2.ensures.value in
    let is = divided_by c.args.num c.args.den c.args.divisor c.quotient.result c.quotient-2.result c.requires.positive c.requires.greatest top bottom in
    simp back_in_range (subst IsLowest (sym is) (lowest-IsLowest c.args.num c.args.den (nonzero_of_pos c.args.den c.requires.positive)))

pub returns : goal.returns
returns c =
    let num_fits : InRange c.args.num = c.requires.num_fits in
    let den_fits : InRange c.args.den = c.requires.den_fits in
    let divisor_fits : InRange c.args.divisor = c.requires.divisor_fits in
    let top_fits : InRange c.quotient.result = c.quotient.ensures.range in
    let bottom_fits : InRange c.quotient-2.result = c.quotient-2.ensures.range in
    let top = simp back_in_range at c.quotient.ensures.value in
    let bottom = simp back_in_range at c.quotient-2.ensures.value in
    let pair_is = simp back_in_range at c.lowest_pair.ensures in
    pair_is ∙ divided_by c.args.num c.args.den c.args.divisor c.quotient.result c.quotient-2.result c.requires.positive c.requires.greatest top bottom
