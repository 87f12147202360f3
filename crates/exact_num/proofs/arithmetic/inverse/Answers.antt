-- The two numbers exchanged are in lowest terms.
use Rattle.exact_num.proofs.Common.{sym, ap₂, ◌∙◌, subst, pos, arith, ◌<ℤ◌, ◌≤ℤ◌, ints, InRange, IsLowest, pair, value_of}
use Rattle.exact_num.proofs.RangeLaws.{back_in_range}
use Rattle.exact_num.proofs.RationalLaws.{reciprocal-IsLowest, reciprocal_of_neg, reciprocal_of_pos}
use Rattle.exact_num.proofs.ValueLaws.{value_of-IsLowest}
use Rattle.exact_num.proofs.arithmetic.inverse.Goals as goal

pub lowest_pair-requires-clause-lowest : goal.lowest_pair-requires-clause-lowest
lowest_pair-requires-clause-lowest c =
    let low = value_of-IsLowest c.args.a in
    let num_fits : InRange c.args.a.num = c.args.a.num_fits in
    let den_fits : InRange c.args.a.den = c.args.a.den_fits in
    let top_fits : InRange c.opposite.result = c.opposite.ensures.range in
    let bottom_fits : InRange c.opposite-then-a-lt0.result = c.opposite-then-a-lt0.ensures.range in
    let top = simp back_in_range at c.opposite.ensures.value in
    let bottom = simp back_in_range at c.opposite-then-a-lt0.ensures.value in
    let sign = simp back_in_range at c.if-a-lt0.true in
    let negative : c.args.a.num <ℤ pos 0 = omega (arith, ints) in
    let is = ap₂ pair top bottom ∙ reciprocal_of_neg (value_of c.args.a) negative in
    simp back_in_range (subst IsLowest (sym is) (reciprocal-IsLowest (value_of c.args.a) low c.requires))

pub lowest_pair-requires-else-a-lt0-clause-lowest : goal.lowest_pair-requires-else-a-lt0-clause-lowest
lowest_pair-requires-else-a-lt0-clause-lowest c =
    let low = value_of-IsLowest c.args.a in
    let num_fits : InRange c.args.a.num = c.args.a.num_fits in
    let den_fits : InRange c.args.a.den = c.args.a.den_fits in
    let sign = simp back_in_range at c.if-a-lt0.false in
    let positive : pos 0 ≤ℤ c.args.a.num = omega (arith, ints) in
    simp back_in_range (subst IsLowest (sym (reciprocal_of_pos (value_of c.args.a) positive)) (reciprocal-IsLowest (value_of c.args.a) low c.requires))
