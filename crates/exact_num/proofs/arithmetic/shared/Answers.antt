-- The common divisor with a positive number is positive, and with 1 it is 1.
use Rattle.exact_num.proofs.Common.{◌≡◌, sym, ap, ◌∙◌, subst, ℤ, pos, to_z, w128, ◌<ℤ◌, InRange}
use Rattle.exact_num.proofs.OperationLaws.{common_whole}
use Rattle.exact_num.proofs.RangeLaws.{back_in_range}
use Rattle.exact_num.proofs.RationalLaws.{common_pos}
use Rattle.exact_num.proofs.arithmetic.shared.Goals as goal

pub returns-then-b-eq1-clause-value : goal.returns-then-b-eq1-clause-value
returns-then-b-eq1-clause-value c =
    let right : InRange c.args.b = c.requires.right in
    let one : c.args.b ≡ pos 1 = sym (back_in_range c.args.b right) ∙ ap (to_z w128) c.if-b-eq1.true in
    sym (common_whole c.args.a c.args.b one)

pub returns-else-b-eq1-clause-positive : goal.returns-else-b-eq1-clause-positive
returns-else-b-eq1-clause-positive c =
    let left : InRange c.args.a = c.requires.left in
    let right : InRange c.args.b = c.requires.right in
    let fits : InRange c.gcd.result = c.gcd.ensures.range in
    let is = simp back_in_range at c.gcd.ensures.value in
    let P = λ (z : ℤ). pos 0 <ℤ z in
    simp back_in_range (subst P (sym is) (common_pos c.args.a c.args.b c.requires.positive))
