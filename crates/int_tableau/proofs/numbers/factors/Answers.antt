use Rattle.int_tableau.proofs.Common.{◌≡◌, ℤ, pos, sym, ap, ap₂, ◌∙◌, subst, ◌<ℤ◌, int_div, unsigned_abs, common, InRange, gcd_of_comm, back_in_range}
use Rattle.int_tableau.proofs.DivisionLaws.{common_pos}
use Rattle.int_tableau.proofs.numbers.factors.Goals as goal

pub quotient-requires-clause-positive : goal.quotient-requires-clause-positive
quotient-requires-clause-positive c =
    let p_fits : InRange c.args.p = c.requires.fits in
    let q_fits : InRange c.args.q = c.requires.other_fits in
    let value : c.gcd-divisor.result ≡ common c.args.p c.args.q = simp back_in_range at c.gcd-divisor.ensures.value in
    let P = λ (z : ℤ). pos 0 <ℤ z in
    subst P (sym (back_in_range c.gcd-divisor.result c.gcd-divisor.ensures.range ∙ value)) (common_pos c.args.p c.args.q c.requires.other_nonzero)

pub quotient-requires-2-clause-positive : goal.quotient-requires-2-clause-positive
quotient-requires-2-clause-positive c =
    let p_fits : InRange c.args.p = c.requires.fits in
    let q_fits : InRange c.args.q = c.requires.other_fits in
    let value : c.gcd-divisor.result ≡ common c.args.p c.args.q = simp back_in_range at c.gcd-divisor.ensures.value in
    let P = λ (z : ℤ). pos 0 <ℤ z in
    subst P (sym (back_in_range c.gcd-divisor.result c.gcd-divisor.ensures.range ∙ value)) (common_pos c.args.p c.args.q c.requires.other_nonzero)

pub returns-clause-second : goal.returns-clause-second
returns-clause-second c =
    let p_fits : InRange c.args.p = c.requires.fits in
    let q_fits : InRange c.args.q = c.requires.other_fits in
    let value : c.gcd-divisor.result ≡ common c.args.p c.args.q = simp back_in_range at c.gcd-divisor.ensures.value in
    let turned : common c.args.p c.args.q ≡ common c.args.q c.args.p = ap pos (gcd_of_comm (unsigned_abs c.args.p) (unsigned_abs c.args.q)) in
    back_in_range c.quotient-2.result c.quotient-2.ensures.range
    ∙ c.quotient-2.ensures.value
    ∙ ap₂ int_div (back_in_range c.args.q q_fits) (back_in_range c.gcd-divisor.result c.gcd-divisor.ensures.range ∙ value ∙ turned)
