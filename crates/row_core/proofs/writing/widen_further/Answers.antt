-- The quotient by the greatest common divisor, times the other denominator.
use Rattle.row_core.proofs.Common.{◌≡◌, ℤ, pos, sym, ap, ◌∙◌, subst, ◌*ℤ◌, to_z, w128, ◌<ℤ◌, IfOk, int_div, IfOk-weaker, common, InRange, back_in_range, common_pos, widened}
use Rattle.row_core.proofs.DivisionLaws.{one-widened, widened_pos}
use Rattle.row_core.proofs.writing.widen_further.Goals as goal

pub quotient-requires-clause-positive : goal.quotient-requires-clause-positive
quotient-requires-clause-positive c =
    let fits : InRange c.args.denominator = c.requires.fits in
    let other_fits : InRange c.args.other = c.requires.other_fits in
    let divisor_fits : InRange c.gcd.result = c.gcd.ensures.range in
    let value : c.gcd.result ≡ common c.args.denominator c.args.other = simp back_in_range at c.gcd.ensures.value in
    let P = λ (z : ℤ). pos 0 <ℤ z in
    simp back_in_range (subst P (sym value) (common_pos c.args.denominator c.args.other c.requires.other_positive))

pub returns-then-denominator-eq1-clause-value : goal.returns-then-denominator-eq1-clause-value
returns-then-denominator-eq1-clause-value c =
    let one : c.args.denominator ≡ pos 1 = sym (back_in_range c.args.denominator c.requires.fits) ∙ ap (λ n. to_z w128 n) c.if-denominator-eq1.true in
    back_in_range c.args.other c.requires.other_fits ∙ sym (one-widened c.args.denominator c.args.other one)

pub returns-else-denominator-eq1-clause-positive : goal.returns-else-denominator-eq1-clause-positive
returns-else-denominator-eq1-clause-positive c =
    let d : ℤ = c.args.denominator in
    let b : ℤ = c.args.other in
    let fits : InRange d = c.requires.fits in
    let other_fits : InRange b = c.requires.other_fits in
    let divisor_fits : InRange c.gcd.result = c.gcd.ensures.range in
    let quotient_fits : InRange c.quotient.result = c.quotient.ensures.range in
    let divisor : c.gcd.result ≡ common d b = simp back_in_range at c.gcd.ensures.value in
    let quotient : c.quotient.result ≡ int_div d c.gcd.result = simp back_in_range at c.quotient.ensures.value in
    let whole : c.quotient.result *ℤ b ≡ widened d b = ap (λ q. q *ℤ b) (quotient ∙ ap (λ g. int_div d g) divisor) in
    let product : IfOk c.product.result (λ v. v ≡ c.quotient.result *ℤ b) = simp back_in_range at c.product.ensures.value in
    IfOk-weaker c.product.result (λ v. v ≡ c.quotient.result *ℤ b) (λ v. pos 0 <ℤ v)
    (λ v e. let P = λ (z : ℤ). pos 0 <ℤ z in subst P (sym (e ∙ whole)) (widened_pos d b c.requires.positive c.requires.other_positive)) product
