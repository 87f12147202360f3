-- One term after another, and the right side last.
use Rattle.row_core.proofs.Common.{◌≡◌, ◌+◌, ℤ, pos, true, false, ◌&&◌, drop, sym, ap, ap₂, ◌∙◌, subst, arith, to_z, of_z, w128, ◌<ℤ◌, InRange, in_range, value_of, back_in_range, in_range-yes, is_ok-false, widened_by_term, seen, widened}
use Rattle.row_core.proofs.WritingSteps.{denominators_fit, denominator_left, denominators_fit-step, denominator_left-step, denominators_fit-end}
use Rattle.row_core.proofs.writing.denominator_of.Goals as goal

pub returns-in_err-denominator-clause-refused : goal.returns-in_err-denominator-clause-refused
returns-in_err-denominator-clause-refused c =
    let d : ℤ = to_z w128 c.loop-term.denominator-bits in
    let right = value_of c.args.right in
    let step = denominators_fit-step d c.args.terms.now right c.loop-term.term-index c.term-item.result (omega arith) c.term-item.is (in_range-yes d c.loop-term.invariant.range) in
    let wide : in_range (widened_by_term d (seen c.term-item.result)) ≡ false = sym c.in_err-denominator.ensures.refused in
    let stops = ap (λ b. b && denominators_fit (widened_by_term d (seen c.term-item.result)) (drop (c.loop-term.term-index + 1) c.args.terms.now) right) wide in
    is_ok-false c.from_residual.result c.from_residual.ensures.0 ∙ sym (c.loop-term.invariant.fits ∙ step ∙ stops)

pub loop-term-preserved : goal.loop-term-preserved
loop-term-preserved c =
    let d : ℤ = to_z w128 c.loop-term.denominator-bits in
    let e : ℤ = c.in_ok-denominator.denominator in
    let terms = c.args.terms.now in
    let right = value_of c.args.right in
    let i = c.loop-term.term-index in
    let x = c.term-item.result in
    let range : InRange e = c.in_ok-denominator.ensures.range in
    let back : to_z w128 (of_z w128 e) ≡ e = back_in_range e range in
    let next : widened_by_term d (seen x) ≡ to_z w128 (of_z w128 e) = sym (back ∙ c.in_ok-denominator.ensures.value) in
    let fits : true ≡ in_range (widened_by_term d (seen x)) = c.in_ok-denominator.ensures.refused in
    let step = denominators_fit-step d terms right i x (omega arith) c.term-item.is (in_range-yes d c.loop-term.invariant.range) in
    record {
      range = subst InRange (sym back) range;
      positive = subst (λ z. pos 0 <ℤ z) (sym back) c.in_ok-denominator.ensures.positive;
      fits = c.loop-term.invariant.fits ∙ step ∙ ap₂ (λ b z. b && denominators_fit z (drop (i + 1) terms) right) (sym fits) next;
      value = c.loop-term.invariant.value ∙ denominator_left-step d terms right i x (omega arith) c.term-item.is ∙ ap (λ z. denominator_left z (drop (i + 1) terms) right) next;
    }

pub returns-clause-refused : goal.returns-clause-refused
returns-clause-refused c =
    let d : ℤ = to_z w128 c.loop-term.denominator-bits in
    let right = value_of c.args.right in
    c.widen.ensures.refused
    ∙ ap (λ b. in_range (widened d b)) (back_in_range c.args.right.den c.args.right.den_fits)
    ∙ sym (c.loop-term.invariant.fits ∙ denominators_fit-end d c.args.terms.now right c.loop-term.term-index c.loop-term-test.false)
