-- Timeslice by timeslice.
use Rattle.data_warnings.proofs.Common.{◌≡◌, ℕ, ◌+◌, ◌*◌, ◌^◌, ◌<◌, ◌≤◌, ℤ, ◌+ℤ◌, sym, ap, ◌∙◌, subst, to_z, of_z, arith, w128, unsigned_abs, ints, InRange, back_in_range, IsWithinLimit, timeslice, part, sum_of, count}
use Rattle.data_warnings.proofs.Billionths.{in_range}
use Rattle.data_warnings.proofs.SumLaws.{sum_from, sum-next}
use Rattle.data_warnings.proofs.sums.sum_of.Goals as goal

-- one part more
more : (s p : ℤ) (l : ℕ) → unsigned_abs s ≤ l * 10 ^ 24 → IsWithinLimit p → unsigned_abs (s +ℤ p) ≤ (l + 1) * 10 ^ 24
more s p l bound within = omega (arith, ints, bound, within)

fits : (z : ℤ) (l : ℕ) → l < 65536 → unsigned_abs z ≤ (l + 1) * 10 ^ 24 → InRange z
fits z l few bound = omega (arith, few, bound)

pub loop-l-preserved : goal.loop-l-preserved
loop-l-preserved c =
    let d = c.args.model.now.facts in
    let f : ℕ → ℤ = part d c.args.parts in
    let n = count d timeslice in
    let s = to_z w128 c.loop-l.sum-bits in
    let p = c.part-sum.result in
    let p_is : to_z w128 (of_z w128 p) ≡ p = back_in_range p (in_range p c.part-sum.ensures.within) in
    let bound = more s p c.loop-l.l c.loop-l.invariant.bound c.part-sum.ensures.within in
    let few : c.loop-l.l < 65536 = omega (arith, c.loop-l-test.true) in
    let total : to_z w128 (of_z w128 (s +ℤ to_z w128 (of_z w128 p))) ≡ s +ℤ p =
    ap (λ z. to_z w128 (of_z w128 (s +ℤ z))) p_is ∙ back_in_range (s +ℤ p) (fits (s +ℤ p) c.loop-l.l few bound) in
    record {
      end = c.loop-l.invariant.end;
      bound = subst (λ z. unsigned_abs z ≤ (c.loop-l.l + 1) * 10 ^ 24) (sym total) bound;
      rest =
          ap (λ z. z +ℤ sum_from f n (c.loop-l.l + 1)) (total ∙ ap (λ z. s +ℤ z) c.part-sum.ensures.value)
          ∙ sum-next f n c.loop-l.l s (sum_of d c.args.parts) (subst (λ k. c.loop-l.l < k) c.loop-l.invariant.end c.loop-l-test.true) c.loop-l.invariant.rest;
    }
