-- A step keeps the greatest common divisor, and equal numbers are their own.
use Rattle.exact_num.proofs.Common.{◌≡◌, ◌%◌, sym, ap, ap₂, ◌∙◌, arith, gcd_of}
use Rattle.exact_num.proofs.GcdLaws.{gcd_of-self}
use Rattle.exact_num.proofs.OddLaws.{gap_step, min_odd}
use Rattle.exact_num.proofs.divisor.narrow_odd_gcd.Goals as goal

pub loop-left-preserved : goal.loop-left-preserved
loop-left-preserved c =
    let l = c.loop-left in
    let odd : c.min-right.result % 2 ≡ 1 = ap (λ m. m % 2) c.min-right.ensures ∙ min_odd l.left l.right l.invariant.0 l.invariant.1 in
    let kept = c.narrow_odd_part-left.ensures.shared c.min-right.result odd ∙ ap₂ gcd_of c.abs_diff-gap.ensures c.min-right.ensures ∙ gap_step l.left l.right ∙ l.invariant.2 in
    (c.narrow_odd_part-left.ensures.odd, odd, kept)

pub returns : goal.returns
returns c =
    let l = c.loop-left in
    let same : l.left ≡ l.right = omega arith in
    sym (gcd_of-self l.left) ∙ ap (gcd_of l.left) same ∙ l.invariant.2
