-- A step keeps the greatest common divisor, and equal numbers are their own.
use Rattle.exact_num.proofs.Common.{◌≡◌, ◌%◌, sym, ap, ap₂, ◌∙◌, arith, gcd_of}
use Rattle.exact_num.proofs.GcdLaws.{gcd_of-self, gcd_of_comm}
use Rattle.exact_num.proofs.OddLaws.{gap_step, min_odd}
use Rattle.exact_num.proofs.divisor.wide_odd_gcd.Goals as goal

pub loop-left-preserved : goal.loop-left-preserved
loop-left-preserved c =
    let l = c.loop-left in
    let odd : c.min-right.result % 2 ≡ 1 = ap (λ m. m % 2) c.min-right.ensures ∙ min_odd l.left l.right l.invariant.0 l.invariant.1 in
    let kept = c.wide_odd_part-left.ensures.shared c.min-right.result odd ∙ ap₂ gcd_of c.abs_diff-gap.ensures c.min-right.ensures ∙ gap_step l.left l.right ∙ l.invariant.2 in
    (c.wide_odd_part-left.ensures.odd, odd, kept)

pub returns-then-left-right : goal.returns-then-left-right
returns-then-left-right c =
    let l = c.loop-left in
    let same : l.left ≡ l.right = omega arith in
    sym (gcd_of-self l.left) ∙ ap (gcd_of l.left) same ∙ l.invariant.2

pub returns-then-left-le-NARROW : goal.returns-then-left-le-NARROW
returns-then-left-le-NARROW c = c.mixed_gcd.ensures ∙ gcd_of_comm c.loop-left.right c.loop-left.left ∙ c.loop-left.invariant.2
