-- Each step keeps the comparison, and each exit decides it.
use Rattle.std.proofs.Common.{◌≡◌, ◌≢◌, ◌/◌, ◌%◌, ◌∙◌, arith}
use Rattle.exact_num.proofs.OrderLaws.{whole_decides, rests_decide, rest_zero, zero_rest, turned_over}
use Rattle.exact_num.proofs.order.cmp_ratios.Goals as goal
use Rattle.exact_num.proofs.order.cmp_ratios.Goals.{then-left_rest-eq0-via-then-left_rest-eq0, then-left_rest-eq0-via-else-left_rest-eq0+then-right_rest-eq0}

pub returns-then-left_whole-right_whole : goal.returns-then-left_whole-right_whole
returns-then-left_whole-right_whole c =
    let l = c.loop-left in
    let apart : l.left / l.left_den ≢ l.right / l.right_den = omega arith in
    c.cmp.ensures ∙ whole_decides l.left l.left_den l.right l.right_den l.invariant.0 l.invariant.1 apart ∙ l.invariant.2

pub returns-then-left_rest-eq0 : goal.returns-then-left_rest-eq0
returns-then-left_rest-eq0 c =
    let l = c.loop-left in
    let same : l.left / l.left_den ≡ l.right / l.right_den = omega arith in
    let decided = rests_decide l.left l.left_den l.right l.right_den l.invariant.0 l.invariant.1 same ∙ l.invariant.2 in
    elim c.then-left_rest-eq0.branch [
      | then-left_rest-eq0-via-then-left_rest-eq0 w ↦
          let none : l.left % l.left_den ≡ 0 = omega arith in
          c.cmp-then-left_rest-eq0.ensures ∙ rest_zero (l.left % l.left_den) (l.right % l.right_den) l.left_den l.right_den l.invariant.0 l.invariant.1 none ∙ decided
      | then-left_rest-eq0-via-else-left_rest-eq0+then-right_rest-eq0 w ↦
          let none : l.right % l.right_den ≡ 0 = omega arith in
          c.cmp-then-left_rest-eq0.ensures ∙ zero_rest (l.left % l.left_den) (l.right % l.right_den) l.left_den l.right_den l.invariant.0 l.invariant.1 none ∙ decided
    ]

pub loop-left-preserved : goal.loop-left-preserved
loop-left-preserved c =
    let l = c.loop-left in
    let same : l.left / l.left_den ≡ l.right / l.right_den = omega arith in
    (omega arith, omega arith, turned_over l.left l.left_den l.right l.right_den l.invariant.0 l.invariant.1 same ∙ l.invariant.2)

pub returns : goal.returns
returns c = c.cmp-2.ensures ∙ c.loop-left.invariant.2
