-- The comparison stays what it was, and the denominators fall.
use Rattle.exact_num.proofs.Common.{◌≡◌, ◌+◌, ◌*◌, ◌<◌, nat_cmp}
use Rattle.exact_num.proofs.order.cmp_ratios.Given as goal

abbrev pub invariant-loop-left : goal.invariant-loop-left
invariant-loop-left l =
    (0 < l.left_den) × (0 < l.right_den) × (nat_cmp (l.left * l.right_den) (l.right * l.left_den) ≡ nat_cmp (l.fn.a * l.fn.d) (l.fn.c * l.fn.b))

abbrev pub decreases-loop-left : goal.decreases-loop-left
decreases-loop-left l = l.left_den + l.right_den
