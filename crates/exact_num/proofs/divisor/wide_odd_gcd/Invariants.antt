-- Both numbers stay odd and keep their greatest common divisor, and their sum falls.
use Rattle.exact_num.proofs.Common.{◌≡◌, ◌+◌, ◌%◌, gcd_of}
use Rattle.exact_num.proofs.divisor.wide_odd_gcd.Given as goal

abbrev pub invariant-loop-left : goal.invariant-loop-left
invariant-loop-left l = (l.left % 2 ≡ 1) × (l.right % 2 ≡ 1) × (gcd_of l.left l.right ≡ gcd_of l.fn.a l.fn.b)

abbrev pub decreases-loop-left : goal.decreases-loop-left
decreases-loop-left l = l.left + l.right
