-- A whole number over 1 is in lowest terms.
use Rattle.row_core.proofs.Common.{refl, arith, ints, gcd_of, gcd_within}
use Rattle.row_core.proofs.amounts.zero.Goals as goal

pub invariant_of-result : goal.invariant_of-result
unfolding gcd_of gcd_within
invariant_of-result c = record { num_fits = omega arith; den_fits = omega arith; positive = omega (arith, ints); lowest = refl }
