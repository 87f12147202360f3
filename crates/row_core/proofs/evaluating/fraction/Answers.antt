-- A whole number over 1 is in lowest terms.
use Rattle.row_core.proofs.Common.{arith, to_z, of_z, w128, unsigned_abs, ints, gcd_of-one, back_in_range}
use Rattle.row_core.proofs.evaluating.fraction.Goals as goal

pub invariant_of-result : goal.invariant_of-result
invariant_of-result c = record {
  num_fits = rw (back_in_range c.args.n c.requires) c.requires;
  den_fits = omega arith;
  positive = omega (arith, ints);
  lowest = gcd_of-one (unsigned_abs (to_z w128 (of_z w128 c.args.n)));
}
