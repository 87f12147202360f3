-- The divisor so far and that of what is left have the divisor of all.
use Rattle.row_core.proofs.Common.{◌≡◌, pos, ◌∷◌, drop, ◌≤ℤ◌, unsigned_abs, gcd_of, InRange, numbers_of, common_divisor}
use Rattle.row_core.proofs.dividing.divisor_of.Given as goal

abbrev pub invariant-loop-entry : goal.invariant-loop-entry
invariant-loop-entry g l = record {
  range : InRange l.divisor;
  nonnegative : pos 0 ≤ℤ l.divisor;
  shared : gcd_of (unsigned_abs l.divisor) (common_divisor (numbers_of (drop l.entry-index l.entries))) ≡ common_divisor (l.right ∷ numbers_of l.entries);
}
