-- The divisor so far and that of what is left have the divisor of all.
use Rattle.int_tableau.proofs.Common.{◌≡◌, ◌∷◌, drop, unsigned_abs, gcd_of, numbers_of, common_divisor}
use Rattle.int_tableau.proofs.narrow_division.divisor_of.Given as goal

abbrev pub invariant-loop-entry : goal.invariant-loop-entry
invariant-loop-entry l = gcd_of (unsigned_abs l.divisor.by) (common_divisor (numbers_of (drop l.entry-index l.entries))) ≡ common_divisor (l.first ∷ numbers_of l.entries)
