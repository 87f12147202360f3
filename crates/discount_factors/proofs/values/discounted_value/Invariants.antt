use Rattle.discount_factors.proofs.Common.{◌≡◌, discounted}
use Rattle.discount_factors.proofs.values.discounted_value.Given as goal

abbrev pub invariant-loop : goal.invariant-loop
invariant-loop l = l.value ≡ discounted l.rate l.counter
