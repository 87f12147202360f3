use Rattle.discount_factors.proofs.Common.{◌≡◌, ◌+◌, length, discounted, AreDiscounted}
use Rattle.discount_factors.proofs.values.discounted_values.Given as goal

abbrev pub invariant-loop : goal.invariant-loop
invariant-loop l = (length l.values.items ≡ l.counter + 1) × (l.value ≡ discounted l.rate l.counter) × AreDiscounted l.rate l.values.items
