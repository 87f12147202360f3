-- The sum so far, and those numbers that are left.
use Rattle.variable_elimination.proofs.Common.{◌≡◌, pos, drop, whole, value_of, value_in, values_in}
use Rattle.variable_elimination.proofs.ValueSteps.{sum_left, formed_left}
use Rattle.variable_elimination.proofs.values.other_sum.Given as goal

abbrev pub invariant-loop-entry : goal.invariant-loop-entry
invariant-loop-entry g l = record {
  sum : sum_left g.K.Ord.cmp (value_in g.K.Ord.cmp (values_in l.values)) l.key (value_of l.sum) (drop l.entry-index l.numbers) ≡ sum_left g.K.Ord.cmp (value_in g.K.Ord.cmp (values_in l.values)) l.key (whole (pos 0)) l.numbers;
  formed : formed_left g.K.Ord.cmp (value_in g.K.Ord.cmp (values_in l.values)) l.key (whole (pos 0)) l.numbers ≡ formed_left g.K.Ord.cmp (value_in g.K.Ord.cmp (values_in l.values)) l.key (value_of l.sum) (drop l.entry-index l.numbers);
}
