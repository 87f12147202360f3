-- The sum so far, and what is left.
use Rattle.data_warnings.proofs.Common.{◌≡◌, ◌≤◌, ◌*◌, ◌^◌, ◌+ℤ◌, unsigned_abs, timeslice, part, sum_of, count}
use Rattle.data_warnings.proofs.SumLaws.{sum_from}
use Rattle.data_warnings.proofs.sums.sum_of.Given as goal

abbrev pub invariant-loop-l : goal.invariant-loop-l
invariant-loop-l l = record {
  end : l.l-end ≡ count l.model.facts timeslice;
  bound : unsigned_abs l.sum ≤ l.l * 10 ^ 24;
  rest : l.sum +ℤ sum_from (part l.model.facts l.parts) (count l.model.facts timeslice) l.l ≡ sum_of l.model.facts l.parts;
}
