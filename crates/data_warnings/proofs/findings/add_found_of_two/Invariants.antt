-- What is found so far.
use Rattle.data_warnings.proofs.Common.{◌≡◌, ◌++◌, flat_map, range_with_len, found_at, frame_of, count}
use Rattle.data_warnings.proofs.findings.add_found_of_two.Given as goal

abbrev pub invariant-loop-k : goal.invariant-loop-k
invariant-loop-k l = record {
  end : l.k-end ≡ count l.model.facts (frame_of l.rule).third;
  found : l.all.items ≡ l.fn.all.items ++ flat_map (found_at l.model l.rule l.i l.j) (range_with_len 0 l.k);
}
