-- What is found so far.
use Rattle.data_warnings.proofs.Common.{◌≡◌, ◌++◌, flat_map, range_with_len, found_of_two, frame_of, count}
use Rattle.data_warnings.proofs.findings.add_found_of_one.Given as goal

abbrev pub invariant-loop-j : goal.invariant-loop-j
invariant-loop-j l = record {
  end : l.j-end ≡ count l.model.facts (frame_of l.rule).second;
  found : l.all.items ≡ l.fn.all.items ++ flat_map (found_of_two l.model l.rule l.i) (range_with_len 0 l.j);
}
