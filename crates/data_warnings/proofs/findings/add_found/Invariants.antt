-- What is found so far.
use Rattle.data_warnings.proofs.Common.{◌≡◌, ◌++◌, flat_map, range_with_len, found_of_one, frame_of, count}
use Rattle.data_warnings.proofs.findings.add_found.Given as goal

abbrev pub invariant-loop-i : goal.invariant-loop-i
invariant-loop-i l = record {
  end : l.i-end ≡ count l.model.facts (frame_of l.rule).first;
  found : l.all.items ≡ l.fn.all.items ++ flat_map (found_of_one l.model l.rule) (range_with_len 0 l.i);
}
