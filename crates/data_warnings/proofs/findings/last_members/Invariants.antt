-- The members so far with which the rule speaks.
use Rattle.data_warnings.proofs.Common.{◌≡◌, filter, range_with_len, place_at, frame_of, speaks, count}
use Rattle.data_warnings.proofs.findings.last_members.Given as goal

abbrev pub invariant-loop-l : goal.invariant-loop-l
invariant-loop-l l = record {
  end : l.l-end ≡ count l.model.facts (frame_of l.rule).last;
  members : l.members.items ≡ filter (λ m. speaks l.model l.rule (place_at l.i l.j l.k m)) (range_with_len 0 l.l);
}
