use Rattle.mps_writer.proofs.Common.{◌-◌, ◌≤◌, length, drop, output, LeavesOf}
use Rattle.mps_writer.proofs.buffer.send.Given as goal

-- what isn't sent is left
abbrev pub invariant-loop-sent : goal.invariant-loop-sent
invariant-loop-sent g l =
    let sink = g.K.Sink in
    record {
      within : l.sent ≤ length l.text;
      taken : LeavesOf l.text (output (sink.written l.fn.out) (sink.accepted l.fn.out)) (output (sink.written l.out) (sink.accepted l.out)) (drop l.sent l.text);
      faults : sink.faults l.fn.out ≤ sink.faults l.out;
    }

abbrev pub decreases-loop-sent : goal.decreases-loop-sent
decreases-loop-sent g l = length l.text - l.sent
