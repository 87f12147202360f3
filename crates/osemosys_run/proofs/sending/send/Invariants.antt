use Rattle.osemosys_run.proofs.Common.{◌-◌, ◌≤◌, length, take, Took, sent}
use Rattle.osemosys_run.proofs.sending.send.Given as goal

-- the prefix that was sent is what the sink took
abbrev pub invariant-loop-done : goal.invariant-loop-done
invariant-loop-done g l = record {
  within : l.done ≤ length l.text;
  took : Took (sent g.K.Sink l.fn.out).output (sent g.K.Sink l.out).output (take l.done l.text);
  faults : g.K.Sink.faults l.fn.out ≤ g.K.Sink.faults l.out;
}

abbrev pub decreases-loop-done : goal.decreases-loop-done
decreases-loop-done g l = length l.text - l.done
