use Rattle.mps_writer.proofs.Common.{◌≤◌, ◌+◌, ◌++◌, drop, enumerate_from, flat_map, output, bound_line, numbered, LeavesOf}
use Rattle.mps_writer.proofs.sending.send_free_columns.Given as goal

-- with the lines of the columns that are left, the lines so far are those of all columns
abbrev pub invariant-loop-place : goal.invariant-loop-place
invariant-loop-place g l =
    let sink = g.K.Sink in
    record {
      taken : LeavesOf (l.fn.buffer.items ++ flat_map bound_line (numbered l.vars)) (output (sink.written l.fn.out) (sink.accepted l.fn.out)) (output (sink.written l.out) (sink.accepted l.out))
          (l.buffer.items ++ flat_map bound_line (enumerate_from (l.place + 1) (drop l.place l.vars)));
      faults : sink.faults l.fn.out ≤ sink.faults l.out;
    }
