use Rattle.mps_writer.proofs.Common.{◌≡◌, ◌≤◌, ◌++◌, drop, output, following, lines_of, column_head, LeavesOf}
use Rattle.mps_writer.proofs.sent_columns.send_column.Given as goal

-- with the lines of the entries that are left, the lines so far are those of the column
abbrev pub invariant-loop-i : goal.invariant-loop-i
invariant-loop-i g l =
    let sink = g.K.Sink in
    record {
      taken : LeavesOf (l.fn.buffer.items ++ (column_head l.sets (l.column, l.fn.var) ++ lines_of l.column l.fn.var (drop l.fn.from l.entries)))
          (output (sink.written l.fn.out) (sink.accepted l.fn.out)) (output (sink.written l.out) (sink.accepted l.out)) (l.buffer.items ++ lines_of l.column l.fn.var (drop l.i l.entries));
      rest : following l.fn.var (drop l.i l.entries) ≡ following l.fn.var (drop l.fn.from l.entries);
      faults : sink.faults l.fn.out ≤ sink.faults l.out;
    }
