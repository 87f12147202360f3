use Rattle.mps_writer.proofs.Common.{◌≡◌, ◌≤◌, ◌+◌, ◌++◌, drop, enumerate_from, flat_map, output, Serves, column_lines, numbered, LeavesOf}
use Rattle.mps_writer.proofs.sent_columns.send_columns.Given as goal

-- with the columns that are left, the lines so far are those of all columns; and the entries serve the columns that are left
abbrev pub invariant-loop-place : goal.invariant-loop-place
invariant-loop-place g l =
    let sink = g.K.Sink in
    let source = g.R.RowSource in
    record {
      rows : source.rows l.rows ≡ source.rows l.fn.rows;
      serves : Serves (source.rows l.fn.rows) l.gathered (drop l.place l.vars);
      taken : LeavesOf (l.fn.buffer.items ++ flat_map (column_lines l.sets (source.rows l.fn.rows)) (numbered l.vars))
          (output (sink.written l.fn.out) (sink.accepted l.fn.out)) (output (sink.written l.out) (sink.accepted l.out))
          (l.buffer.items ++ flat_map (column_lines l.sets (source.rows l.fn.rows)) (enumerate_from (l.place + 1) (drop l.place l.vars)));
      faults : sink.faults l.fn.out ≤ sink.faults l.out;
    }
