use Rattle.mps_writer.proofs.Common.{◌≡◌, ◌≤◌, ◌++◌, length, false, AllByRecursion, flat_map, rows_of_equation, output, IsNamedRow, HasNoSides, lines_in, LeavesOf}
use Rattle.mps_writer.proofs.sections.send_equation.Given as goal

-- with the lines of the rows that are ahead, the lines so far are those of the equation
abbrev pub invariant-rows : goal.invariant-rows
invariant-rows g l =
    let sink = g.K.Sink in
    let source = g.R.RowSource in
    record {
      rows : source.rows l.rows ≡ source.rows l.fn.rows;
      named : AllByRecursion (λ r. IsNamedRow l.sets r.1) (source.ahead l.rows);
      taken : LeavesOf (l.fn.buffer.items ++ flat_map (lines_in l.section l.sets) (rows_of_equation l.eq (source.rows l.fn.rows)))
          (output (sink.written l.fn.out) (sink.accepted l.fn.out)) (output (sink.written l.out) (sink.accepted l.out)) (l.buffer.items ++ flat_map (lines_in l.section l.sets) (source.ahead l.rows));
      faults : sink.faults l.fn.out ≤ sink.faults l.out;
      sides : l.found ≡ false → HasNoSides (source.ahead l.rows) → HasNoSides (rows_of_equation l.eq (source.rows l.fn.rows));
    }

abbrev pub decreases-rows : goal.decreases-rows
decreases-rows g l = length (g.R.RowSource.ahead l.rows)
