use Rattle.mps_writer.proofs.Common.{◌≡◌, ◌≤◌, ◌-◌, ◌++◌, flat_map, range_with_len, output, numbered, AreSidesOf, lines_in, LeavesOf}
use Rattle.mps_writer.proofs.SectionLaws.{equation_lines}
use Rattle.mps_writer.proofs.sections.send_section.Given as goal

-- the lines of the equations so far were written
abbrev pub invariant-loop-eq : goal.invariant-loop-eq
invariant-loop-eq g l =
    let sink = g.K.Sink in
    let source = g.R.RowSource in
    record {
      low : 1 ≤ l.eq;
      rows : source.rows l.rows ≡ source.rows l.fn.rows;
      sides : AreSidesOf (source.rows l.fn.rows) l.sides;
      taken : LeavesOf (l.fn.buffer.items ++ flat_map (lines_in l.section l.sets) (numbered (source.rows l.fn.rows)))
          (output (sink.written l.fn.out) (sink.accepted l.fn.out)) (output (sink.written l.out) (sink.accepted l.out))
          (l.buffer.items ++ flat_map (equation_lines l.section l.sets (source.rows l.fn.rows)) (range_with_len l.eq (65 - l.eq)));
      faults : sink.faults l.fn.out ≤ sink.faults l.out;
    }
