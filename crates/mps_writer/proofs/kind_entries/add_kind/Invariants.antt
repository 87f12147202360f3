use Rattle.mps_writer.proofs.Common.{◌≡◌, ◌≤◌, ◌-◌, ◌++◌, flat_map, range_with_len, entries_of_kind}
use Rattle.mps_writer.proofs.GatheredLaws.{entries_in}
use Rattle.mps_writer.proofs.kind_entries.add_kind.Given as goal

-- with the entries of the equations that are left, the entries so far are all
abbrev pub invariant-loop-eq : goal.invariant-loop-eq
invariant-loop-eq g l =
    let source = g.R.RowSource in
    record {
      low : 1 ≤ l.eq;
      rows : source.rows l.rows ≡ source.rows l.fn.rows;
      entries : l.entries.items ++ flat_map (entries_in l.kind (source.rows l.fn.rows)) (range_with_len l.eq (65 - l.eq))
          ≡ l.fn.entries.items ++ entries_of_kind l.kind (source.rows l.fn.rows);
    }
