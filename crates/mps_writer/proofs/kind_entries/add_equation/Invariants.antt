use Rattle.std.proofs.Common.{◌≡◌, ◌++◌, length, filter}
use Rattle.mps_writer.proofs.Common.{flat_map, is_of_kind, row_entries}
use Rattle.mps_writer.proofs.GatheredLaws.{entries_in}
use Rattle.mps_writer.proofs.kind_entries.add_equation.Given as goal

-- with the entries of the rows that are ahead, the entries so far are those of the equation
abbrev pub invariant-rows : goal.invariant-rows
invariant-rows g l =
    let source = g.R.RowSource in
    record {
      rows : source.rows l.rows ≡ source.rows l.fn.rows;
      entries : l.entries.items ++ filter (is_of_kind l.kind) (flat_map row_entries (source.ahead l.rows)) ≡ l.fn.entries.items ++ entries_in l.kind (source.rows l.fn.rows) l.eq;
    }

abbrev pub decreases-rows : goal.decreases-rows
decreases-rows g l = length (g.R.RowSource.ahead l.rows)
