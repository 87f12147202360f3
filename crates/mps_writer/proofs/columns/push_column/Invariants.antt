use Rattle.mps_writer.proofs.Common.{◌≡◌, ◌++◌, drop, following, lines_of}
use Rattle.mps_writer.proofs.columns.push_column.Given as goal

-- with the lines of the entries that are left, the lines so far are those of the column
abbrev pub invariant-loop-i : goal.invariant-loop-i
invariant-loop-i l = record {
  text : l.out.items ++ lines_of l.column l.fn.var (drop l.i l.entries) ≡ l.fn.out.items ++ lines_of l.column l.fn.var (drop l.fn.from l.entries);
  rest : following l.fn.var (drop l.i l.entries) ≡ following l.fn.var (drop l.fn.from l.entries);
}
