use Rattle.mps_writer.proofs.Common.{◌≡◌, ◌≤◌, ◌+◌, ◌++◌, drop, length, flat_map, enumerate_from, Rises, column_text, numbered}
use Rattle.mps_writer.proofs.columns.push_columns.Given as goal

-- with the columns that are left, over the entries that are left, the lines so far are those of all columns
abbrev pub invariant-loop-place : goal.invariant-loop-place
invariant-loop-place l = record {
  text :
      l.out.items ++ flat_map (column_text l.sets (drop l.next l.entries)) (enumerate_from (l.place + 1) (drop l.place l.vars))
      ≡ l.fn.out.items ++ flat_map (column_text l.sets l.entries) (numbered l.vars);
  rises : Rises (drop l.next l.entries);
  within : l.next ≤ length l.entries;
}
