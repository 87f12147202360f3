-- The heads so far.
use Rattle.plan_tables.proofs.Common.{◌≡◌, [], map, take, fields_of, partial_of, column_word}
use Rattle.plan_tables.proofs.columns.push_header.Given as goal

abbrev pub invariant-loop-place : goal.invariant-loop-place
invariant-loop-place l = record {
  fields : fields_of l.fields ≡ map column_word (take l.place-index l.columns);
  whole : partial_of l.fields ≡ [];
}
