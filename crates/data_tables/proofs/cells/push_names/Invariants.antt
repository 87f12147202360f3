-- The names so far and those that are left are the whole.
use Rattle.std.proofs.Common.{◌≡◌, ◌++◌, [], drop}
use Rattle.csv.specs.Records.{fields_of, partial_of}
use Rattle.param_tables.specs.Positions.{names_over}
use Rattle.data_tables.proofs.cells.push_names.Given as goal

abbrev pub invariant-loop-place : goal.invariant-loop-place
invariant-loop-place l = record {
  fields : fields_of l.fields ++ names_over l.sets (drop l.place l.over) (drop l.place l.at) ≡ fields_of l.fn.fields ++ names_over l.sets l.over l.at;
  whole : partial_of l.fields ≡ [];
}
