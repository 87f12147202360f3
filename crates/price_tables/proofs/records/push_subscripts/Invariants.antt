-- The fields so far.
use Rattle.std.proofs.Common.{◌≡◌, ◌++◌, [], map, take}
use Rattle.csv.specs.Records.{fields_of, partial_of}
use Rattle.plan_files.specs.Records.{subscript_field}
use Rattle.row_core.specs.Equations.{equation_has}
use Rattle.price_tables.proofs.records.push_subscripts.Given as goal

abbrev pub invariant-loop-place : goal.invariant-loop-place
invariant-loop-place l = record {
  fields : fields_of l.fields ≡ fields_of l.fn.fields ++ map (subscript_field l.sets (equation_has l.fn.name.eq) l.fn.name.index) (take l.place-index l.places);
  whole : partial_of l.fields ≡ [];
}
