-- The members so far.
use Rattle.plan_tables.proofs.Common.{◌≡◌, ◌++◌, [], map, take, fields_of, partial_of, member}
use Rattle.plan_tables.proofs.values.push_members.Given as goal

abbrev pub invariant-loop-place : goal.invariant-loop-place
invariant-loop-place l = record {
  fields : fields_of l.fields ≡ fields_of l.fn.fields ++ map (member l.sets l.fn.at) (take l.place-index l.places);
  whole : partial_of l.fields ≡ [];
}
