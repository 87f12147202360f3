-- The members so far and those that are left are all.
use Rattle.plan_compare.proofs.Common.{◌≡◌, ◌++◌, ◌-◌, [], map, filter, range_with_len, fields_of, partial_of, member, counts}
use Rattle.plan_files.specs.Records.{places}
use Rattle.plan_compare.proofs.records.push_members.Given as goal

abbrev pub invariant-loop-place : goal.invariant-loop-place
invariant-loop-place l = record {
  fields : fields_of l.fields ++ map (member l.sets l.at) (filter (counts l.section.by_year l.section.kind) (range_with_len l.place (8 - l.place)))
      ≡ fields_of l.fn.fields ++ map (member l.sets l.at) (filter (counts l.section.by_year l.section.kind) places);
  whole : partial_of l.fields ≡ [];
}
