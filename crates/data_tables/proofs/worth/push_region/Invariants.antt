-- What is written and the records of the years that are left are the whole.
use Rattle.std.proofs.Common.{◌≡◌, ◌++◌, ◌-◌, map}
use Rattle.std.specs.List.{range_with_len}
use Rattle.plan_files.specs.Texts.{records_text}
use Rattle.data_tables.specs.WorthTables.{region_records, worth_record}
use Rattle.data_tables.proofs.worth.push_region.Given as goal

abbrev pub invariant-loop-year : goal.invariant-loop-year
invariant-loop-year l =
    l.lines ++ records_text (map (worth_record l.form l.places l.model.facts l.region) (range_with_len l.year (l.count - l.year)))
    ≡ l.fn.lines ++ records_text (region_records l.form l.places l.model.facts l.region)
