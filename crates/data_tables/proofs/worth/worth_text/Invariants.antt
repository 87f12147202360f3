-- What is written and the records of the regions that are left are the whole.
use Rattle.std.proofs.Common.{◌≡◌, ◌++◌, ◌-◌}
use Rattle.std.specs.List.{flat_map, range_with_len}
use Rattle.plan_files.specs.Texts.{records_text}
use Rattle.data_tables.specs.WorthTables.{region_records, worth_text}
use Rattle.data_tables.proofs.worth.worth_text.Given as goal

abbrev pub invariant-loop-region : goal.invariant-loop-region
invariant-loop-region l =
    l.lines ++ records_text (flat_map (region_records l.form l.places l.model.facts) (range_with_len l.region (l.region-end - l.region))) ≡ worth_text l.form l.places l.model.facts
