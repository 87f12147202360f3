-- What is written and the members of the sets that are left are the whole.
use Rattle.std.proofs.Common.{◌≡◌, ◌++◌, ◌-◌}
use Rattle.std.specs.List.{flat_map, range_with_len}
use Rattle.plan_files.specs.Texts.{records_text}
use Rattle.data_tables.specs.DataTexts.{set_records, sets_text}
use Rattle.data_tables.proofs.sets.sets_text.Given as goal

abbrev pub invariant-loop-set : goal.invariant-loop-set
invariant-loop-set l = l.lines ++ records_text (flat_map (set_records l.sets) (range_with_len l.set (12 - l.set))) ≡ sets_text l.sets
