-- Region by region.
use Rattle.std.proofs.lemmas.Grind.{flat_map-append}
use Rattle.csv.specs.Writing.{default_writer, row_text}
use Rattle.plan_files.specs.Texts.{records_text}
use Rattle.data_tables.specs.WorthTables.{region_records}
use Rattle.data_tables.proofs.WrittenLaws.{ranged_next}
use Rattle.data_tables.proofs.worth.worth_text.Goals as goal

pub loop-region-preserved : goal.loop-region-preserved
loop-region-preserved c =
    ranged_next records_text (flat_map-append (row_text default_writer)) (region_records c.args.form c.args.places c.args.model.now.facts) c.loop-region.region c.count-region-end.result c.loop-region.lines c.push_region.new.lines _
    c.loop-region-test.true c.loop-region.invariant c.in_ok-push_region.ensures
