-- Set by set.
use Rattle.std.proofs.Common.{arith}
use Rattle.std.proofs.lemmas.Grind.{flat_map-append}
use Rattle.csv.specs.Writing.{default_writer, row_text}
use Rattle.plan_files.specs.Texts.{records_text}
use Rattle.data_tables.specs.DataTexts.{set_records}
use Rattle.data_tables.proofs.WrittenLaws.{ranged_next}
use Rattle.data_tables.proofs.sets.sets_text.Goals as goal

pub loop-set-preserved : goal.loop-set-preserved
loop-set-preserved c =
    ranged_next records_text (flat_map-append (row_text default_writer)) (set_records c.args.sets.now) c.loop-set.set 12 c.loop-set.lines c.push_set.new.lines _ (omega (arith, c.loop-set-test.true)) c.loop-set.invariant c.in_ok-push_set.ensures
