use Rattle.model_maker.specs.MadeText.{year_lines}
use Rattle.model_maker.specs.Tables.{records_told}
use Rattle.model_maker.proofs.Years.{after_year}
use Rattle.model_maker.proofs.lines.push_records.Goals as goal

pub loop-k-preserved : goal.loop-k-preserved
loop-k-preserved c = after_year (year_lines (records_told c.args.records.now)) c.loop-k.k c.args.years _ _ _ c.loop-k-test.true c.in_ok-push_year.ensures c.loop-k.invariant
