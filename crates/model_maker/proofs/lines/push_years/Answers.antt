use Rattle.model_maker.specs.MadeText.{year_member}
use Rattle.model_maker.proofs.Years.{after_year}
use Rattle.model_maker.proofs.lines.push_years.Goals as goal

pub loop-k-preserved : goal.loop-k-preserved
loop-k-preserved c = after_year year_member c.loop-k.k c.args.years _ _ _ c.loop-k-test.true c.in_ok-push_year_member.ensures c.loop-k.invariant
