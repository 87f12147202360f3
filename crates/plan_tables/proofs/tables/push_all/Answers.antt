-- Kind by kind.
use Rattle.plan_tables.proofs.Common.{arith, named_text}
use Rattle.plan_tables.proofs.KindLaws.{text_next}
use Rattle.plan_tables.proofs.tables.push_all.Goals as goal

pub loop-kind-preserved : goal.loop-kind-preserved
loop-kind-preserved c =
    text_next (named_text c.args.sets.now c.args.form c.args.plan.now) c.loop-kind.kind c.loop-kind.out.items c.push_named.new.out.items _ (omega (arith, c.loop-kind-test.true)) c.loop-kind.invariant c.in_ok-push_named.ensures
