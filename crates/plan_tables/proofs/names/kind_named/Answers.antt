-- Kind by kind.
use Rattle.plan_tables.proofs.Common.{sym, ◌∙◌, arith, has_name}
use Rattle.plan_tables.proofs.KindLaws.{find_next}
use Rattle.plan_tables.proofs.names.kind_named.Goals as goal

pub loop-kind-preserved : goal.loop-kind-preserved
loop-kind-preserved c =
    find_next (has_name c.args.name.now) c.loop-kind.kind _ (omega (arith, c.loop-kind-test.true)) (sym c.has_name.ensures ∙ c.if-has_name.false) c.loop-kind.invariant
