-- The next entry is put after those before it.
use Rattle.variable_elimination.proofs.Common.{ap, ◌∙◌, insert_entry}
use Rattle.variable_elimination.proofs.ValueSteps.{insert-next}
use Rattle.variable_elimination.proofs.values.by_key.Goals as goal

pub loop-key-preserved : goal.loop-key-preserved
loop-key-preserved g c =
    let e = c.loop-key-item.result in
    c.in_ok-insert.ensures.entries ∙ ap (λ es. insert_entry g.K.Ord.cmp es e.0 e.1) c.loop-key.invariant
    ∙ insert-next g.K.Ord.cmp g.met.K.Ord.total c.args.entries.now c.loop-key.key-index e e c.loop-key-test.true c.loop-key-item.is c.requires
