-- Set by set.
use Rattle.param_tables.proofs.Common.{◌+◌, ◌<◌, [], length, sym, ◌∙◌, arith, get_or_default, same_lists}
use Rattle.param_tables.proofs.copied_sets.copied_sets.Goals as goal

pub returns : goal.returns
returns c = same_lists c.loop-set.copy c.args.sets.now (c.loop-set.invariant.all ∙ sym c.requires.eleven) (λ j d below.
    let within : j + 1 < c.loop-set.set = omega (arith, below, c.loop-set.invariant.all, c.loop-set-test.false) in
    let there : j < length c.args.sets.now = omega (arith, below, c.loop-set.invariant.all, c.requires.eleven) in
    get_or_default c.loop-set.copy j d [] below ∙ c.loop-set.invariant.done j within ∙ get_or_default c.args.sets.now j [] d there)
