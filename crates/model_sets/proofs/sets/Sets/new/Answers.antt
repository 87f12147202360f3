use Rattle.model_sets.proofs.Common.{◌≡◌, sym, ap, subst, ◌∙◌, [], replicate, arith, AreSets}
use Rattle.model_sets.proofs.SetLaws.{no_members_are}
use Rattle.model_sets.proofs.sets.Sets.new.Goals as goal

pub invariant_of-result : goal.invariant_of-result
invariant_of-result c =
    let ended : c.loop.counter ≡ 11 = omega (arith, c.loop.auto.counter-end, c.loop-test.false) in
    subst AreSets (sym (c.loop.invariant ∙ ap (λ n. replicate n []) ended)) no_members_are
