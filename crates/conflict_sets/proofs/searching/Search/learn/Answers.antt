-- A name more, with the plan at its place.
use Rattle.std.proofs.Common.{ap, ap₂, sym, ◌∙◌}
use Rattle.conflict_sets.specs.Searches.{all_needed, needed_after, paired}
use Rattle.conflict_sets.proofs.PairLaws.{paired-more}
use Rattle.conflict_sets.proofs.searching.Search.learn.Goals as goal

pub returns-in_ok-push-in-Plan-2-clause-needed : goal.returns-in_ok-push-in-Plan-2-clause-needed
returns-in_ok-push-in-Plan-2-clause-needed c =
    let s = c.args.self.now in
    ap₂ (λ ns ps. paired ns ps) c.in_ok-push-in-Plan.ensures.items c.in_ok-push-in-Plan-2.ensures.items
    ∙ paired-more s.names.items s.plans.items c.args.name c.in-Plan.plan c.requires.even
    ∙ sym (ap (λ finding. needed_after c.args.name finding (all_needed s)) c.in-Plan.is)
