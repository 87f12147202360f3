use Rattle.mathprog_data.proofs.Common.{ap, sym, subst, ◌∙◌, length, AreWithin, names_at, places_in}
use Rattle.mathprog_data.proofs.ValueLemmas.{names_at-more, within-more}
use Rattle.mathprog_data.proofs.values.point_to.Goals as goal

pub returns-clause-within : goal.returns-clause-within
returns-clause-within c =
    subst (AreWithin (length c.place_of.new.names.items)) (sym c.in_ok-push.ensures) (within-more c.args.names.now.items c.place_of.new.names.items (places_in c.args.index.now) c.in_ok-place.place c.place_of.ensures.grown c.requires c.in_ok-place.ensures.there)

pub returns-clause-named : goal.returns-clause-named
returns-clause-named c =
    ap (names_at c.place_of.new.names.items) c.in_ok-push.ensures
    ∙ names_at-more c.args.names.now.items c.place_of.new.names.items (places_in c.args.index.now) c.in_ok-place.place c.args.name.now c.place_of.ensures.grown c.requires c.in_ok-place.ensures.named
