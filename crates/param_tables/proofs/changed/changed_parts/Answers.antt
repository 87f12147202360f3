-- The tables mean the data with the value, and the places are theirs.
use Rattle.param_tables.proofs.Common.{sym, subst, AreAllPlaces, HaveShapes}
use Rattle.param_tables.proofs.ChangeLaws.{changed, shapes}
use Rattle.param_tables.proofs.changed.changed_parts.Goals as goal

pub new-requires-clause-shapes : goal.new-requires-clause-shapes
new-requires-clause-shapes c =
    let all = shapes c.args.sets.now c.args.tables.now c.in_ok-tables.tables.items c.args.second c.requires.kept c.args.change.param c.args.change.place c.args.change.value c.requires.used c.requires.place c.requires.value c.in_ok-tables.ensures in
    subst (λ sets. HaveShapes sets c.as_slice.result.now) (sym c.in_ok-sets.ensures) (subst (HaveShapes c.args.sets.now) (sym c.as_slice.ensures.value) all)

pub returns-clause-kept : goal.returns-clause-kept
returns-clause-kept c = record {
  kept = (changed c.args.sets.now c.args.tables.now c.in_ok-tables.tables.items c.args.second c.requires.kept c.args.change.param c.args.change.place c.args.change.value c.requires.used c.requires.place c.requires.value c.in_ok-tables.ensures).0;
  places =
      subst (λ sets. AreAllPlaces sets c.in_ok-tables.tables.items c.in_ok-ratios.ratios) c.in_ok-sets.ensures
      (subst (λ tables. AreAllPlaces c.in_ok-sets.sets tables c.in_ok-ratios.ratios) c.as_slice.ensures.value c.in_ok-ratios.ensures);
}

pub returns-clause-changed : goal.returns-clause-changed
returns-clause-changed c = (changed c.args.sets.now c.args.tables.now c.in_ok-tables.tables.items c.args.second c.requires.kept c.args.change.param c.args.change.place c.args.change.value c.requires.used c.requires.place c.requires.value c.in_ok-tables.ensures).1
