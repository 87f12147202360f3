use Rattle.param_tables.proofs.Common.{ℕ, sym, ap₂, ◌∙◌, subst, Data, HaveShapes, AreAllPlaces}
use Rattle.param_tables.proofs.ClosedLaws.{kept_closed, shapes_closed}
use Rattle.param_tables.proofs.open_data.OpenData.close.Goals as goal

pub new-requires-clause-shapes : goal.new-requires-clause-shapes
new-requires-clause-shapes c =
    subst (HaveShapes c.self.inside.sets) (sym c.as_slice.ensures.value) (shapes_closed c.self.inside.sets c.self.inside.tables.items c.self.inside.second c.self.invariant c.in_ok-tables.tables.items c.in_ok-tables.ensures)

pub new-requires-2 : goal.new-requires-2
new-requires-2 c = record {
  kept = (kept_closed c.self.inside.sets c.self.inside.tables.items c.self.inside.second c.self.invariant c.in_ok-tables.tables.items c.in_ok-tables.ensures).0;
  places = subst (λ tables. AreAllPlaces c.self.inside.sets tables c.in_ok-ratios.ratios) c.as_slice.ensures.value c.in_ok-ratios.ensures;
}

pub returns-clause-same : goal.returns-clause-same
returns-clause-same c =
    let same = (kept_closed c.self.inside.sets c.self.inside.tables.items c.self.inside.second c.self.invariant c.in_ok-tables.tables.items c.in_ok-tables.ensures).1 in
    ap₂ (λ (facts : Data) (rounded : ℕ). record { facts = facts; rounded = rounded }) (c.new-2.ensures.facts ∙ sym same) c.new-2.ensures.rounded ∙ c.self.view_is
