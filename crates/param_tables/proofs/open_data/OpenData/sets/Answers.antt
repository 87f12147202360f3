use Rattle.param_tables.proofs.Common.{subst, AreComplete, Built}
use Rattle.param_tables.proofs.OpenLaws.{complete_opened}
use Rattle.param_tables.proofs.open_data.OpenData.sets.Goals as goal

pub returns-clause-complete : goal.returns-clause-complete
returns-clause-complete c = subst (λ (b : Built). AreComplete b.facts) c.self.view_is (complete_opened c.self.inside.sets c.self.inside.tables.items c.self.inside.second c.self.invariant)
