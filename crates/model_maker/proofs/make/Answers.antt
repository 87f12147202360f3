use Rattle.std.proofs.Common.{◌≤◌, List, ℕ, length, refl, rules, subst, sym}
use Rattle.model_maker.proofs.Sizes.{made_short}
use Rattle.model_maker.proofs.make.Goals as goal

-- the table says the parameters
pub push_parameters-requires-clause-tabled : goal.push_parameters-requires-clause-tabled
push_parameters-requires-clause-tabled c = refl

pub returns-clause-text : goal.returns-clause-text
returns-clause-text c = search rules

pub returns-clause-short : goal.returns-clause-short
returns-clause-short c = subst (λ (text : List ℕ). length text ≤ 100000) (sym (returns-clause-text c)) (made_short c.args.n c.requires.least c.requires.most)
