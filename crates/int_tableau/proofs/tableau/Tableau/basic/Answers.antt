use Rattle.int_tableau.proofs.Common.{◌<◌, ℕ, List, length, get_or, sym, subst, Counted}
use Rattle.int_tableau.proofs.TableauLaws.{AreBelow-at}
use Rattle.int_tableau.proofs.tableau.Tableau.basic.Goals as goal

pub returns-clause-column : goal.returns-clause-column
returns-clause-column c =
    let basics : List ℕ = c.self.inside.basics.items in
    let within : c.args.row < length basics = subst (λ (t : Counted). c.args.row < length t.tableau.basics) (sym c.self.view_is) c.requires in
    let below : get_or basics c.args.row c.index.result.now < c.self.inside.columns = AreBelow-at c.self.inside.columns basics c.args.row c.index.result.now c.self.invariant.below within in
    subst (λ (t : Counted). c.index.result.now < t.tableau.columns) c.self.view_is (subst (λ n. n < c.self.inside.columns) (sym c.index.ensures) below)
