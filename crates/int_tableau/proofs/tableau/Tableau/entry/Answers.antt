use Rattle.int_tableau.proofs.Common.{◌≡◌, ◌<◌, List, length, sym, ap, ◌∙◌, subst, Line, Counted}
use Rattle.int_tableau.proofs.ListLaws.{HaveColumns-at}
use Rattle.int_tableau.proofs.tableau.Tableau.entry.Goals as goal

pub entry-requires : goal.entry-requires
entry-requires c =
    let lines : List Line = c.self.inside.lines.items in
    let within : c.args.row < length lines = subst (λ (t : Counted). c.args.row < length t.tableau.lines) (sym c.self.view_is) c.requires.row in
    let columns : c.args.column < c.self.inside.columns = subst (λ (t : Counted). c.args.column < t.tableau.columns) (sym c.self.view_is) c.requires.column in
    let same : length c.index.result.now.entries ≡ c.self.inside.columns = ap (λ (l : Line). length l.entries) c.index.ensures ∙ HaveColumns-at c.self.inside.columns lines c.args.row c.index.result.now c.self.invariant.have_columns within in
    subst (λ n. c.args.column < n) (sym same) columns
