use Rattle.int_tableau.proofs.Common.{◌≡◌, ◌<◌, length, subst, line_of, no_line, Counted}
use Rattle.int_tableau.proofs.ListLaws.{HaveColumns-at}
use Rattle.int_tableau.proofs.tableau.Tableau.columns.Goals as goal

pub returns-clause-lines : goal.returns-clause-lines
returns-clause-lines c r =
    subst (λ (t : Counted). r < length t.tableau.lines → length (line_of t.tableau r).entries ≡ t.tableau.columns) c.self.view_is
    (λ h. HaveColumns-at c.self.inside.columns c.self.inside.lines.items r no_line c.self.invariant.have_columns h)
