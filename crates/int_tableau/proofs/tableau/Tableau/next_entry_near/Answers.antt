-- A line has as many entries as there are columns.
use Rattle.int_tableau.proofs.Common.{◌≡◌, ◌<◌, ◌^◌, ◌∙◌, List, length, sym, ap, subst, arith, IfSome_then, Line, Counted}
use Rattle.int_tableau.proofs.ListLaws.{HaveColumns-at}
use Rattle.int_tableau.proofs.tableau.Tableau.next_entry_near.Goals as goal

pub returns-clause-column : goal.returns-clause-column
returns-clause-column c =
    let n = c.self.inside.columns in
    let lines : List Line = c.self.inside.lines.items in
    let line : Line = c.index.result.now in
    let within : c.args.row < length lines = subst (λ (t : Counted). c.args.row < length t.tableau.lines) (sym c.self.view_is) c.requires in
    let same : length line.entries ≡ c.args.self.now.tableau.columns =
    ap (λ (l : Line). length l.entries) c.index.ensures ∙ HaveColumns-at n lines c.args.row line c.self.invariant.have_columns within ∙ ap (λ (t : Counted). t.tableau.columns) c.self.view_is in
    IfSome_then c.next_entry_near.result c.next_entry_near.ensures.found (λ e h. subst (λ m. e.0 < m) same h.within)

pub returns-clause-countable : goal.returns-clause-countable
returns-clause-countable c =
    let n = c.self.inside.columns in
    let lines : List Line = c.self.inside.lines.items in
    let line : Line = c.index.result.now in
    let within : c.args.row < length lines = subst (λ (t : Counted). c.args.row < length t.tableau.lines) (sym c.self.view_is) c.requires in
    let same : length line.entries ≡ n = ap (λ (l : Line). length l.entries) c.index.ensures ∙ HaveColumns-at n lines c.args.row line c.self.invariant.have_columns within in
    let fits : n < 2 ^ 64 = c.self.invariant.countable in
    IfSome_then c.next_entry_near.result c.next_entry_near.ensures.found (λ e h. let below : e.0 < length line.entries = h.within in omega arith)
