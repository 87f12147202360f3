use Rattle.int_tableau.proofs.Common.{◌≡◌, ◌<◌, List, length, sym, ap, ◌∙◌, subst, IfSome, get_or_default, Line, line_of, no_line, Counted}
use Rattle.int_tableau.specs.Shorts.{AreOf}
use Rattle.int_tableau.proofs.ListLaws.{HaveColumns-at}
use Rattle.int_tableau.proofs.tableau.Tableau.short_numbers.Goals as goal

pub short_numbers-requires : goal.short_numbers-requires
short_numbers-requires c =
    let lines : List Line = c.self.inside.lines.items in
    let within : c.args.row < length lines = subst (λ (t : Counted). c.args.row < length t.tableau.lines) (sym c.self.view_is) c.requires.row in
    let columns : c.args.column < c.self.inside.columns = subst (λ (t : Counted). c.args.column < t.tableau.columns) (sym c.self.view_is) c.requires.column in
    let same : length c.index.result.now.entries ≡ c.self.inside.columns = ap (λ (l : Line). length l.entries) c.index.ensures ∙ HaveColumns-at c.self.inside.columns lines c.args.row c.index.result.now c.self.invariant.have_columns within in
    subst (λ n. c.args.column < n) (sym same) columns

pub returns : goal.returns
returns c =
    let lines : List Line = c.self.inside.lines.items in
    let within : c.args.row < length lines = subst (λ (t : Counted). c.args.row < length t.tableau.lines) (sym c.self.view_is) c.requires.row in
    let line : c.index.result.now ≡ line_of c.args.self.now.tableau c.args.row =
    c.index.ensures ∙ get_or_default lines c.args.row c.index.result.now no_line within ∙ ap (λ (t : Counted). line_of t.tableau c.args.row) c.self.view_is in
    subst (λ (l : Line). IfSome c.short_numbers.result (AreOf l c.args.column)) line c.short_numbers.ensures
