use Rattle.int_tableau.proofs.Common.{◌≡◌, ◌<◌, ◌-◌, ℕ, List, length, sym, ap, ap₂, ◌∙◌, subst, get_or_default, InRange, back_in_range, Line, entry_of, line_of, no_line, Counted}
use Rattle.int_tableau.proofs.ListLaws.{HaveColumns-at}
use Rattle.int_tableau.proofs.tableau.Tableau.last_entry.Goals as goal

pub last_entry-requires : goal.last_entry-requires
last_entry-requires c =
    let lines : List Line = c.self.inside.lines.items in
    let within : c.args.row < length lines = subst (λ (t : Counted). c.args.row < length t.tableau.lines) (sym c.self.view_is) c.requires.row in
    let many : length c.index.result.now.entries ≡ c.args.self.now.tableau.columns =
    ap (λ (l : Line). length l.entries) c.index.ensures
    ∙ HaveColumns-at c.self.inside.columns lines c.args.row c.index.result.now c.self.invariant.have_columns within
    ∙ ap (λ (t : Counted). t.tableau.columns) c.self.view_is in
    subst (λ n. 0 < n) (sym many) c.requires.some

-- the last entry of the line is that in the last column
found : (c : goal.After-last_entry) → entry_of c.index.result.now (length c.index.result.now.entries - 1) ≡ entry_of (line_of c.args.self.now.tableau c.args.row) (c.args.self.now.tableau.columns - 1)
found c =
    let lines : List Line = c.self.inside.lines.items in
    let within : c.args.row < length lines = subst (λ (t : Counted). c.args.row < length t.tableau.lines) (sym c.self.view_is) c.requires.row in
    let many : length c.index.result.now.entries ≡ c.args.self.now.tableau.columns =
    ap (λ (l : Line). length l.entries) c.index.ensures
    ∙ HaveColumns-at c.self.inside.columns lines c.args.row c.index.result.now c.self.invariant.have_columns within
    ∙ ap (λ (t : Counted). t.tableau.columns) c.self.view_is in
    let line : c.index.result.now ≡ line_of c.args.self.now.tableau c.args.row =
    c.index.ensures ∙ get_or_default lines c.args.row c.index.result.now no_line within ∙ ap (λ (t : Counted). line_of t.tableau c.args.row) c.self.view_is in
    ap₂ (λ (l : Line) (n : ℕ). entry_of l (n - 1)) line many

pub returns-clause-value : goal.returns-clause-value
returns-clause-value c =
    let fits : InRange c.last_entry.result = subst InRange (sym c.last_entry.ensures.value) c.last_entry.ensures.range in
    back_in_range c.last_entry.result fits ∙ c.last_entry.ensures.value ∙ found c

pub returns-clause-range : goal.returns-clause-range
returns-clause-range c = subst InRange (found c) c.last_entry.ensures.range
