-- The code's number is that of the rough line.
use Rattle.simplex_core.proofs.Common.{◌≡◌, sym, ap₂, ◌∙◌, subst, to_z, of_z, w128, InRange, IfOk-equal, back_in_range, entry_of, less, Tableau, line_of, rough_of, x0_in}
use Rattle.simplex_core.proofs.KeptChoiceLaws.{rough-entry}
use Rattle.simplex_core.proofs.kept_choice.rough_entry.Goals as goal

pub returns-clause-value : goal.returns-clause-value
returns-clause-value c =
    let t : Tableau = c.args.tableau.now.tableau in
    let h = c.args.home in
    let d = x0_in t in
    let a : to_z w128 (of_z w128 h.at_x0) ≡ entry_of (line_of t h.row) d = back_in_range h.at_x0 h.at_x0_fits ∙ c.requires.home.at_x0_is in
    let b : to_z w128 (of_z w128 c.last_entry.result) ≡ entry_of (line_of t c.args.row) d = back_in_range c.last_entry.result (subst InRange (sym c.last_entry.ensures.value) c.last_entry.ensures.range) ∙ c.last_entry.ensures.value in
    let x : to_z w128 (of_z w128 c.entry.result) ≡ entry_of (line_of t c.args.row) h.column = back_in_range c.entry.result (subst InRange (sym c.entry.ensures.value) c.entry.ensures.range) ∙ c.entry.ensures.value in
    let y : to_z w128 (of_z w128 h.entry) ≡ entry_of (line_of t h.row) h.column = back_in_range h.entry h.entry_fits ∙ c.requires.home.entry_is in
    let same : less (to_z w128 (of_z w128 h.at_x0)) (to_z w128 (of_z w128 c.last_entry.result)) (to_z w128 (of_z w128 c.entry.result)) (to_z w128 (of_z w128 h.entry)) ≡ entry_of (rough_of t h.row d c.args.row) h.column =
    ap₂ (λ p q. less p q (to_z w128 (of_z w128 c.entry.result)) (to_z w128 (of_z w128 h.entry))) a b
    ∙ ap₂ (λ p q. less (entry_of (line_of t h.row) d) (entry_of (line_of t c.args.row) d) p q) x y
    ∙ rough-entry t h.row d c.args.row h.column c.requires.home.kept c.requires.row c.if-row-home.false in
    IfOk-equal (λ z. z) c.less.result same c.less.ensures.value
