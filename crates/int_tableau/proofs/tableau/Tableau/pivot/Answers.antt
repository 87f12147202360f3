-- The other lines are cleared, and the counted pivot gives the place.
use Rattle.int_tableau.proofs.Common.{◌≡◌, ◌<◌, ◌↔◌, ◌∙◌, ℕ, pos, List, length, get_or, set, sym, ap, subst, arith, ◌<ℤ◌, length-set, IsShaped, Line, entry_of, Solves, Solves-pivoted, Solves-before, HaveColumns, Counted}
use Rattle.written_method.specs.Tableaus.{Tableau as Written, no_line, line_of, pivoted}
use Rattle.written_method.proofs.BasisLaws.{IsShaped-pivoted}
use Rattle.int_tableau.proofs.ListLaws.{HaveColumns-at}
use Rattle.int_tableau.proofs.TableauLaws.{HaveColumns-pivoted, AreBelow-set, length-pivoted, IsShaped-of}
use Rattle.int_tableau.proofs.tableau.Tableau.pivot.Goals as goal

pub invariant_of-self : goal.invariant_of-self
invariant_of-self c =
    let n = c.self.inside.columns in
    let lines : List Line = c.self.inside.lines.items in
    let basics : List ℕ = c.self.inside.basics.items in
    let row = c.args.row in
    let column = c.args.column in
    let pivot : Line = get_or lines row no_line in
    let shape : Written = record { lines = lines; basics = basics; columns = n } in
    let in_basics : row < length basics = subst (λ (t : Counted). row < length t.tableau.basics) (sym c.self.view_is) c.requires.row in
    let below : column < n = subst (λ (t : Counted). column < t.tableau.columns) (sym c.self.view_is) c.requires.column in
    let positive : pos 0 <ℤ entry_of pivot column = subst (λ (t : Counted). pos 0 <ℤ entry_of (line_of t.tableau row) column) (sym c.self.view_is) c.requires.positive in
    let more : length basics < length lines = c.self.invariant.line_of_z in
    let columns : length pivot.entries ≡ n = HaveColumns-at n lines row no_line c.self.invariant.have_columns (omega arith) in
    let after : IsShaped (pivoted row column shape) = IsShaped-pivoted shape row column (IsShaped-of n lines basics c.self.invariant) in_basics positive in
    record {
      have_columns = subst (HaveColumns n) (sym c.in-Ok.ensures.value) (HaveColumns-pivoted n lines row column pivot c.self.invariant.have_columns columns);
      below = AreBelow-set n basics row column c.self.invariant.below below;
      countable = c.self.invariant.countable;
      line_of_z = omega (arith, length-set {A = ℕ}, ap (λ (ls : List Line). length ls) c.in-Ok.ensures.value, length-pivoted lines row column pivot);
      no_own = subst (λ (ls : List Line). (i : ℕ) → i < length (set basics row column) → (get_or ls i no_line).own ≡ pos 0) (sym c.in-Ok.ensures.value) after.rows_own;
    }

pub returns-clause-solutions : goal.returns-clause-solutions
returns-clause-solutions c v owns =
    let self : Counted = c.args.self in
    let row = c.args.row in
    let column = c.args.column in
    let basics : List ℕ = c.self.inside.basics.items in
    let shaped : IsShaped self.tableau = subst (λ (t : Counted). IsShaped t.tableau) c.self.view_is (IsShaped-of c.self.inside.columns c.self.inside.lines.items basics c.self.invariant) in
    let after : Written = record { lines = c.clear_others-cleared.new.lines.items; basics = set basics row column; columns = c.self.inside.columns } in
    let is : after ≡ pivoted row column self.tableau =
    ap {B = Written} (λ (ls : List Line). record { lines = ls; basics = set basics row column; columns = c.self.inside.columns }) c.in-Ok.ensures.value
    ∙ ap (λ (t : Counted). pivoted row column t.tableau) c.self.view_is in
    subst (λ (t : Written). Solves t v owns ↔ Solves self.tableau v owns) (sym is)
    (λ h. Solves-before self.tableau row column v owns shaped c.requires.row c.requires.positive h, λ h. Solves-pivoted self.tableau row column v owns shaped c.requires.row c.requires.positive h)
