-- The divisor of right side and own entry first, and then of the entries.
use Rattle.int_tableau.proofs.Common.{◌≡◌, ◌∷◌, ℕ, ℤ, List, sym, ap, ap₂, ◌∙◌, to_z, of_z, w128, common, back_in_range, row_divisor}
use Rattle.row_core.specs.Numbers.{numbers_of as numbers_in}
use Rattle.written_method.specs.Lines.{Line, numbers_of}
use Rattle.int_tableau.proofs.LineLaws.{row_divisor-seen}
use Rattle.int_tableau.proofs.SizeLaws.{divisor-joined}
use Rattle.int_tableau.proofs.line.SparseLine.is_lowest.Goals as goal

pub returns : goal.returns
returns c = λ h.
    let r : ℤ = c.self.inside.right in
    let o : ℤ = c.self.inside.own in
    let es : List (ℕ × ℤ) = c.self.inside.entries in
    let first : to_z w128 (of_z w128 c.gcd.result) ≡ common r o =
    back_in_range c.gcd.result c.gcd.ensures.range ∙ c.gcd.ensures.value ∙ ap₂ common (back_in_range r c.self.invariant.right_fits) (back_in_range o c.self.invariant.own_fits) in
    ap (λ (l : Line). row_divisor (numbers_of l)) (sym c.self.view_is)
    ∙ row_divisor-seen c.self.inside.columns es r o c.self.invariant.entries_sparse
    ∙ sym (divisor-joined r o (numbers_in es))
    ∙ ap (λ z. row_divisor (z ∷ numbers_in es)) (sym first)
    ∙ c.are_lowest.ensures h
