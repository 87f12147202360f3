-- The positions that are left make of the left side what all of them make of the first.
use Rattle.equation_parts.proofs.Common.{◌≡◌, ℕ, drop, with_amounts, each, less}
use Rattle.row_core.specs.declared.Var.{Var}
use Rattle.equation_parts.proofs.shapes.take_away_each.Given as goal

abbrev pub invariant-loop-position : goal.invariant-loop-position
invariant-loop-position g l =
    (of : ℕ → Var) → ((i : ℕ) (given : Var) → goal.F-post g l.fn.variable i given → given ≡ of i)
    → with_amounts (each l.fn.positions (λ i. less (of i))) l.fn.left ≡ with_amounts (each (drop l.position-index l.positions) (λ i. less (of i))) l.left
