-- The next variable of two rows that are read side by side.
use Rattle.std.specs.Prelude.{◌≡◌, ℕ, ℤ, drop, List, ◌∷◌}
use Rattle.exact_num.specs.Range.{InRange}
use Rattle.row_core.specs.declared.Var.{Var}
use Rattle.row_core.specs.declared.merging.Next.{Next}
use Rattle.row_core.specs.Combined.{beside}

-- it comes next, and the rows from the new positions on come after it
pub record IsNext (es : List (Var × ℤ)) (left : ℕ) (os : List (Var × ℤ)) (right : ℕ) (next : Next) : Type 0 where
  pub first : beside (drop left es) (drop right os) ≡ record { variable = next.variable; number = next.number; other = next.other } ∷ beside (drop next.left es) (drop next.right os)
  pub number_fits : InRange next.number
  pub other_fits : InRange next.other
