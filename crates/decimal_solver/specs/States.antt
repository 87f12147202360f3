-- The grid's tableau between two pivots.
use Rattle.std.specs.Prelude.{ℕ, ℤ, List}
use Rattle.decimal_solver.specs.Lines.{Line}

-- a row with its basic column, and the number that it was divided by, negative where it was multiplied by -1
pub record GridRow : Type 0 where
  pub line : Line
  pub basic : ℕ
  pub scale : ℤ

-- x0 is still to be taken in; x0 is basic; x0 isn't there
pub data Phase : Type 0 where
  Start : Phase
  One : Phase
  Two : Phase

-- the rows, the line of z, that of w, the slack of the first row, and how many columns there are: x0 is the last of them while it is there, and what lines have in columns after them counts for nothing
pub record State : Type 0 where
  pub rows : List GridRow
  pub cost : Line
  pub artificial : Line
  pub phase : Phase
  pub slack : ℕ
  pub columns : ℕ
  pub pivots : ℕ
  pub degenerate : ℕ
