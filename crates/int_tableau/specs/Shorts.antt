-- The numbers of a line that a choice needs.
use Rattle.std.specs.Prelude.{◌≡◌, ℕ, ◌-◌, length}
use Rattle.written_method.specs.Lines.{Line, entry_of}
use Rattle.int_tableau.specs.declared.short_numbers.ShortNumbers.{ShortNumbers}

-- the line's entries in column c and in its last column, and its right side
pub record AreOf (l : Line) (c : ℕ) (s : ShortNumbers) : Type 0 where
  pub entry_is : s.entry ≡ entry_of l c
  pub last_is : s.last ≡ entry_of l (length l.entries - 1)
  pub right_is : s.right ≡ l.right
