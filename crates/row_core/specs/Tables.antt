-- What the code's tables of kinds and of equations say. Private functions alone cite these definitions.
use Rattle.std.specs.Prelude.{ℕ, Bool, List}
use Rattle.std.specs.Borrow.{Bor}
use Rattle.row_core.specs.Equations.{Equation}
use Rattle.row_core.specs.Kinds.{Kind}

-- the kind that an entry of the table describes
abbrev pub described_kind : Bor (List ℕ) × Bor (List ℕ) × Bool → Kind
described_kind (word, subscripts, free) = record { word = word.now; subscripts = subscripts.now; free = free }

-- the equation that an entry of the table describes
abbrev pub described_equation : Bor (List ℕ) × Bor (List ℕ) → Equation
described_equation (word, subscripts) = record { word = word.now; subscripts = subscripts.now }
