-- What a line says of values for all columns, and what a tableau does.
use Rattle.std.specs.Prelude.{◌≡◌, ℕ, suc, ◌<◌, length, ℤ, pos, ◌+ℤ◌, ◌-ℤ◌, ◌*ℤ◌, List, [], ◌∷◌}
use Rattle.written_method.specs.Lines.{Line, entry_of}
use Rattle.written_method.specs.Tableaus.{Tableau, line_of, rows_of}

-- whole numbers over one q, for each column
pub record Values : Type 0 where
  pub q : ℤ
  pub column : ℕ → ℤ

-- the sum of entry times value, from a column on
abbrev pub sum_from : ℕ → List ℤ → (ℕ → ℤ) → ℤ
sum_from c [] x = pos 0
sum_from c (z ∷ zs) x = (z *ℤ x c) +ℤ sum_from (suc c) zs x

-- left side less right side, where the line's own column, if it has one, has the value `own`
abbrev pub excess : Line → Values → ℤ → ℤ
excess line v own = (sum_from 0 line.entries v.column +ℤ (line.own *ℤ own)) -ℤ (line.right *ℤ v.q)

-- the values solve each line; `owns` gives the value at a line's own column
abbrev pub Solves : Tableau → Values → (ℕ → ℤ) → Type 0
Solves t v owns = (i : ℕ) → i < length t.lines → excess (line_of t i) v (owns i) ≡ pos 0

-- the values solve the lines of the rows
abbrev pub SolvesRows : Tableau → Values → Type 0
SolvesRows t v = (i : ℕ) → i < rows_of t → excess (line_of t i) v (pos 0) ≡ pos 0

-- k times a line is a times another less b times a third, number by number, and so is what it says of values
pub record IsCombined (k a b : ℤ) (new line other : Line) : Type 0 where
  pub entries : (c : ℕ) → entry_of new c *ℤ k ≡ (a *ℤ entry_of line c) -ℤ (b *ℤ entry_of other c)
  pub right : new.right *ℤ k ≡ (a *ℤ line.right) -ℤ (b *ℤ other.right)
  pub own : new.own *ℤ k ≡ (a *ℤ line.own) -ℤ (b *ℤ other.own)
  pub excess : (v : Values) (o : ℤ) → excess new v o *ℤ k ≡ (a *ℤ excess line v o) -ℤ (b *ℤ excess other v o)

-- the sum of each first line's excess times the entry at its slack's column, from column `slack` on
abbrev pub weighted : ℕ → List Line → Line → Values → ℤ → ℤ
weighted slack [] line v own = pos 0
weighted slack (first ∷ firsts) line v own = (entry_of line slack *ℤ excess first v own) +ℤ weighted (suc slack) firsts line v own

-- the line is the combination of the first lines that its slack columns name, and of the first line of z (or of w) by its own entry
abbrev pub IsCombination : ℕ → List Line → Line → Line → Type 0
IsCombination slack firsts cost line =
    (v : Values) (o : ℤ) → cost.own *ℤ excess line v o ≡ (cost.own *ℤ weighted slack firsts line v o) +ℤ (line.own *ℤ excess cost v o)
