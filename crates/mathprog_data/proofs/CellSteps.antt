-- How the machine that reads statements takes the values of a row.
use Rattle.mathprog_data.proofs.Common.{◌≡◌, ◌≢◌, ℕ, ◌<◌, Bool, true, List, [], ◌∷◌, length, Option, refl, ap, ◌∙◌, arith, Mark, Word, InRow, Go, Emit, ValueGiven, row_left, cell, number, Slice, Name, Number, given, cell_index}
use Rattle.mathprog_data.specs.declared.words.Word.TheVariants as words

module _ (param : ℕ) (slice : Slice) (transposed : Bool) (columns : List Name) (row : Name) (mark : Mark) where
  -- the row goes on where columns are left
  pub row_left-more : (left : List Name) → 0 < length left → row_left param slice transposed columns row mark left ≡ InRow param slice transposed columns row mark left true
  row_left-more [] h = absurd (omega (arith, h))
  row_left-more (column ∷ left) h = refl

  -- `.` gives nothing
  pub cell-point : (left more : List Name) (column : Name) (w : Word) (n : Option Number) → left ≡ column ∷ more → w ≡ words.Point → cell param slice transposed columns row mark left w n ≡ Go (row_left param slice transposed columns row mark more)
  cell-point left more column w n e f = ap (λ ls. cell param slice transposed columns row mark ls w n) e ∙ ap (λ x. cell param slice transposed columns row mark (column ∷ more) x n) f

  value-at : (more : List Name) (column : Name) (w : Word) (n : Option Number) → w ≢ words.Point → cell param slice transposed columns row mark (column ∷ more) w n ≡ number n (λ v. Emit (ValueGiven (given (cell_index slice transposed row column) v mark)) (row_left param slice transposed columns row mark more))
  value-at more column words.Data n f = refl
  value-at more column words.Set n f = refl
  value-at more column words.Param n f = refl
  value-at more column words.End n f = refl
  value-at more column words.Default n f = refl
  value-at more column words.Tr n f = refl
  value-at more column words.Point n f = absurd (f refl)
  value-at more column words.Other n f = refl

  -- any other symbol is the value
  pub cell-value : (left more : List Name) (column : Name) (w : Word) (n : Option Number) → left ≡ column ∷ more → w ≢ words.Point → cell param slice transposed columns row mark left w n ≡ number n (λ v. Emit (ValueGiven (given (cell_index slice transposed row column) v mark)) (row_left param slice transposed columns row mark more))
  cell-value left more column w n e f = ap (λ ls. cell param slice transposed columns row mark ls w n) e ∙ value-at more column w n f
