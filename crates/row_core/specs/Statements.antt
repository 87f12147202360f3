-- A statement is an equation or an inequality between two whole numbers.
use Rattle.std.specs.Prelude.{◌≡◌, ℤ, ◌≤ℤ◌, Bool, int_le}
use Rattle.std.specs.Ordering.{int_eq}
use Rattle.row_core.specs.declared.Sense.{Sense}
use Rattle.row_core.specs.declared.Sense.TheVariants.{Least, Equal, Most}

-- two sides, and how the left one stands to the right one
pub record Statement : Type 0 where
  pub left : ℤ
  pub sign : Sense
  pub right : ℤ

-- the left side is at least, is equal to, or is at most the right side
abbrev pub Stands : Sense → ℤ → ℤ → Type 0
Stands Least left right = right ≤ℤ left
Stands Equal left right = left ≡ right
Stands Most left right = left ≤ℤ right

-- the statement is true
abbrev pub Holds : Statement → Type 0
Holds statement = Stands statement.sign statement.left statement.right

-- the same, as a test
abbrev pub stands : Sense → ℤ → ℤ → Bool
stands Least left right = int_le right left
stands Equal left right = int_eq left right
stands Most left right = int_le left right

-- the test whether the statement is true
abbrev pub holds : Statement → Bool
holds statement = stands statement.sign statement.left statement.right
