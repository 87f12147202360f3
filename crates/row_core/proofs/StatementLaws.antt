-- The test whether a statement is true answers what the statement says.
use Rattle.row_core.proofs.Common.{◌≡◌, true, arith, ℤ, ints, Decides-int_eq, ◌≤ℤ◌, int_le, Sense, Statement, Stands, stands, Holds, holds}
use Rattle.row_core.specs.declared.Sense.TheVariants.{Least, Equal, Most}

le_from_test : (a b : ℤ) → int_le a b ≡ true → a ≤ℤ b
le_from_test a b h = grind (arith, ints)

le_to_test : (a b : ℤ) → a ≤ℤ b → int_le a b ≡ true
le_to_test a b h = grind (arith, ints)

pub stands_sound : (sense : Sense) (left right : ℤ) → stands sense left right ≡ true → Stands sense left right
stands_sound Least left right h = le_from_test right left h
stands_sound Equal left right h = (Decides-int_eq left right).0 h
stands_sound Most left right h = le_from_test left right h

pub stands_complete : (sense : Sense) (left right : ℤ) → Stands sense left right → stands sense left right ≡ true
stands_complete Least left right h = le_to_test right left h
stands_complete Equal left right h = (Decides-int_eq left right).1 h
stands_complete Most left right h = le_to_test left right h

-- a statement that passes the test is true
pub holds_sound : (s : Statement) → holds s ≡ true → Holds s
holds_sound s h = stands_sound s.sign s.left s.right h
