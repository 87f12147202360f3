-- Tests of columns, and numbers as calls read them.
use Rattle.row_problem.proofs.Common.{◌≡◌, ◌≢◌, ℕ, ◌<◌, ◌≤◌, ℤ, true, false, ap, ap₂, ◌∙◌, arith, to_z, of_z, w128, nat_tests, nat_lt, ◌==◌}
use Rattle.decimal_solver.proofs.Words.{reduced_number}

-- ---- tests

pub nat_lt-yes : (a b : ℕ) → a < b → nat_lt a b ≡ true
nat_lt-yes a b h = grind (arith, nat_tests)

pub nat_lt-no : (a b : ℕ) → b ≤ a → nat_lt a b ≡ false
nat_lt-no a b h = grind (arith, nat_tests)

pub same-yes : (a b : ℕ) → a ≡ b → (a == b) ≡ true
same-yes a b h = grind (arith, nat_tests)

pub same-no : (a b : ℕ) → a ≢ b → (a == b) ≡ false
same-no a b h = grind (arith, nat_tests)

-- ---- what is formed

-- a number as a call reads it
abbrev pub read : ℤ → ℤ
read z = to_z w128 (of_z w128 z)

pub reduced-read : (q n a b : ℤ) → read q ≡ q → read n ≡ n → b ≡ a → reduced_number (read q) (read n) b ≡ reduced_number q n a
reduced-read q n a b e f g = ap₂ (λ x y. reduced_number x y b) e f ∙ ap (reduced_number q n) g
