-- Fewer entries are left of two lines that are merged.
use Rattle.row_problem.proofs.Common.{◌≡◌, ℕ, ◌+◌, ◌-◌, ◌<◌, List, ◌∷◌, length, drop, ap, arith, length-drop}
use Rattle.decimal_solver.proofs.Words.{Entry}

pub one-fewer : (xs : List Entry) (i : ℕ) (x : Entry) (more : List Entry) → drop i xs ≡ x ∷ more → length xs - (i + 1) < length xs - i
one-fewer xs i x more e = omega (arith, length-drop i xs, ap length e)
