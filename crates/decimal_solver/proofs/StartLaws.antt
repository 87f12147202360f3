-- Where variables have their columns.
use Rattle.row_problem.proofs.Common.{ℕ, zero, suc, ◌+◌, ◌<◌, ◌≤◌, Bool, true, false, List, [], ◌∷◌, length, get_or, arith, if◌then◌else◌, Var, width_of, is_split}
use Rattle.int_tableau.specs.Starts.{after_columns, placed}

-- the columns of a variable are among those of all
pub placed-within : (low : ℕ) (vs : List Var) (i : ℕ) (d : Var × ℕ) → i < length (placed low vs) → (get_or (placed low vs) i d).1 + 1 ≤ low + width_of vs
placed-within low [] i d h = absurd (omega arith)
placed-within low (v ∷ vs) zero d h = first (is_split v)
  where
    first : (s : Bool) → low + 1 ≤ low + (if s then suc (suc (width_of vs)) else suc (width_of vs))
    first true = omega arith
    first false = omega arith
placed-within low (v ∷ vs) (suc i) d h = rest (is_split v) (get_or (placed (after_columns (is_split v) low) vs) i d).1 (placed-within (after_columns (is_split v) low) vs i d (omega arith))
  where
    rest : (s : Bool) (c : ℕ) → c + 1 ≤ after_columns s low + width_of vs → c + 1 ≤ low + (if s then suc (suc (width_of vs)) else suc (width_of vs))
    rest true c k = omega arith
    rest false c k = omega arith
