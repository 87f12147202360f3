-- What is carried back from the linear program to the rows: in the words of those who solve the one, and of those who check the others.
use Rattle.std.specs.Prelude.{◌≡◌, ℕ, ℤ, pos, ◌+ℤ◌, ◌*ℤ◌, List, map}
use Rattle.row_problem.specs.Prelude.{Rational, value_of, Frac, Row, RowName, Var, keys_of, Reduced, program_of, AreMultipliersOver, Proves, Refutes, bound_of, AllStand, AreValuesOver, HaveRightSigns, MeetsAll, Values, Multipliers}
use Rattle.written_method.specs.Certificates as solver

-- where there is a value for each column, and the values meet the linear program, the plan meets all rows with right signs
abbrev pub BecomesPlan : List Row → List Var → Reduced → Values → Values → Type 0
BecomesPlan rows vars reduced values plan =
    (q p : ℕ) (x z : Var → ℤ) → keys_of values ≡ reduced.columns.items → AreValuesOver q x values → AreValuesOver p z plan → solver.Meets (program_of reduced) (pos q) x → MeetsAll rows vars p z

-- the same with right sides 0
abbrev pub BecomesDirection : List Row → List Var → Reduced → Values → Values → Type 0
BecomesDirection rows vars reduced values direction =
    (q p : ℕ) (x z : Var → ℤ) → keys_of values ≡ reduced.columns.items → AreValuesOver q x values → AreValuesOver p z direction → solver.Meets (program_of reduced) (pos 0) x
    → AllStand (λ row. pos 0) rows z × HaveRightSigns vars z

-- the multipliers y over s of the rows prove a bound of the cost with these weights where l over s do of the linear program, and it is the same bound
pub record IsProof (weight : Var → ℤ) (rows : List Row) (vars : List Var) (reduced : Reduced) (s : ℕ) (y : RowName → ℤ) (l : ℕ → ℤ) : Type 0 where
  pub proves : solver.Bounds (program_of reduced) (pos s) l → Proves weight rows vars s y
  pub bound : reduced.cost_own *ℤ bound_of y rows ≡ (reduced.cost_own *ℤ solver.right_sum l 0 (program_of reduced).rows) +ℤ (pos s *ℤ reduced.cost_rhs)

abbrev pub BecomesProof : (Var → ℤ) → List Row → List Var → Reduced → List Frac → Multipliers → Type 0
BecomesProof weight rows vars reduced lambda made =
    (s : ℕ) (y : RowName → ℤ) (l : ℕ → ℤ) → AreMultipliersOver s y made → solver.AreOverFrom (pos s) l 0 (map value_of lambda) → IsProof weight rows vars reduced s y l

-- they show that there is no plan where those do
abbrev pub BecomesRefutation : List Row → List Var → Reduced → List Frac → Multipliers → Type 0
BecomesRefutation rows vars reduced lambda made =
    (s : ℕ) (y : RowName → ℤ) (l : ℕ → ℤ) → AreMultipliersOver s y made → solver.AreOverFrom (pos s) l 0 (map value_of lambda) → solver.Refutes (program_of reduced) l → Refutes rows vars s y
