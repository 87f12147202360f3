-- What values, multipliers and a direction say of a linear program, over whole numbers (linear programming duality).
use Rattle.std.specs.Prelude.{◌≡◌, ℕ, suc, ℤ, pos, neg_ℤ, ◌+ℤ◌, ◌*ℤ◌, ◌<ℤ◌, ◌≤ℤ◌, Bool, true, false, List, [], ◌∷◌, ⊤}
use Rattle.exact_num.specs.Rational.{Rational}
use Rattle.row_core.specs.declared.Sense.{Sense}
use Rattle.row_core.specs.declared.Sense.TheVariants.{Least, Equal, Most}
use Rattle.row_core.specs.declared.Var.{Var}
use Rattle.row_core.specs.Rows.{number_at, row_sum}
use Rattle.row_core.specs.Statements.{Stands}
use Rattle.row_core.specs.Values.{IsOver}
use Rattle.written_method.specs.Programs.{Inequality, LinearProgram, is_split}
use Rattle.written_method.specs.Ready.{IsAmong}

-- ---- multipliers: whole numbers y, one for each row from row i on, over one d

-- the sum of each multiplier times the row's number at a variable
abbrev pub number_sum : (ℕ → ℤ) → ℕ → List Inequality → Var → ℤ
number_sum y i [] v = pos 0
number_sum y i (row ∷ rows) v = (y i *ℤ number_at row.entries v) +ℤ number_sum y (suc i) rows v

-- the sum of each multiplier times the row's right side
abbrev pub right_sum : (ℕ → ℤ) → ℕ → List Inequality → ℤ
right_sum y i [] = pos 0
right_sum y i (row ∷ rows) = (y i *ℤ row.right) +ℤ right_sum y (suc i) rows

-- at least 0 on a row of at least, at most 0 on a row of at most
abbrev pub HasSign : Sense → ℤ → Type 0
HasSign Least y = pos 0 ≤ℤ y
HasSign Equal y = ⊤
HasSign Most y = y ≤ℤ pos 0

abbrev pub HaveSigns : (ℕ → ℤ) → ℕ → List Inequality → Type 0
HaveSigns y i [] = ⊤
HaveSigns y i (row ∷ rows) = HasSign row.sense (y i) × HaveSigns y (suc i) rows

-- the fractions are y over d
abbrev pub AreOverFrom : ℤ → (ℕ → ℤ) → ℕ → List Rational → Type 0
AreOverFrom d y i [] = ⊤
AreOverFrom d y i (r ∷ rs) = IsOver d r (y i) × AreOverFrom d y (suc i) rs

-- a variable that may be negative has exactly the number, another at most
abbrev pub IsWithin : Bool → ℤ → ℤ → Type 0
IsWithin true a b = a ≡ b
IsWithin false a b = a ≤ℤ b

-- the rows' combination has no positive number at a variable, and a positive right side: so no values meet the rows
pub record Refutes (p : LinearProgram) (y : ℕ → ℤ) : Type 0 where
  pub signs : HaveSigns y 0 p.rows
  pub columns : (v : Var) → IsAmong v p.columns → IsWithin (is_split v) (number_sum y 0 p.rows v) (pos 0)
  pub right : pos 0 <ℤ right_sum y 0 p.rows

-- the rows' combination by y over d has at most the cost's number at each variable: cost_own times z is cost_right less the sum of the
-- cost's numbers times the variables
pub record Bounds (p : LinearProgram) (d : ℤ) (y : ℕ → ℤ) : Type 0 where
  pub signs : HaveSigns y 0 p.rows
  pub columns : (v : Var) → IsAmong v p.columns → IsWithin (is_split v) (p.cost_own *ℤ number_sum y 0 p.rows v) (neg_ℤ (d *ℤ number_at p.cost v))

-- ---- values: whole numbers x, one for each variable, over one q

-- the values are x over q
abbrev pub ValuesAreOver : ℤ → (Var → ℤ) → List (Var × Rational) → Type 0
ValuesAreOver q x [] = ⊤
ValuesAreOver q x (value ∷ values) = IsOver q value.1 (x value.0) × ValuesAreOver q x values

abbrev pub MeetRows : ℤ → (Var → ℤ) → List Inequality → Type 0
MeetRows q x [] = ⊤
MeetRows q x (row ∷ rows) = Stands row.sense (row_sum x row.entries) (row.right *ℤ q) × MeetRows q x rows

-- the values meet all rows, and no variable is negative that may not be; for q = 0 a direction does
pub record Meets (p : LinearProgram) (q : ℤ) (x : Var → ℤ) : Type 0 where
  pub rows : MeetRows q x p.rows
  pub signs : (v : Var) → IsAmong v p.columns → is_split v ≡ false → pos 0 ≤ℤ x v

-- the cost of the values is the bound of the multipliers: both sides times cost_own, d and q
abbrev pub HasBoundAsCost : LinearProgram → ℤ → (Var → ℤ) → ℤ → (ℕ → ℤ) → Type 0
HasBoundAsCost p q x d y = neg_ℤ (d *ℤ row_sum x p.cost) ≡ p.cost_own *ℤ (right_sum y 0 p.rows *ℤ q)

-- z falls along the direction
abbrev pub Descends : LinearProgram → (Var → ℤ) → Type 0
Descends p x = pos 0 <ℤ row_sum x p.cost
