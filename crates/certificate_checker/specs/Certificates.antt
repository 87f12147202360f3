-- What proves a bound, that there is no plan, or that there is no bound (linear programming duality). Multipliers are whole numbers y over one positive s.
use Rattle.std.specs.Prelude.{◌≡◌, ℕ, ℤ, pos, ◌*ℤ◌, ◌<ℤ◌, ◌≤ℤ◌, ◌<◌, Bool, true, false, List, [], ◌∷◌, ⊤}
use Rattle.exact_num.specs.Rational.{Rational}
use Rattle.row_core.specs.declared.Row.{Row}
use Rattle.row_core.specs.declared.RowName.{RowName}
use Rattle.row_core.specs.declared.Sense.{Sense}
use Rattle.row_core.specs.declared.Sense.TheVariants.{Least, Equal, Most}
use Rattle.row_core.specs.declared.Var.{Var}
use Rattle.row_core.specs.Order.{row_name_cmp}
use Rattle.row_core.specs.Plans.{value_in}
use Rattle.row_core.specs.Kinds.{kind_is_free}
use Rattle.row_core.specs.Values.{IsOver}
use Rattle.certificate_checker.specs.Costs.{no_cost, cost_of}
use Rattle.certificate_checker.specs.Plans.{AllStand, HaveRightSigns, MeetsAll}
use Rattle.certificate_checker.specs.Sums.{weighted, column_sum}

-- ---- multipliers

-- at least 0 where the row says at least, at most 0 where it says at most
abbrev pub IsSigned : Sense → ℤ → Type 0
IsSigned Least y = pos 0 ≤ℤ y
IsSigned Equal y = ⊤
IsSigned Most y = y ≤ℤ pos 0

abbrev pub AreSigned : (RowName → ℤ) → List Row → Type 0
AreSigned y [] = ⊤
AreSigned y (row ∷ rows) = IsSigned row.sense (y row.name) × AreSigned y rows

-- a column's sum is the cost's number for a variable that may be negative, and at most that for another
abbrev pub IsWithin : Bool → ℤ → ℤ → Type 0
IsWithin true sum cost = sum ≡ cost
IsWithin false sum cost = sum ≤ℤ cost

abbrev pub AreWithin : List Var → (Var → ℤ) → (Var → ℤ) → Type 0
AreWithin [] sum cost = ⊤
AreWithin (v ∷ vs) sum cost = IsWithin (kind_is_free v.kind) (sum v) (cost v) × AreWithin vs sum cost

-- the sum of multiplier times right side
abbrev pub bound_of : (RowName → ℤ) → List Row → ℤ
bound_of y rows = weighted y (λ row. row.rhs) rows

-- the multipliers have their signs, and no column's sum passes the cost: so bound_of y rows over s is a bound
pub record Proves (cost : Var → ℤ) (rows : List Row) (vars : List Var) (s : ℕ) (y : RowName → ℤ) : Type 0 where
  pub signs : AreSigned y rows
  pub columns : AreWithin vars (column_sum y rows) (λ v. cost v *ℤ pos s)

-- they do at no cost, and the bound is positive: so there is no plan
pub record Refutes (rows : List Row) (vars : List Var) (s : ℕ) (y : RowName → ℤ) : Type 0 where
  pub proves : Proves no_cost rows vars s y
  pub positive : pos 0 <ℤ bound_of y rows

-- the multipliers of a list are the whole numbers y over s
abbrev pub AreMultipliersOver : ℕ → (RowName → ℤ) → List (RowName × Rational) → Type 0
AreMultipliersOver s y multipliers = (0 < s) × ((name : RowName) → IsOver (pos s) (value_in row_name_cmp multipliers name) (y name))

-- ---- directions

-- whole numbers over any positive one: each row stands to 0, no variable that must be at least 0 is below it, and the cost falls
pub record Descends (cost : Var → ℤ) (rows : List Row) (vars : List Var) (d : Var → ℤ) : Type 0 where
  pub rows_stand : AllStand (λ row. pos 0) rows d
  pub signs : HaveRightSigns vars d
  pub falls : cost_of cost vars d <ℤ pos 0

-- ---- what they are about

-- the cost of every plan is at least the value
abbrev pub BoundsAll : (Var → ℤ) → List Row → List Var → Rational → Type 0
BoundsAll cost rows vars bound =
    (q : ℕ) (x : Var → ℤ) → MeetsAll rows vars q x → (bound.top *ℤ pos q) ≤ℤ (cost_of cost vars x *ℤ bound.bottom)

-- there is no plan
abbrev pub AdmitsNone : List Row → List Var → Type 0
AdmitsNone rows vars = (q : ℕ) (x : Var → ℤ) → ¬ (MeetsAll rows vars q x)

-- a plan costs less than n
pub record CostsLess (cost : Var → ℤ) (rows : List Row) (vars : List Var) (n : ℤ) : Type 0 where
  pub over : ℕ
  pub plan : Var → ℤ
  pub meets : MeetsAll rows vars over plan
  pub less : cost_of cost vars plan <ℤ (n *ℤ pos over)
