-- What more on the right side of a row costs, of any row. A variable p stands in an equation with the factor 1 on its left side: then the plan meets the equation
-- with a over b more on the right side where the plan with a over b less of p meets the equation as it is. So what is more is in the data's unit, whatever the row
-- was multiplied or divided by when it was written in whole numbers.
use Rattle.std.specs.Prelude.{◌≡◌, ◌≢◌, ℕ, ◌*◌, ◌<◌, ℤ, pos, neg_ℤ, ◌+ℤ◌, ◌*ℤ◌, ◌<ℤ◌, ◌≤ℤ◌, true, false, List}
use Rattle.exact_num.specs.Rational.{Rational}
use Rattle.model_sets.specs.Data.{Data}
use Rattle.row_core.specs.declared.Row.{Row}
use Rattle.row_core.specs.declared.RowName.{RowName}
use Rattle.row_core.specs.declared.Var.{Var}
use Rattle.row_core.specs.Kinds.{kind_is_free}
use Rattle.row_core.specs.Rows.{number_at}
use Rattle.row_core.specs.Values.{alone}
use Rattle.named_equations.specs.Existence.{exists}
use Rattle.named_equations.specs.Instances.{is_instance}
use Rattle.named_equations.specs.Plans.{Meets}
use Rattle.plan_quantities.specs.Prices.{CostsAtLeast}

-- ---- plans

-- the plan over b times q, with a over b less of p
abbrev pub with_less : Var → ℤ → ℕ → ℕ → (Var → ℤ) → Var → ℤ
with_less p a b q x v = pos b *ℤ x v +ℤ alone p v *ℤ neg_ℤ (a *ℤ pos q)

-- the plan meets every named equation but the one of this name, and that one with a over b less of p; and every variable that exists is at least 0 where its kind
-- isn't free
pub record FeasibleWithLess (places : ℕ) (d : Data) (name : RowName) (p : Var) (a : ℤ) (b : ℕ) (q : ℕ) (x : Var → ℤ) : Type 0 where
  pub positive : 0 < q
  pub others : (other : RowName) → is_instance d other ≡ true → other ≢ name → Meets places d q x other
  pub less : Meets places d (b * q) (with_less p a b q x) name
  pub signs : (v : Var) → exists d v ≡ true → kind_is_free v.kind ≡ false → pos 0 ≤ℤ x v

-- ---- prices

-- the price of p at a row (`row_price`) over s, where the multipliers are the whole numbers y over s
abbrev pub row_price_over : (RowName → ℤ) → Row → Var → ℤ
row_price_over y row p = y row.name *ℤ number_at row.entries.items p

-- what a price at a row promises, over a bound: whatever a over b is, each plan that meets the equation with that much more on the right side costs at least the
-- bound and the price times a over b
pub record IsRowPromised (places : ℕ) (d : Data) (name : RowName) (p : Var) (bound price : Rational) : Type 0 where
  pub bound_positive : pos 0 <ℤ bound.bottom
  pub price_positive : pos 0 <ℤ price.bottom
  pub costs : (a : ℤ) (b q : ℕ) (x : Var → ℤ) → 0 < b → FeasibleWithLess places d name p a b q x → CostsAtLeast d q x bound price a b
