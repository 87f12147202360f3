-- What more of a fuel costs. The price of a fuel at [r,l,f,y] is the multiplier of its balance, the row of EBa11, times that row's entry at Production.
use Rattle.std.specs.Prelude.{◌≡◌, ◌≢◌, ℕ, ◌<◌, ℤ, pos, ◌+ℤ◌, ◌*ℤ◌, ◌<ℤ◌, ◌≤ℤ◌, true, false, List}
use Rattle.exact_num.specs.Rational.{Rational, times, whole}
use Rattle.model_sets.specs.Data.{Data}
use Rattle.row_core.specs.declared.Index.{Index}
use Rattle.row_core.specs.declared.Row.{Row}
use Rattle.row_core.specs.declared.RowName.{RowName}
use Rattle.row_core.specs.declared.Var.{Var}
use Rattle.row_core.specs.declared.equation_numbers.TheConstants.{EBA11}
use Rattle.row_core.specs.declared.kind_numbers.TheConstants.{PRODUCTION}
use Rattle.row_core.specs.Kinds.{kind_is_free}
use Rattle.row_core.specs.Order.{row_name_cmp}
use Rattle.row_core.specs.Plans.{value_in}
use Rattle.row_core.specs.Rows.{number_at}
use Rattle.row_core.specs.Statements.{Statement, Holds}
use Rattle.named_equations.specs.Existence.{exists}
use Rattle.named_equations.specs.Instances.{is_instance, name_at}
use Rattle.named_equations.specs.Notation.{scale_of}
use Rattle.named_equations.specs.Plans.{Meets, cost, says}
use Rattle.named_equations.specs.Variables.{variable}

-- ---- more of a fuel

-- EBa11 at the index
abbrev pub balance_at : Index → RowName
balance_at index = name_at EBA11 index

-- what it says of the plan with a over b more on its right side: Production is at least Demand, Use, trade along the routes, and a over b; times 10^9 and b
abbrev pub says_more : ℕ → Data → Index → ℤ → ℕ → ℕ → (Var → ℤ) → Statement
says_more places d index a b q x =
    let said : Statement = says places d q x (balance_at index) in
    record { left = pos b *ℤ said.left; sign = said.sign; right = pos b *ℤ said.right +ℤ scale_of 1 *ℤ a *ℤ pos q }

-- the plan meets every named equation, EBa11 at the index with a over b more on its right side, and every variable that exists is at least 0 where its
-- kind isn't free
pub record FeasibleWithMore (places : ℕ) (d : Data) (index : Index) (a : ℤ) (b : ℕ) (q : ℕ) (x : Var → ℤ) : Type 0 where
  pub positive : 0 < q
  pub others : (name : RowName) → is_instance d name ≡ true → name ≢ balance_at index → Meets places d q x name
  pub balance : Holds (says_more places d index a b q x)
  pub signs : (v : Var) → exists d v ≡ true → kind_is_free v.kind ≡ false → pos 0 ≤ℤ x v

-- ---- prices

-- what the row has at Production with its own subscripts
abbrev pub production_entry : Row → ℤ
production_entry row = number_at row.entries.items (variable PRODUCTION row.name.index)

-- the price at a row: its multiplier times that
abbrev pub price_of : List (RowName × Rational) → Row → Rational
price_of multipliers row = times (value_in row_name_cmp multipliers row.name) (whole (production_entry row))

-- the same over s, where the multipliers are the whole numbers y over s
abbrev pub price_over : (RowName → ℤ) → Row → ℤ
price_over y row = y row.name *ℤ production_entry row

-- the plan costs at least the bound and the price times a over b, all multiplied out
abbrev pub CostsAtLeast : Data → ℕ → (Var → ℤ) → Rational → Rational → ℤ → ℕ → Type 0
CostsAtLeast d q x bound price a b =
    ((bound.top *ℤ price.bottom *ℤ pos b +ℤ price.top *ℤ a *ℤ bound.bottom) *ℤ pos q) ≤ℤ (bound.bottom *ℤ price.bottom *ℤ pos b *ℤ cost d x)

-- what a price at the index promises, over a bound: whatever a over b is, each plan that covers that much more of the fuel costs at least so much
pub record IsPromised (places : ℕ) (d : Data) (index : Index) (bound price : Rational) : Type 0 where
  pub bound_positive : pos 0 <ℤ bound.bottom
  pub price_positive : pos 0 <ℤ price.bottom
  pub costs : (a : ℤ) (b q : ℕ) (x : Var → ℤ) → 0 < b → FeasibleWithMore places d index a b q x → CostsAtLeast d q x bound price a b
