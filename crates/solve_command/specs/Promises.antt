-- What the prices of a report promise.
use Rattle.std.specs.Prelude.{ℕ, List, Contains}
use Rattle.exact_num.specs.Rational.{Rational}
use Rattle.model_sets.specs.Data.{Data}
use Rattle.row_core.specs.declared.Index.{Index}
use Rattle.row_core.specs.declared.Row.{Row}
use Rattle.row_core.specs.declared.RowName.{RowName}
use Rattle.plan_quantities.specs.Prices.{IsPromised, balance_at}
use Rattle.result_tables.specs.Prices.{prices}

-- Each price of the report's list, which is that of a fuel in a region, a timeslice and a year: whatever a over b more of it is asked for there, every
-- plan costs at least the bound and the price times a over b.
abbrev pub ArePromised : ℕ → Data → List Row → List (RowName × Rational) → Rational → Type 0
ArePromised places d rows multipliers bound =
    (index : Index) (price : Rational) → Contains (prices rows multipliers) (balance_at index, price) → IsPromised places d index bound price
