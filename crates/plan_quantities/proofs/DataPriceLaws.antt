-- Each price of a table is promised over the data.
use Rattle.std.proofs.Common.{◌≡◌, ℕ, suc, ◌+◌, ◌*◌, ◌<◌, ◌^◌, ℤ, pos, negsuc, ◌-ℤ◌, ◌*ℤ◌, Bool, true, false, List, [], ◌∷◌, ◌++◌, length, Contains, slice_index_or, Option, None, Some, refl, sym, subst, ap, ◌∙◌, arith, if◌then◌else◌}
use Rattle.std.specs.Prelude.{◌<ℤ◌, ◌≤ℤ◌}
use Rattle.std.proofs.lemmas.Int.{ints}
use Rattle.row_core.specs.declared.equation_numbers.TheConstants.{EBA11}
use Rattle.row_core.specs.declared.kind_numbers.TheConstants.{PRODUCTION}
use Rattle.row_core.proofs.PlanLaws.{holds-scaled}
use Rattle.price_tables.specs.declared.shown.PriceTable.{PriceTable}
use Rattle.price_tables.specs.declared.shown.PriceTable.TheVariants.{Fuels, Limits}
use Rattle.price_tables.specs.PricedRows.{priced_kind, priced_rows, priced_variable, with_variable}
use Rattle.named_equations.specs.Parameters.{year_split}
use Rattle.plan_quantities.specs.DataPrices.{AreWithDemand, IsConstantPromised, IsDemandPromised, IsPromisedOverData, demand_of}
use Rattle.row_book.proofs.Triangles.{row-of}
use Rattle.row_book.proofs.Within.{names-of_rows}
use Rattle.plan_quantities.proofs.Common.{AllByRecursion, Rational, Data, Index, Row, RowName, Var, is_zero, row_name_cmp, value_in, IsOver, all_variables, at_rlfy, instances, is_instance, production, subscripts_of, variable, Contains-from_Has, Has, Has-from_Contains, Has-map, Has-instances, AreRowsOf, AreMultipliersOver, Proves, bound_of, model_cost, Feasible, Meets, CostsAtLeast, FeasibleWithLess, FeasibleWithMore, IsRowPromised, balance_at, row_price}
use Rattle.plan_quantities.proofs.ChangedConstants.{feasible-with-less, there}
use Rattle.plan_quantities.proofs.ChangedDemands.{costs-less, factor, feasible-with-more, lowered, lowered-cost, more}
use Rattle.plan_quantities.proofs.ConstantEquations.{billion}
use Rattle.plan_quantities.proofs.PriceLaws.{more-less, row-promise-holds}
use Rattle.plan_quantities.proofs.PromisedPrices.{first, later}
use Rattle.plan_quantities.proofs.ReadAlone.{tidied-by}

-- ---- a plan over another denominator meets the same equations

scaled-by : (places : ℕ) (d : Data) (rows : List Row) → AreRowsOf places d (instances d) rows → (q : ℕ) (x : Var → ℤ) (name : RowName) → is_instance d name ≡ true → (k : ℕ) → 0 < k
    → Meets places d q x name → Meets places d (k * q) (λ v. pos k *ℤ x v) name
scaled-by places d rows are q x name is k positive met =
    let found = row-of places d (instances d) rows name are ((Has-instances d name).1 is) in
    let row : Row = found.0 in
    (found.1.1.says (k * q) (λ v. pos k *ℤ x v)).0 ((holds-scaled row.sense row.entries.items row.rhs k q x positive).0 ((found.1.1.says q x).1 met))

-- ---- a row of a table

row-instance : (places : ℕ) (d : Data) (rows : List Row) (row : Row) → AreRowsOf places d (instances d) rows → Contains rows row → is_instance d row.name ≡ true
row-instance places d rows row are given =
    (Has-instances d row.name).0 (subst (λ ns. Has ns row.name) (names-of_rows places d (instances d) rows are) (Has-map (λ (r : Row). r.name) rows row (Has-from_Contains rows row given)))

constant-promised : (places : ℕ) (d : Data) (name : RowName) (table : PriceTable) (kind : ℕ) (bound price : Rational) → is_instance d name ≡ true → priced_kind table name.eq ≡ Some kind
    → IsRowPromised places d name (priced_variable kind name.index) bound price → IsConstantPromised places d name bound price
constant-promised places d name table kind bound price is shows promised = record {
  bound_positive = promised.bound_positive;
  price_positive = promised.price_positive;
  costs = λ p e x q plan reads changed still feasible.
      promised.costs _ billion q plan (omega arith) (feasible-with-less places name p x reads changed is table kind shows still q plan feasible);
}

-- a number above 0 is a whole number
whole-of : (z : ℤ) → pos 0 <ℤ z → (n : ℕ) × (z ≡ pos n) × (0 < n)
whole-of (pos n) h = (n, refl, omega (arith, ints, h))
whole-of (negsuc n) h = absurd (omega (arith, ints, h))

module _ (places : ℕ) (d : Data) (rows : List Row) (are : AreRowsOf places d (instances d) rows) (bound price : Rational) where
  demand-at : (r l f y : ℕ) → is_instance d (balance_at (at_rlfy r l f y)) ≡ true → IsRowPromised places d (balance_at (at_rlfy r l f y)) (production r l f y) bound price
      → IsDemandPromised places d (at_rlfy r l f y) bound price
  demand-at r l f y is promised = record {
    bound_positive = promised.bound_positive;
    price_positive = promised.price_positive;
    costs = λ e x q plan changed some demanded feasible.
        let part = whole-of (year_split d l y) some in
        let n : ℕ = part.0 in
        let over_part : 0 < n = part.2 in
        let added : ℤ = x -ℤ demand_of d (at_rlfy r l f y) in
        let scaled : (name : RowName) → is_instance d name ≡ true → (k : ℕ) → 0 < k → Meets places d q plan name → Meets places d (k * q) (λ v. pos k *ℤ plan v) name = scaled-by places d rows are q plan in
        let less : Var → ℤ = lowered places d e r l f y x changed is n part.1 over_part demanded q plan feasible scaled in
        let with_more : FeasibleWithMore places d (at_rlfy r l f y) added (billion * billion) (billion * billion * n * q) less =
        feasible-with-more places d e r l f y x changed is n part.1 over_part demanded q plan feasible scaled in
        costs-less d q (billion * billion * n) plan less bound price added (billion * billion) (above n over_part)
        (lowered-cost places d e r l f y x changed is n part.1 over_part demanded q plan feasible scaled)
        (promised.costs added (billion * billion) (billion * billion * n * q) less (omega arith)
        (more-less places d (at_rlfy r l f y) added (billion * billion) (billion * billion * n * q) less is (omega arith) with_more));
  }
    where
      above : (n : ℕ) → 0 < n → 0 < billion * billion * n
      above n h = omega (arith, h)

  of_balance : (name : RowName) (table : PriceTable) (kind : ℕ) → is_instance d name ≡ true → priced_kind table name.eq ≡ Some kind → name.eq ≡ EBA11
      → IsRowPromised places d name (priced_variable kind name.index) bound price → IsDemandPromised places d name.index bound price
  of_balance name table kind is shows balance promised =
      let r = name.index.region in
      let l = name.index.slice in
      let f = name.index.fuel in
      let y = name.index.year in
      let named : name ≡ balance_at name.index = ap (λ (eq : ℕ). record { eq = eq; index = name.index }) balance in
      let is_balance : is_instance d (balance_at name.index) ≡ true = subst (λ n. is_instance d n ≡ true) named is in
      let tidy : name.index ≡ at_rlfy r l f y = tidied-by d (subscripts_of EBA11) name.index (there d (balance_at name.index) is_balance).inside in
      let is_kind : kind ≡ PRODUCTION = of_table table (subst (λ eq. priced_kind table eq ≡ Some kind) balance shows) in
      let promised_here : IsRowPromised places d (balance_at name.index) (production r l f y) bound price =
      subst (λ k. IsRowPromised places d (balance_at name.index) (priced_variable k name.index) bound price) is_kind
      (subst (λ n. IsRowPromised places d n (priced_variable kind name.index) bound price) named promised) in
      subst (λ i. IsDemandPromised places d i bound price) (sym tidy)
      (demand-at r l f y (subst (λ i. is_instance d (balance_at i) ≡ true) tidy is_balance) (subst (λ i. IsRowPromised places d (balance_at i) (production r l f y) bound price) tidy promised_here))
    where
      of_table : (table : PriceTable) → priced_kind table EBA11 ≡ Some kind → kind ≡ PRODUCTION
      of_table Limits h = absurd (cc h)
      of_table Fuels h = cc h

  over-data : (name : RowName) (table : PriceTable) (kind : ℕ) → is_instance d name ≡ true → priced_kind table name.eq ≡ Some kind
      → IsRowPromised places d name (priced_variable kind name.index) bound price → IsPromisedOverData places d name bound price
  over-data name table kind is shows promised = record {
    constant = constant-promised places d name table kind bound price is shows promised;
    demand = λ balance. of_balance name table kind is shows balance promised;
  }

-- ---- the rows of a table

module _ (table : PriceTable) (multipliers : List (RowName × Rational)) (P : Row × Var → Type 0) where
  by_multiplier : (row : Row) (p : Var) (is_none : Bool) (rest : List (Row × Var)) → P (row, p) → AllByRecursion P rest → AllByRecursion P ((if is_none then [] else (row, p) ∷ []) ++ rest)
  by_multiplier row p true rest here all = all
  by_multiplier row p false rest here all = (here, all)

  by_kind : (row : Row) (kind : Option ℕ) (rest : List (Row × Var)) → ((k : ℕ) → kind ≡ Some k → P (row, priced_variable k row.name.index)) → AllByRecursion P rest
      → AllByRecursion P (with_variable multipliers row kind ++ rest)
  by_kind row None rest here all = all
  by_kind row (Some k) rest here all = by_multiplier row (priced_variable k row.name.index) (is_zero (value_in row_name_cmp multipliers row.name).top) rest (here k refl) all

  -- what holds of each row that has a kind of variables, and the variable of that kind
  pub of_kinds : (rows : List Row) → ((row : Row) (kind : ℕ) → Contains rows row → priced_kind table row.name.eq ≡ Some kind → P (row, priced_variable kind row.name.index))
      → AllByRecursion P (priced_rows table multipliers rows)
  of_kinds [] all = tt
  of_kinds (row ∷ rows) all =
      by_kind row (priced_kind table row.name.eq) (priced_rows table multipliers rows) (λ kind shows. all row kind (first row rows) shows)
      (of_kinds rows (λ other kind given shows. all other kind (later row other rows given) shows))

pub prices-over_data : (places : ℕ) (d : Data) (rows : List Row) (s : ℕ) (y : RowName → ℤ) (multipliers : List (RowName × Rational)) (bound : Rational) (table : PriceTable)
    → AreRowsOf places d (instances d) rows → Proves model_cost rows (all_variables d) s y → AreMultipliersOver s y multipliers → IsOver (pos s) bound (bound_of y rows)
    → AllByRecursion (λ (e : Row × Var). IsPromisedOverData places d e.0.name bound (row_price multipliers e.0 e.1)) (priced_rows table multipliers rows)
prices-over_data places d rows s y multipliers bound table are proves over bounds =
    of_kinds table multipliers (λ e. IsPromisedOverData places d e.0.name bound (row_price multipliers e.0 e.1)) rows
    (λ row kind given shows.
    over-data places d rows are bound (row_price multipliers row (priced_variable kind row.name.index)) row.name table kind (row-instance places d rows row are given) shows
    (row-promise-holds places d rows s y multipliers bound row (priced_variable kind row.name.index) are proves over bounds given))
