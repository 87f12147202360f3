-- The multipliers of an optimum promise each price of its report.
use Rattle.solve_command.proofs.Common.{◌≡◌, ℕ, ℤ, pos, List, ap, subst, Contains, Rational, Data, Row, RowName, Var, all_variables, instances, balances, is_balance, named_price, prices, IsNearOptimum}
use Rattle.row_core.specs.declared.Index.{Index}
use Rattle.row_core.specs.Values.{IsOver}
use Rattle.row_core.proofs.Members.{Contains-from_Has, Has-from_Contains, map_parts}
use Rattle.row_book.specs.Books.{AreRowsOf}
use Rattle.certificate_checker.specs.Certificates.{AreMultipliersOver, Proves, bound_of}
use Rattle.certificate_checker.specs.Costs.{model_cost}
use Rattle.param_tables.proofs.AscendingLaws.{contains_from_filter}
use Rattle.plan_quantities.specs.Prices.{IsPromised, balance_at, price_of}
use Rattle.solve_command.specs.Promises.{ArePromised}

-- the law on one price
abbrev pub PriceLaw : Type 0
PriceLaw =
    (places : ℕ) (d : Data) (rows : List Row) (s : ℕ) (y : RowName → ℤ) (multipliers : List (RowName × Rational)) (bound : Rational) (row : Row) (index : Index)
    → AreRowsOf places d (instances d) rows → Proves model_cost rows (all_variables d) s y
    → AreMultipliersOver s y multipliers → IsOver (pos s) bound (bound_of y rows)
    → Contains rows row → row.name ≡ balance_at index → IsPromised places d index bound (price_of multipliers row)

pub prices-promised : PriceLaw → (places : ℕ) (d : Data) (rows : List Row) (gap : ℕ) (plan : List (Var × Rational)) (multipliers : List (RowName × Rational)) (cost bound : Rational)
    → AreRowsOf places d (instances d) rows → IsNearOptimum places d rows gap plan multipliers cost bound → ArePromised places d rows multipliers bound
prices-promised law places d rows gap plan multipliers cost bound are is = λ index price there.
    let found = map_parts (named_price multipliers) (balances rows) (balance_at index, price) (Has-from_Contains (prices rows multipliers) (balance_at index, price) there) in
    let row = found.0 in
    let some = is.proved.some in
    let over : AreMultipliersOver some.over some.number multipliers = (some.positive, some.each) in
    let among : Contains rows row = (contains_from_filter is_balance rows row (Contains-from_Has (balances rows) row found.1)).0 in
    let named : row.name ≡ balance_at index = ap (λ e. e.0) found.2 in
    let priced : price_of multipliers row ≡ price = ap (λ e. e.1) found.2 in
    subst (IsPromised places d index bound) priced
    (law places d rows some.over some.number multipliers bound row index are (is.proved.proves some.over some.number over) over (is.proved.sums some.over some.number over) among named)
