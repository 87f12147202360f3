-- Row by row.
use Rattle.result_tables.proofs.Common.{ℕ, ◌+◌, List, ◌++◌, ◌∷◌, [], drop, sym, ap, ◌∙◌, subst, arith, at_drop_all, err_from_is_err_and, Rational, first_wide-nil, SetLists, IsListedRow, name_of_row, records_text, Row, RowName, IsFirstStop, is_balance, named_price, price_steps, price_record, price_table}
use Rattle.result_tables.proofs.PriceLaws.{stops_from, wide, wide_next}
use Rattle.result_tables.proofs.TextLaws.{IsJoined, mapped_at, shown_joined, text_next}
use Rattle.result_tables.proofs.prices.push_prices.Goals as goal

module _ (sets : SetLists) (m : List (RowName × Rational)) where
  abbrev text : List Row → List ℕ
  text rows = records_text (price_table sets rows m).records

  joined : IsJoined text
  joined xs ys = shown_joined is_balance (named_price m) (price_record sets) xs ys

pub push_price-requires-clause-listed : goal.push_price-requires-clause-listed
push_price-requires-clause-listed c =
    let here = mapped_at (IsListedRow c.args.sets.now) name_of_row c.args.rows.now c.loop-row.row-index c.row-item.result c.requires c.loop-row-test.true in
    (subst (λ (row : Row). IsListedRow c.args.sets.now (name_of_row row)) (sym c.row-item.is) here).0

pub push_price-requires-clause-within : goal.push_price-requires-clause-within
push_price-requires-clause-within c =
    let here = mapped_at (IsListedRow c.args.sets.now) name_of_row c.args.rows.now c.loop-row.row-index c.row-item.result c.requires c.loop-row-test.true in
    (subst (λ (row : Row). IsListedRow c.args.sets.now (name_of_row row)) (sym c.row-item.is) here).1

pub returns-in_err-push_price-clause-stopped : goal.returns-in_err-push_price-clause-stopped
returns-in_err-push_price-clause-stopped c =
    let m = c.args.multipliers.now in
    let here = subst (λ (row : Row). IsFirstStop (price_steps (row ∷ []) m) c.in_err-push_price.field-0.0) c.row-item.is c.in_err-push_price.ensures.stopped in
    let stop = stops_from m c.args.rows.now c.loop-row.row-index c.row-item.result c.in_err-push_price.field-0.0 c.loop-row-test.true c.loop-row.invariant.steps here in
    let p = err_from_is_err_and c.from_residual.result c.from_residual.ensures.1 in
    rw (p.1, p.2) stop

pub loop-row-preserved : goal.loop-row-preserved
loop-row-preserved c =
    let of : List Row → List ℕ = text c.args.sets.now c.args.multipliers.now in
    let m = c.args.multipliers.now in
    let left : List ℕ = of (drop (c.loop-row.row-index + 1) c.args.rows.now) in
    let written = ap (λ (row : Row). c.loop-row.out.items ++ of (row ∷ [])) c.row-item.is in
    record {
      text =
          ap (λ t. t ++ left) (c.in_ok-push_price.ensures.text ∙ written)
          ∙ text_next of (joined c.args.sets.now m) c.args.rows.now c.loop-row.row-index c.row-item.result c.loop-row.out.items _ c.loop-row-test.true c.loop-row.invariant.text;
      steps =
          wide_next m c.args.rows.now c.loop-row.row-index c.row-item.result c.loop-row-test.true
          (sym (ap (λ (row : Row). wide m (row ∷ [])) c.row-item.is) ∙ c.in_ok-push_price.ensures.fits)
          ∙ c.loop-row.invariant.steps;
    }

pub returns-clause-fits : goal.returns-clause-fits
returns-clause-fits c =
    sym c.loop-row.invariant.steps ∙ at_drop_all (wide c.args.multipliers.now) c.args.rows.now c.loop-row.row-index (omega (arith, c.loop-row-test.false)) ∙ first_wide-nil
