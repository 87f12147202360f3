-- What is written and the records of the rows that are left are the whole; and the prices so far fit.
use Rattle.result_tables.proofs.Common.{◌≡◌, ◌++◌, drop, first_wide, records_text, price_steps, price_table}
use Rattle.result_tables.proofs.prices.push_prices.Given as goal

abbrev pub invariant-loop-row : goal.invariant-loop-row
invariant-loop-row l = record {
  text : l.out.items ++ records_text (price_table l.sets (drop l.row-index l.rows) l.multipliers).records ≡ l.fn.out.items ++ records_text (price_table l.sets l.rows l.multipliers).records;
  steps : first_wide (price_steps (drop l.row-index l.rows) l.multipliers) ≡ first_wide (price_steps l.rows l.multipliers);
}
