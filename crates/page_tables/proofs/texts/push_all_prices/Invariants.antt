-- What is written and the tables that are left are the whole.
use Rattle.std.proofs.Common.{◌≡◌, ◌++◌, drop}
use Rattle.page_tables.specs.PageTables.{price_texts}
use Rattle.page_tables.proofs.texts.push_all_prices.Given as goal

abbrev pub invariant-loop-table : goal.invariant-loop-table
invariant-loop-table l =
    l.out.items ++ price_texts l.source.form l.source.model.now.facts.sets l.source.rows.now l.multipliers (drop l.table-index l.tables)
    ≡ l.fn.out.items ++ price_texts l.source.form l.source.model.now.facts.sets l.source.rows.now l.multipliers l.tables
