-- What is written and the tables that are left are the whole.
use Rattle.std.proofs.Common.{◌≡◌, ◌++◌, drop}
use Rattle.page_tables.specs.PageTables.{data_texts}
use Rattle.page_tables.proofs.texts.push_all_data.Given as goal

abbrev pub invariant-loop-table : goal.invariant-loop-table
invariant-loop-table l =
    l.out.items ++ data_texts l.source.form l.source.places l.source.model.now.facts (drop l.table-index l.tables)
    ≡ l.fn.out.items ++ data_texts l.source.form l.source.places l.source.model.now.facts l.tables
