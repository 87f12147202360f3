-- Rows that are made for instances after others. Only private functions cite this.
use Rattle.std.specs.Prelude.{◌≡◌, ℕ, ◌+◌, true, List, ◌++◌}
use Rattle.std.specs.List.{list_all}
use Rattle.model_sets.specs.Data.{Data}
use Rattle.row_core.specs.declared.Row.{Row}
use Rattle.row_core.specs.declared.RowName.{RowName}
use Rattle.row_book.specs.Books.{AreRowsOf, entries_in, row_fits}
use Rattle.row_book.specs.declared.made_rows.MadeRows.{MadeRows}

-- after the old rows stand those of these instances; every number formed for them fits, and their entries are counted
pub record AddsRows (places : ℕ) (d : Data) (names : List RowName) (old new : MadeRows) : Type 0 where
  pub added : List Row
  pub later : new.rows.items ≡ old.rows.items ++ added
  pub rows : AreRowsOf places d names added
  pub fit : list_all (row_fits places d) names ≡ true
  pub counted : new.entries ≡ old.entries + entries_in places d names
