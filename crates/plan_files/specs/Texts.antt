-- Records as text, as `csv` writes them in its default form.
use Rattle.std.specs.Prelude.{ℕ, List}
use Rattle.std.specs.List.{flat_map}
use Rattle.csv.specs.Writing.{default_writer, row_text}

-- the lines of records, one after another
abbrev pub records_text : List (List (List ℕ)) → List ℕ
records_text rows = flat_map (row_text default_writer) rows
