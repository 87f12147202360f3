-- The heads so far and those that are left are the whole.
use Rattle.std.proofs.Common.{◌≡◌, ◌++◌, [], drop, false}
use Rattle.csv.specs.Records.{fields_of, partial_of}
use Rattle.data_tables.specs.ParamTables.{column_words}
use Rattle.data_tables.proofs.columns.column_words.Given as goal

abbrev pub invariant-loop-set : goal.invariant-loop-set
invariant-loop-set l = record {
  fields : fields_of l.fields ++ column_words l.is_later (drop l.set-index l.set-items) ≡ column_words false l.set-items;
  whole : partial_of l.fields ≡ [];
}
