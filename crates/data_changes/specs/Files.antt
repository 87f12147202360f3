-- Data with the changes of a file: those of its records, one after another.
use Rattle.std.specs.Prelude.{ℕ, ◌+◌, List, [], ◌∷◌, Option, None, Some, Result, Ok, Err, if◌then◌else◌}
use Rattle.param_tables.specs.Built.{Built}
use Rattle.param_tables.specs.Changes.{change_refusals, rounded_by, with_change}
use Rattle.param_tables.specs.InTurn.{first_of}
use Rattle.param_tables.specs.Refusals.{Refusal}
use Rattle.plan_files.specs.Files.{Fields, records_of}
use Rattle.data_changes.specs.Columns.{is_header}
use Rattle.data_changes.specs.Faults.{AtIndex, BadHeader, ChangesFault, RecordFault}
use Rattle.data_changes.specs.Records.{ToldChange, change_in}

-- the data with a change, unless a value that it makes is refused, and one number more that is rounded where the record's is
abbrev pub with_told : Built → ToldChange → Option Refusal → Result Built RecordFault
with_told built told (Some refusal) = Err (AtIndex refusal)
with_told built told None = Ok (record {
  facts = with_change built.facts told.change;
  rounded = built.rounded + (if told.rounded then 1 else 0) + rounded_by built.facts told.change;
})

-- the data with the change that the record says, or why it is refused
abbrev pub after_change : Built → Result ToldChange RecordFault → Result Built RecordFault
after_change built (Err fault) = Err fault
after_change built (Ok told) = with_told built told (first_of (change_refusals built.facts told.change))

unfoldable pub after_record : Built → Fields → Fields → Result Built RecordFault
after_record built header r = after_change built (change_in built.facts header r)

-- what is made of data, or the fault of the record of this number
abbrev pub go_on : ℕ → (Built → Result Built ChangesFault) → Result Built RecordFault → Result Built ChangesFault
go_on number make (Ok built) = make built
go_on number make (Err fault) = Err (record { number = number; fault = fault })

-- the data with the changes of these records, of which the first has this number, or the first that is refused
unfoldable pub after_records : Built → Fields → ℕ → List Fields → Result Built ChangesFault
after_records built header number [] = Ok built
after_records built header number (r ∷ rows) = go_on number (λ next. after_records next header (number + 1) rows) (after_record built header r)

-- the first record is the header
abbrev pub after_all : Built → List Fields → Result Built ChangesFault
after_all built [] = Err (record { number = 1; fault = BadHeader })
after_all built (header ∷ rows) = if is_header header then after_records built header 2 rows else Err (record { number = 1; fault = BadHeader })

-- the data with the changes of the file
unfoldable pub after_file : Built → List ℕ → Result Built ChangesFault
after_file built text = after_all built (records_of text)
