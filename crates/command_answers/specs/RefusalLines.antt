-- The lines that say why a data file is refused, or its changes, or a word that names no member of a set.
use Rattle.std.specs.Prelude.{ℕ, ◌==◌, List, [], ◌++◌, codes, if◌then◌else◌}
use Rattle.std.specs.Fmt.{decimal}
use Rattle.std.specs.List.{join_with_byte}
use Rattle.mathprog_data.specs.declared.blocks.Mark.{Mark}
use Rattle.mathprog_data.specs.Faults.{bad_byte, open_string, open_comment, unexpected, end_too_soon, unknown_name, given_twice, wrong_slice, row_too_short, bad_number, tabbing}
use Rattle.model_sets.specs.Params.{param_word}
use Rattle.model_sets.specs.declared.fault.SetFault.{SetFault}
use Rattle.model_sets.specs.Members.{twice_in_set, empty_set, bad_year, too_many}
use Rattle.model_sets.specs.Names.{set_word}
use Rattle.mps_writer.specs.MpsText.{line}
use Rattle.data_changes.specs.Faults.{AtIndex, BadChange, BadHeader, BadNumber, BadRecord, ChangesFault, RecordFault, UnknownMember, UnknownName}
use Rattle.param_tables.specs.Refusals as refusals
use Rattle.param_tables.specs.Refusals.{GivenBefore, Refusal, StorageMember}
use Rattle.param_tables.specs.declared.fault.CellFault.{CellFault}
use Rattle.param_tables.specs.declared.fault.CellFault.TheVariants.{NoValue, Negative, NotPositive, NotWhole, OutOfRange, WholeUnits}

-- the word of a fault of the text; no text has a fault of another number
abbrev pub text_fault_word : ℕ → List ℕ
text_fault_word number =
    if number == bad_byte then codes "BadByte"
    else if number == open_string then codes "OpenString"
    else if number == open_comment then codes "OpenComment"
    else if number == unexpected then codes "Unexpected"
    else if number == end_too_soon then codes "EndTooSoon"
    else if number == unknown_name then codes "UnknownName"
    else if number == given_twice then codes "GivenTwice"
    else if number == wrong_slice then codes "WrongSlice"
    else if number == row_too_short then codes "RowTooShort"
    else if number == bad_number then codes "BadNumber"
    else if number == tabbing then codes "Tabbing"
    else []

-- the word of a fault of the sets, by its number; sets have no fault of another number
abbrev pub set_fault_word : ℕ → List ℕ
set_fault_word number =
    if number == twice_in_set then codes "TwiceInSet"
    else if number == empty_set then codes "EmptySet"
    else if number == bad_year then codes "BadYear"
    else if number == too_many then codes "TooMany"
    else []

-- the word of what is wrong with a parameter at an index
abbrev pub cell_fault_word : CellFault → List ℕ
cell_fault_word NoValue = codes "NoValue"
cell_fault_word Negative = codes "Negative"
cell_fault_word NotPositive = codes "NotPositive"
cell_fault_word NotWhole = codes "NotWhole"
cell_fault_word OutOfRange = codes "OutOfRange"
cell_fault_word WholeUnits = codes "WholeUnits"

-- a fault at a place of the text
abbrev pub place_text : Mark → List ℕ → List ℕ
place_text at fault = codes "line " ++ decimal at.line ++ codes " column " ++ decimal at.column ++ codes " " ++ fault

-- the line for a fault of the text
abbrev pub text_line : ℕ → Mark → List ℕ
text_line number at = line (codes "refused " ++ place_text at (text_fault_word number))

-- the line for a fault of the sets
abbrev pub set_line : SetFault → List ℕ
set_line fault = line (codes "refused set " ++ set_word fault.set ++ codes " " ++ set_fault_word fault.no)

-- the line for a word that names no member of the set
abbrev pub no_such_line : ℕ → List ℕ
no_such_line set = line (codes "refused no such " ++ set_word set)

-- what is wrong with a parameter at an index, with the names of its members in the parameter's own order of subscripts
abbrev pub cell_text : List ℕ → ℕ → List (List ℕ) → List ℕ
cell_text fault param index = fault ++ codes " " ++ param_word param ++ codes "[" ++ join_with_byte 44 index ++ codes "]"

-- a refusal of the data
abbrev pub refusal_text : Refusal → List ℕ
refusal_text StorageMember = codes "Storage"
refusal_text (refusals.UnknownName at) = place_text at (codes "UnknownMember")
refusal_text (GivenBefore at) = place_text at (codes "ValueTwice")
refusal_text (refusals.AtIndex fault param index) = cell_text (cell_fault_word fault) param index

-- the line for a refusal of the data
abbrev pub data_line : Refusal → List ℕ
data_line refusal = line (codes "refused " ++ refusal_text refusal)

-- what is wrong with a record of a file of changes
abbrev pub record_fault_text : RecordFault → List ℕ
record_fault_text BadHeader = codes "BadHeader"
record_fault_text BadRecord = codes "BadRecord"
record_fault_text UnknownName = codes "UnknownName"
record_fault_text UnknownMember = codes "UnknownMember"
record_fault_text BadNumber = codes "BadNumber"
record_fault_text BadChange = codes "BadChange"
record_fault_text (AtIndex refusal) = refusal_text refusal

-- the line for a refusal of changes
abbrev pub changes_line : ChangesFault → List ℕ
changes_line fault = line (codes "refused changes record " ++ decimal fault.number ++ codes " " ++ record_fault_text fault.fault)
