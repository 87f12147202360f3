-- The change that a record says.
use Rattle.std.specs.Prelude.{ℕ, ◌+◌, ℤ, Bool, not, ◌&&◌, ◌==◌, nat_eq, nat_le, List, [], ◌∷◌, codes, drop, length, map, position, take, Option, None, Some, option_map, Result, Ok, Err, if◌then◌else◌}
use Rattle.std.specs.List.{zip}
use Rattle.std.specs.Option.{option_and_then}
use Rattle.std.specs.Str.{bytes_eq}
use Rattle.model_sets.specs.Data.{Data}
use Rattle.model_sets.specs.Members.{SetLists, is_among, members}
use Rattle.model_sets.specs.Names.{year}
use Rattle.model_sets.specs.Params.{is_used, param_at, param_number, subscript_sets}
use Rattle.model_sets.specs.Years.{number_of}
use Rattle.param_tables.specs.Changes.{Change, Every, Named, One, Years}
use Rattle.param_tables.specs.declared.change.ChangeKind.{ChangeKind}
use Rattle.param_tables.specs.declared.change.ChangeKind.TheVariants.{Add, Multiply, Put}
use Rattle.plan_files.specs.Files.{Fields}
use Rattle.scaled_decimals.specs.declared.reading.DecFault.{DecFault}
use Rattle.scaled_decimals.specs.NumberReading.{decimal_in}
use Rattle.data_changes.specs.Columns.{columns_of, field_in, has_stray, is_every}
use Rattle.data_changes.specs.Faults.{BadChange, BadNumber, BadRecord, RecordFault, UnknownMember, UnknownName}

-- a change, and whether the number in the record was rounded to billionths
pub record ToldChange : Type 0 where
  pub change : Change
  pub rounded : Bool

-- the years between two members, both included, of which the first isn't later
abbrev pub years_between : List (List ℕ) → List ℕ → List ℕ → Option Named
years_between names first last =
    if is_among names first && is_among names last && nat_le (number_of first) (number_of last) then Some (Years (number_of first) (number_of last)) else None

-- the years from one member to another, with `-` between: `2035-2050`
abbrev pub years_named : List (List ℕ) → List ℕ → Option Named
years_named names text = option_and_then (λ place. years_between names (take place text) (drop (place + 1) text)) (position (λ b. b == 45) text)

-- the members of the set that the text names: every one, one, or the years from one to another
abbrev pub members_named : SetLists → ℕ → List ℕ → Option Named
members_named sets set text =
    if is_every text then Some Every
    else if is_among (members sets set) text then Some (One text)
    else if nat_eq set year then years_named (members sets set) text
    else None

-- the members that each text names of its set, where each names some
abbrev pub all_named : SetLists → List (ℕ × List ℕ) → Option (List Named)
all_named sets [] = Some []
all_named sets ((set, text) ∷ others) = option_and_then (λ named. option_map (λ more. named ∷ more) (all_named sets others)) (members_named sets set text)

-- the texts of the parameter's subscripts, each with its set
abbrev pub texts_of : Fields → Fields → ℕ → List (ℕ × List ℕ)
texts_of header r param = zip (subscript_sets param) (map (field_in header r) (columns_of param))

-- the number of the parameter of this name, where the data use it
abbrev pub used_number : Bool → List ℕ → Option ℕ
used_number second name = option_and_then (λ param. if is_used second (param_at param).used then Some param else None) (param_number name)

-- what is done with a value: `=` puts the number, `*` multiplies by it, `+` adds it
abbrev pub kind_in : List ℕ → Option ChangeKind
kind_in text =
    if bytes_eq text (codes "=") then Some Put
    else if bytes_eq text (codes "*") then Some Multiply
    else if bytes_eq text (codes "+") then Some Add
    else None

-- what is made of a value, or this fault where there is none
abbrev pub or_fault : {A B : Type 0} → RecordFault → Option A → (A → Result B RecordFault) → Result B RecordFault
or_fault fault None make = Err fault
or_fault fault (Some value) make = make value

-- the number that a text reads as, with whether it was rounded
abbrev pub read_number : Result (ℤ × Bool) DecFault → Option (ℤ × Bool)
read_number (Ok read) = Some read
read_number (Err fault) = None

-- the change of the parameter that the record says
abbrev pub change_of : SetLists → Fields → Fields → ℕ → Result ToldChange RecordFault
change_of sets header r param =
    or_fault UnknownMember (all_named sets (texts_of header r param)) (λ named.
    or_fault BadNumber (read_number (decimal_in (field_in header r (codes "VALUE")))) (λ read.
    or_fault BadChange (kind_in (field_in header r (codes "CHANGE"))) (λ kind.
    Ok (record { change = record { param = param; named = named; kind = kind; amount = read.0 }; rounded = read.1 }))))

-- the change that the record says over these data, or the first rule that it breaks
unfoldable pub change_in : Data → Fields → Fields → Result ToldChange RecordFault
change_in d header r =
    if not (length r == length header) then Err BadRecord
    else or_fault UnknownName (used_number d.second (field_in header r (codes "NAME"))) (λ param.
    if has_stray header r param then Err BadRecord else change_of d.sets header r param)
