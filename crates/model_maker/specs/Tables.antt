-- What the code's table of parameters says, without where its texts lie in memory. Private functions alone cite these definitions.
use Rattle.std.specs.Prelude.{ℕ, List, map}
use Rattle.std.specs.Borrow.{Bor}
use Rattle.model_maker.specs.declared.table.Value.{Value as CodeValue}
use Rattle.model_maker.specs.declared.table.Value.TheVariants as code
use Rattle.model_maker.specs.MadeModel.{Parameter, Value, Growing, Same}

-- a value
abbrev pub value_told : CodeValue → Value
value_told code.Growing = Growing
value_told (code.Same text) = Same text.now

-- a record: its members and its value
abbrev pub record_told : Bor (List ℕ) × CodeValue → List ℕ × Value
record_told (members, value) = (members.now, value_told value)

abbrev pub records_told : List (Bor (List ℕ) × CodeValue) → List (List ℕ × Value)
records_told records = map record_told records

-- a parameter: its name, its default and its records
abbrev pub parameter_told : Bor (List ℕ) × Bor (List ℕ) × Bor (List (Bor (List ℕ) × CodeValue)) → Parameter
parameter_told (name, default_value, records) = record { name = name.now; default_value = default_value.now; records = records_told records.now }

abbrev pub parameters_told : List (Bor (List ℕ) × Bor (List ℕ) × Bor (List (Bor (List ℕ) × CodeValue))) → List Parameter
parameters_told table = map parameter_told table
