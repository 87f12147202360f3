-- Which data files are accepted, with which changes and with which data. Every command goes on from here.
use Rattle.std.specs.Prelude.{◌≡◌, ℕ, ◌≤◌, List, length, Option, None, Some, option_map, Result, Ok}
use Rattle.std.specs.Borrow.{Bor}
use Rattle.data_changes.specs.Faults.{ChangesFault}
use Rattle.data_changes.specs.Files.{after_file}
use Rattle.mathprog_data.specs.Meaning.{Blocks}
use Rattle.mathprog_data.specs.Verdicts.{Says}
use Rattle.model_sets.specs.Data.{Data}
use Rattle.param_tables.specs.BlockData.{data_told}
use Rattle.param_tables.specs.Built.{Built}
use Rattle.param_tables.specs.Canonical.{canonical}
use Rattle.param_tables.specs.Refusals.{first_refusal}
use Rattle.param_tables.specs.SetRefusals.{first_set_refusal}

-- the most bytes that a file may have: 64 MiB
abbrev pub most_bytes : ℕ
most_bytes = 67108864

-- where data come from: the text of a data file, and that of a file of changes where there is one
pub record Source : Type 0 where
  pub text : List ℕ
  pub changes : Option (List ℕ)

-- a data file without changes
abbrev pub plain : List ℕ → Source
plain text = record { text = text; changes = None }

-- the text of a data file, and that of changes where there is one
abbrev pub source_of : List ℕ → Option (Bor (List ℕ)) → Source
source_of text changes = record { text = text; changes = option_map (λ bytes. bytes.now) changes }

-- the data of blocks, in canonical form, and how many numbers of the text are rounded
abbrev pub built_of : Blocks → Built
built_of blocks = record { facts = canonical (data_told blocks); rounded = blocks.rounded }

-- data with the changes of a file, where there is one
abbrev pub changed_by : Option (List ℕ) → Built → Result Built ChangesFault
changed_by None built = Ok built
changed_by (Some changes) built = after_file built changes

-- The text has at most 64 MiB and says blocks, and neither their sets nor their data are refused.
pub record SaysData (text : List ℕ) : Type 0 where
  pub blocks : Blocks
  pub short : length text ≤ most_bytes
  pub says : Says text blocks
  pub sets_accepted : first_set_refusal blocks ≡ None
  pub data_accepted : first_refusal blocks ≡ None

-- The text says data, no change of them is refused, and these are the data with the changes, of which so many numbers are rounded.
pub record Accepted (source : Source) (d : Data) : Type 0 where
  pub says : SaysData source.text
  pub rounded : ℕ
  pub told : changed_by source.changes (built_of says.blocks) ≡ Ok (record { facts = d; rounded = rounded })
