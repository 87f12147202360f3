-- What the code's symbols say, without where their bytes lie in memory.
use Rattle.std.specs.Prelude.{ℕ, false, List, Option, Some, None}
use Rattle.mathprog_data.specs.declared.statements.seen.Seen.{Seen as SlicedSeen}
use Rattle.mathprog_data.specs.declared.statements.seen.Seen.TheVariants as sliced
use Rattle.mathprog_data.specs.declared.statements.seen.Symbol.{Symbol}
use Rattle.mathprog_data.specs.declared.words.Word.{Word}
use Rattle.mathprog_data.specs.declared.words.Word.TheVariants.{Other}
use Rattle.mathprog_data.specs.Lexemes.{bare_name, undoubled}
use Rattle.mathprog_data.specs.MachineStates.{Seen, SignSeen, EmptySeen, SymbolSeen}
use Rattle.mathprog_data.specs.NumberReading.{reading}
use Rattle.mathprog_data.specs.Symbols.{Name, Number}
use Rattle.mathprog_data.specs.Words.{word_of}

-- which word bytes are after this quote, or without one
abbrev pub word_by : Option ℕ → List ℕ → Word
word_by None bytes = word_of bytes
word_by (Some quote) bytes = Other

-- the name of bytes after this quote, or without one
abbrev pub name_by : Option ℕ → List ℕ → Name
name_by None bytes = bare_name bytes
name_by (Some quote) bytes = undoubled quote false bytes

-- the number of bytes after this quote, or without one
abbrev pub number_by : Option ℕ → List ℕ → Option Number
number_by None bytes = reading bytes
number_by (Some quote) bytes = None

abbrev pub word_in : Symbol → Word
word_in s = word_by s.quote s.bytes.now

abbrev pub name_in : Symbol → Name
name_in s = name_by s.quote s.bytes.now

abbrev pub number_in : Symbol → Option Number
number_in s = number_by s.quote s.bytes.now

-- what the code's token says
abbrev pub seen_view : SlicedSeen → Seen
seen_view (sliced.Sign sign) = SignSeen sign
seen_view sliced.Empty = EmptySeen
seen_view (sliced.Symbol s) = SymbolSeen (word_in s) (name_in s) (number_in s)
