-- The values of options, and the number of `make`.
use Rattle.std.specs.Prelude.{ℕ, ◌&&◌, nat_le, List, length, map, Option, Some, None, if◌then◌else◌}
use Rattle.std.specs.Char.{is_ascii_digit}
use Rattle.std.specs.List.{list_all}
use Rattle.std.specs.Str.Parse.{digits_value}
use Rattle.command_words.specs.WordParts.{named}
use Rattle.command_words.specs.declared.command.SolveShow.{SolveShow}
use Rattle.command_words.specs.declared.command.SolveShow.TheVariants.{Report}
use Rattle.command_words.specs.declared.command.CompareShow.{CompareShow}
use Rattle.command_words.specs.declared.command.CompareShow.TheVariants.{Text}
use Rattle.command_words.specs.declared.command.MakeShow.{MakeShow}
use Rattle.command_words.specs.declared.command.MakeShow.TheVariants.{File}
use Rattle.command_words.specs.declared.command.SolveMethod.{SolveMethod}
use Rattle.command_words.specs.declared.command.SolveMethod.TheVariants.{Exact}
use Rattle.command_words.specs.declared.values.TheConstants.{COMPARE_SHOWS, MAKE_SHOWS, METHODS, PLACES, SOLVE_SHOWS}

-- the whole number of 1 to `places` decimal digits, where it is from `least` to `most`; leading zeros may stand
abbrev pub number_within : ℕ → ℕ → ℕ → List ℕ → Option ℕ
number_within places least most text =
    if nat_le 1 (length text) && nat_le (length text) places && list_all is_ascii_digit text
    && nat_le least (digits_value 10 text) && nat_le (digits_value 10 text) most
    then Some (digits_value 10 text)
    else None

-- the value of an option that may be left out
abbrev pub with_default : {A : Type 0} → A → (List ℕ → Option A) → Option (List ℕ) → Option A
with_default value read None = Some value
with_default value read (Some text) = read text

-- a gap or a slack in millionths, or the most pivots: 1 to 7 digits, 0 to 1,000,000
abbrev pub number_or : ℕ → Option (List ℕ) → Option ℕ
number_or default = with_default default (number_within 7 0 1000000)

-- what the value stands for in a table of words
abbrev pub choice : {A : Type 0} → List (List ℕ × A) → A → Option (List ℕ) → Option A
choice table default = with_default default (named table)

-- how many decimal places written factors have: 6 or 9, and 6 where it is left out
abbrev pub places_of : Option (List ℕ) → Option ℕ
places_of = choice (map (λ (word, value). (word.now, value)) PLACES) 6

-- the size of a made file: 1 to 3 digits, 3 to 122
abbrev pub size_of : List ℕ → Option ℕ
size_of = number_within 3 3 122

-- what `solve` is to write, the report where it is left out
abbrev pub solve_show_of : Option (List ℕ) → Option SolveShow
solve_show_of = choice (map (λ (word, value). (word.now, value)) SOLVE_SHOWS) Report

-- what `make` is to write, the file where it is left out
abbrev pub make_show_of : Option (List ℕ) → Option MakeShow
make_show_of = choice (map (λ (word, value). (word.now, value)) MAKE_SHOWS) File

-- what `compare` is to write, the text where it is left out
abbrev pub compare_show_of : Option (List ℕ) → Option CompareShow
compare_show_of = choice (map (λ (word, value). (word.now, value)) COMPARE_SHOWS) Text

-- the method that a command begins with, the exact one where it is left out
abbrev pub method_of : Option (List ℕ) → Option SolveMethod
method_of = choice (map (λ (word, value). (word.now, value)) METHODS) Exact
