-- The command that clap is given, and what it makes of the words after a command.
use Rattle.std.specs.Prelude.{Bool, true, false, List, [], ◌∷◌, codes, fold, unwrap_or, Option, Some, None, option_map, if◌then◌else◌}
use Rattle.clap.specs.Matches.{first_value, found_of, matched_of, raw_values}
use Rattle.clap.specs.Walk.{Row, Rule, Text}
use Rattle.clap.specs.Simple.{App, matches_of, new_app, new_rule, on_top, with_rule}
use Rattle.clap.specs.Kinds.{Kinds}
use Rattle.clap.specs.Faults.{fault_of}
use Rattle.clap.specs.declared.parser.matches.ArgMatches.{ArgMatches}
use Rattle.clap.specs.declared.builder.action.ArgAction.TheVariants.{Set, SetTrue, Append}
use Rattle.command_words.specs.Forms.{Given, value_by}
use Rattle.command_words.specs.WordParts.{options}

-- files, wherever they stand
abbrev pub file_rule : Rule
file_rule = record (new_rule (codes "file")) { action = Some Append }

-- an option with one value
abbrev pub option_rule : Text → Rule
option_rule name = record (new_rule name) { long = Some name; action = Some Set }

-- a flag, which has none
abbrev pub flag_rule : Text → Rule
flag_rule name = record (new_rule name) { long = Some name; action = Some SetTrue }

-- files in any number; no program's name stands before the words, and there is no help
abbrev pub files_only : App
files_only = with_rule (on_top (λ top. record top { no_binary_name = true; disable_help_flag = true }) (new_app (codes "osemosys"))) file_rule

-- an option, or a flag
abbrev pub rule_named : Text × Bool → Rule
rule_named (name, true) = option_rule name
rule_named (name, false) = flag_rule name

-- files, and the options of all commands
abbrev pub app : App
app = fold (λ a o. with_rule a (rule_named o)) files_only options

-- some kind of error comes
abbrev pub is_fault : Kinds → Bool
is_fault [] = false
is_fault (kind ∷ kinds) = true

-- what clap finds, or nothing where it refuses the words
unfoldable pub clap_rows : List Text → Option (List Row)
clap_rows words = if is_fault (fault_of app words) then None else Some (matches_of app words)

-- what it finds is given
abbrev pub given_of : ArgMatches → Given
given_of matches = record {
  words = unwrap_or (option_map raw_values (matched_of (found_of matches) (codes "file"))) [];
  value = value_by (first_value (found_of matches));
}
