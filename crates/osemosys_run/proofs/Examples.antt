-- What the words of the command line ask for, computed on examples.
use Rattle.osemosys_run.proofs.Common.{◌≡◌, false, [], ◌∷◌, Some, None, refl, Question, Request, Check, Mps, asked, names_of}
use Rattle.std.specs.Prelude.{codes, Ok, Err}
use Rattle.command_words.specs.declared.fault.WordFault.TheVariants.{NoCommand, BadCommand, BadForm, BadNumber, GapAlone}
use Rattle.command_words.specs.WordParts.{is_option}

-- a question without changes of its data
abbrev plain_request : Question → Request
plain_request question = record { question = question; changes = None; changes2 = None }

-- ---- `mps`, and words that ask for nothing

no_words : asked [] ≡ Err NoCommand
no_words = refl

one_file : asked (codes "mps" ∷ codes "FILE" ∷ []) ≡ Ok (plain_request (Mps (codes "FILE") 6))
one_file = refl

unknown_command : asked (codes "mpz" ∷ codes "FILE" ∷ []) ≡ Err BadCommand
unknown_command = refl

-- a prefix of a command is none
prefix_of_command : asked (codes "mp" ∷ codes "FILE" ∷ []) ≡ Err BadCommand
prefix_of_command = refl

longer_than_command : asked (codes "mps " ∷ codes "FILE" ∷ []) ≡ Err BadCommand
longer_than_command = refl

capital_letters : asked (codes "MPS" ∷ codes "FILE" ∷ []) ≡ Err BadCommand
capital_letters = refl

empty_command : asked ([] ∷ []) ≡ Err BadCommand
empty_command = refl

-- an option before the command is taken for the command
option_first : asked (codes "--help" ∷ []) ≡ Err BadCommand
option_first = refl

-- the command is looked at before the number of words
unknown_command_alone : asked (codes "solves" ∷ []) ≡ Err BadCommand
unknown_command_alone = refl

no_file : asked (codes "mps" ∷ []) ≡ Err BadForm
no_file = refl

two_files : asked (codes "mps" ∷ codes "a" ∷ codes "b" ∷ []) ≡ Err BadForm
two_files = refl

help : asked (codes "mps" ∷ codes "--help" ∷ []) ≡ Err BadForm
help = refl

named_like_an_option : asked (codes "mps" ∷ codes "-x" ∷ []) ≡ Err BadForm
named_like_an_option = refl

two_dashes : asked (codes "mps" ∷ codes "--" ∷ []) ≡ Err BadForm
two_dashes = refl

file_after_two_dashes : asked (codes "mps" ∷ codes "--" ∷ codes "FILE" ∷ []) ≡ Ok (plain_request (Mps (codes "FILE") 6))
file_after_two_dashes = refl

option_after_file : asked (codes "mps" ∷ codes "FILE" ∷ codes "--gap" ∷ codes "5" ∷ []) ≡ Err BadForm
option_after_file = refl

-- '-' alone is the name of a file
one_dash : asked (codes "mps" ∷ codes "-" ∷ []) ≡ Ok (plain_request (Mps (codes "-") 6))
one_dash = refl

-- and so is a word of no bytes
empty_name : asked (codes "mps" ∷ [] ∷ []) ≡ Ok (plain_request (Mps [] 6))
empty_name = refl

-- a '-' further on makes no option
dash_inside : asked (codes "mps" ∷ codes "a-b" ∷ []) ≡ Ok (plain_request (Mps (codes "a-b") 6))
dash_inside = refl

-- the command may be the name of a file too
command_twice : asked (codes "mps" ∷ codes "mps" ∷ []) ≡ Ok (plain_request (Mps (codes "mps") 6))
command_twice = refl

blank_before_dash : is_option (codes " -x") ≡ false
blank_before_dash = refl

-- ---- `check`

a_plan : asked (codes "check" ∷ codes "FILE" ∷ codes "PLAN" ∷ []) ≡ Ok (plain_request (Check (codes "FILE") (codes "PLAN") None 0 6))
a_plan = refl

with_multipliers : asked (codes "check" ∷ codes "FILE" ∷ codes "PLAN" ∷ codes "BOUND" ∷ codes "--gap" ∷ codes "142858" ∷ []) ≡ Ok (plain_request (Check (codes "FILE") (codes "PLAN") (Some (codes "BOUND")) 142858 6))
with_multipliers = refl

gap_alone : asked (codes "check" ∷ codes "FILE" ∷ codes "PLAN" ∷ codes "--gap" ∷ codes "0" ∷ []) ≡ Err GapAlone
gap_alone = refl

no_plan : asked (codes "check" ∷ codes "FILE" ∷ []) ≡ Err BadForm
no_plan = refl

gap_too_great : asked (codes "check" ∷ codes "FILE" ∷ codes "PLAN" ∷ codes "BOUND" ∷ codes "--gap=1000001" ∷ []) ≡ Err BadNumber
gap_too_great = refl

-- the data file is the first, then the plan's, then that of multipliers
in_order : names_of (plain_request (Check (codes "FILE") (codes "PLAN") (Some (codes "BOUND")) 0 6)) ≡ codes "FILE" ∷ codes "PLAN" ∷ codes "BOUND" ∷ []
in_order = refl
