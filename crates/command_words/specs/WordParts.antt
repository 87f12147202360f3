-- The form of the words after a command: files, options with their values, and flags without one (long options as in the GNU coding standards).
use Rattle.std.specs.Prelude.{◌≡◌, ◌↔◌, ℕ, Bool, true, false, not, ◌==◌, ◌&&◌, List, [], ◌∷◌, ◌++◌, map, find, codes, Option, Some, None, option_map, if◌then◌else◌}
use Rattle.std.specs.List.{list_all, list_any, flat_map, before_first, after_first}
use Rattle.std.specs.Option.{option_map_or}
use Rattle.std.specs.Str.{bytes_eq}
use Rattle.command_words.specs.declared.forms.TheConstants.{OPTIONS}

-- ---- words

-- a word that begins with '-' and goes on; '-' alone is the name of a file
abbrev pub is_option : List ℕ → Bool
is_option [] = false
is_option (b ∷ []) = false
is_option (b ∷ c ∷ bytes) = b == 45

-- the word after which no word is an option
abbrev pub options_end : List ℕ
options_end = codes "--"

-- the options of all commands, with whether they have a value: a flag has none
abbrev pub options : List (List ℕ × Bool)
options = map (λ (name, has_value). (name.now, has_value)) OPTIONS

-- an option's word
abbrev pub option_word : List ℕ → List ℕ
option_word name = codes "--" ++ name

-- what the word stands for in a table of words
abbrev pub named : {A : Type 0} → List (List ℕ × A) → List ℕ → Option A
named table word = option_map (λ entry. entry.1) (find (λ entry. bytes_eq entry.0 word) table)

-- the sign '=', which may join an option and its value
abbrev pub is_equals : ℕ → Bool
is_equals b = b == 61

-- the option whose word stands before the first '=', or is the whole word
abbrev pub option_in : List ℕ → Option (List ℕ × Bool)
option_in word = find (λ o. bytes_eq (option_word o.0) (before_first is_equals word)) options

-- the value after the first '='
abbrev pub joined_value : List ℕ → Option (List ℕ)
joined_value word = if list_any is_equals word then Some (after_first is_equals word) else None

-- ---- parts

-- the value of a flag that is given
abbrev pub flag_value : List ℕ
flag_value = codes "true"

-- a part of what the words say: a file, or an option's name with its value
pub data Part : Type 0 where
  File : List ℕ → Part
  Chosen : (name value : List ℕ) → Part

-- this part, and then those
abbrev pub followed : Part → Option (List Part) → Option (List Part)
followed part parts = option_map (λ ps. part ∷ ps) parts

-- an option is a known one, and its value is joined to it, or begins what follows; a flag has none
abbrev pub option_parts : Option (List ℕ × Bool) → Option (List ℕ) → Option (List Part) → (List ℕ → Option (List Part)) → Option (List Part)
option_parts None value after from_value = None
option_parts (Some (name, true)) (Some value) after from_value = followed (Chosen name value) after
option_parts (Some (name, true)) None after from_value = from_value name
option_parts (Some (name, false)) (Some value) after from_value = None
option_parts (Some (name, false)) None after from_value = followed (Chosen name flag_value) after

-- the parts of the words, the first of which is the value of this option where one is due; an option's word is no value
abbrev pub parts_from : Option (List ℕ) → List (List ℕ) → Option (List Part)
parts_from None [] = Some []
parts_from (Some name) [] = None
parts_from None (word ∷ words) =
    if bytes_eq options_end word then Some (map File words)
    else if is_option word then option_parts (option_in word) (joined_value word) (parts_from None words) (λ name. parts_from (Some name) words)
    else followed (File word) (parts_from None words)
parts_from (Some name) (word ∷ words) = if is_option word then None else followed (Chosen name word) (parts_from None words)

-- The parts that the words after a command say, where each option before '--' is a known one and has its value, and a flag has none.
abbrev pub parts_of : List (List ℕ) → Option (List Part)
parts_of words = parts_from None words

-- ---- the same by how parts are spelled

-- a part before '--' as it is spelled: a file's name, an option's word and its value, the two joined by '=', or a flag's word
pub data Spelling : Type 0 where
  Name : List ℕ → Spelling
  Apart : (name value : List ℕ) → Spelling
  Joined : (name value : List ℕ) → Spelling
  Flag : (name : List ℕ) → Spelling

-- the words of a part
abbrev pub words_of : Spelling → List (List ℕ)
words_of (Name file) = file ∷ []
words_of (Apart name value) = option_word name ∷ value ∷ []
words_of (Joined name value) = (option_word name ++ codes "=" ++ value) ∷ []
words_of (Flag name) = option_word name ∷ []

-- what it says
abbrev pub part_of : Spelling → Part
part_of (Name file) = File file
part_of (Apart name value) = Chosen name value
part_of (Joined name value) = Chosen name value
part_of (Flag name) = Chosen name flag_value

-- the name is an option's that has a value, or hasn't
abbrev pub names_option : List ℕ → Bool → Bool
names_option name has_value = option_map_or (λ found. if has_value then found else not found) (named options name) false

-- no file's name, and no value in a word of its own, is an option's word
abbrev pub is_spelling : Spelling → Bool
is_spelling (Name file) = not (is_option file)
is_spelling (Apart name value) = names_option name true && not (is_option value)
is_spelling (Joined name value) = names_option name true
is_spelling (Flag name) = names_option name false

-- '--' and the files after it, or nothing
abbrev pub end_words : Option (List (List ℕ)) → List (List ℕ)
end_words None = []
end_words (Some files) = options_end ∷ files

-- the files after '--'
abbrev pub end_files : Option (List (List ℕ)) → List Part
end_files None = []
end_files (Some files) = map File files

-- the words are those of parts that are spelled in turn, then perhaps '--' and files, and this is what they say
pub record Spells (words : List (List ℕ)) (parts : List Part) : Type 0 where
  pub spellings : List Spelling
  pub files : Option (List (List ℕ))
  pub right : list_all is_spelling spellings ≡ true
  pub spelled : words ≡ flat_map words_of spellings ++ end_words files
  pub said : parts ≡ map part_of spellings ++ end_files files

-- The parts of the words are those that are spelled so: there are some exactly where some spelling has these words, and they are what it says.
abbrev pub HasSpelledParts : List (List ℕ) → List Part → Type 0
HasSpelledParts words parts = (parts_of words ≡ Some parts) ↔ Spells words parts
