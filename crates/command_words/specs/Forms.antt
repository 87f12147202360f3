-- The forms of the commands, by the one table that the code has too, and which of them fits what is given.
use Rattle.std.specs.Prelude.{ℕ, Bool, true, false, not, ◌&&◌, ◌||◌, nat_le, List, [], ◌∷◌, ◌++◌, length, find, map, codes, Option, Some, None, is_some, option_map, if◌then◌else◌}
use Rattle.std.specs.Borrow.{Bor}
use Rattle.std.specs.List.{list_all, list_any}
use Rattle.std.specs.Option.{option_and_then, option_map_or}
use Rattle.std.specs.Str.{bytes_eq}
use Rattle.command_words.specs.declared.forms.FormName.{FormName}
use Rattle.command_words.specs.declared.forms.TheConstants.{FORMS}
use Rattle.command_words.specs.WordParts.{Part, File, Chosen, flag_value, named, options}

-- ---- what is given

-- the words that aren't options, in their order: files, names of members and of a table, limits, and the size after `make`; and the value of each option that is given
pub record Given : Type 0 where
  pub words : List (List ℕ)
  pub value : List ℕ → Option (List ℕ)

-- the words that aren't options
abbrev pub files_in : List Part → List (List ℕ)
files_in [] = []
files_in (File file ∷ parts) = file ∷ files_in parts
files_in (Chosen name value ∷ parts) = files_in parts

-- the first value of this name
abbrev pub value_in : List ℕ → List Part → Option (List ℕ)
value_in name [] = None
value_in name (File file ∷ parts) = value_in name parts
value_in name (Chosen other value ∷ parts) = if bytes_eq other name then Some value else value_in name parts

-- the part is an option that was given before
abbrev pub repeats : List Part → Part → Bool
repeats before (File file) = false
repeats before (Chosen name value) = is_some (value_in name before)

-- no part repeats an option of those before it
abbrev pub repeats_none : List Part → List Part → Bool
repeats_none before [] = true
repeats_none before (part ∷ parts) = not (repeats before part) && repeats_none (before ++ part ∷ []) parts

-- what a value says of an option that has one, or of a flag: that one is given where it is `true`
abbrev pub said_by : Bool → Option (List ℕ) → Option (List ℕ)
said_by true value = value
said_by false value = option_and_then (λ text. if bytes_eq text flag_value then Some text else None) value

-- the value of an option by these values, where the name is one's
abbrev pub value_by : (List ℕ → Option (List ℕ)) → List ℕ → Option (List ℕ)
value_by values name = option_and_then (λ has_value. said_by has_value (values name)) (named options name)

-- what these parts give
abbrev pub given_of_parts : List Part → Given
given_of_parts parts = record { words = files_in parts; value = value_by (λ name. value_in name parts) }

-- what the parts give, where there are some and none repeats an option
abbrev pub given_by : Option (List Part) → Option Given
given_by None = None
given_by (Some parts) = if repeats_none [] parts then Some (given_of_parts parts) else None

-- ---- forms

-- a form of a command: its name and its word, how many words at least and at most stand after that beside the options, the options that it may have,
-- those that it may have beside `--method rounded` alone, and those that it needs
pub record Form : Type 0 where
  pub name : FormName
  pub word : List ℕ
  pub least : ℕ
  pub most : ℕ
  pub options : List (List ℕ)
  pub rounded : List (List ℕ)
  pub needed : List (List ℕ)

-- the forms of all commands
abbrev pub forms : List Form
forms = map (λ (name, word, least, most, options, rounded, needed). record { name = name; word = word.now; least = least; most = most; options = map (λ o. o.now) options.now; rounded = map (λ o. o.now) rounded.now; needed = map (λ o. o.now) needed.now }) FORMS

-- the name is among these
abbrev pub is_among : List ℕ → List (List ℕ) → Bool
is_among name names = list_any (λ one. bytes_eq one name) names

-- the value of `--method` is `rounded`
abbrev pub asks_for_rounded : Given → Bool
asks_for_rounded given = option_map_or (λ method. bytes_eq method (codes "rounded")) (given.value (codes "method")) false

-- the option may be given, where it is, and may be left out, where it isn't
abbrev pub suits : Form → Given → List ℕ → Bool
suits form given name =
    if is_some (given.value name) then is_among name form.options || (is_among name form.rounded && asks_for_rounded given)
    else not (is_among name form.needed)

-- the form has so many words, and each option suits it
abbrev pub fits : Form → Given → Bool
fits form given = nat_le form.least (length given.words) && nat_le (length given.words) form.most && list_all (λ o. suits form given o.0) options

-- the word is a command's of the table
abbrev pub is_command_in : List Form → List ℕ → Bool
is_command_in table word = list_any (λ form. bytes_eq form.word word) table

-- the first form of this word that fits what is given
abbrev pub form_in : List Form → List ℕ → Given → Option FormName
form_in table word given = option_map (λ form. form.name) (find (λ form. bytes_eq form.word word && fits form given) table)

-- ---- the code's tables: private functions alone cite these

-- an entry of a table of words
abbrev pub entry_of : {A : Type 0} → Bor (List ℕ) × A → List ℕ × A
entry_of (word, value) = (word.now, value)

-- the texts of names
abbrev pub Names : Type 0
Names = Bor (List (Bor (List ℕ)))

abbrev pub texts_of : Names → List (List ℕ)
texts_of names = map (λ o. o.now) names.now

-- the form that an entry of the table describes
abbrev pub described : FormName × Bor (List ℕ) × ℕ × ℕ × Names × Names × Names → Form
described (name, word, least, most, options, rounded, needed) = record { name = name; word = word.now; least = least; most = most; options = texts_of options; rounded = texts_of rounded; needed = texts_of needed }
