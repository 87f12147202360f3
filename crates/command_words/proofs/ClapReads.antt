-- What clap finds of the words after a command is what their parts give.
use Rattle.command_words.proofs.Common.{Global, ◌≡◌, ◌∙◌, ◌||◌, List, [], ◌∷◌, ◌++◌, map, Option, Some, None, is_some, Bool, true, false, cond, refl, ap, ap₂, subst, option_map, AllByRecursion, bytes_eq, IsUtf8, string_bytes, IsUtf8-string_bytes, bytes_eq-Decides, DefaultValue, matches_of, or_else, defaults_fault, fault_of, given_default_fault, walk_fault, app, clap_rows, is_fault, Given, files_in, given_by, given_of_parts, repeats_none, said_by, value_by, value_in, Part, options, parts_from, parts_of}
use Rattle.std.specs.Prelude.{codes, fold, find, option_and_then, slice_get, unwrap_or, String}
use Rattle.clap.specs.Walk.{Row, Text, all_of, first_of, has_row, nothing_held, reading_by, settled, idle, with_default, with_values}
use Rattle.clap.proofs.FaultLemmas.{leaf_fault}
use Rattle.command_words.proofs.ClapTurns.{at, file, rule_for, rules, settling, shape}
use Rattle.command_words.proofs.ClapOptions.{IsOption, are_options, ended, finish, or_else_nil}
use Rattle.command_words.proofs.ClapStates.{Says, fine_start, listed, row_of_one}
use Rattle.command_words.proofs.WordSpelling.{of_found}
use Rattle.command_words.proofs.ClapRows.{added_elsewhere, added_here, has_row_is}
use Rattle.command_words.proofs.ClapWalk.{Agrees, agrees, end_of, faults, gathers}

-- ---- after the walk: flags alone have defaults, and no argument is required

either : (b : Bool) → (b || true) ≡ true
either true = refl
either false = refl

both_same : {A : Type 0} (b : Bool) (x : A) → cond b x x ≡ x
both_same true x = refl
both_same false x = refl

-- a default is no fault
no_defaults : (os : List (Text × Bool)) (rows : List Row) → defaults_fault rows (map rule_for os) ≡ []
unfolding defaults_fault
no_defaults [] rows = refl
no_defaults ((name, true) ∷ os) rows = ap₂ or_else (ap (λ b. cond b [] (given_default_fault (rule_for (name, true)) [])) (either (has_row name rows))) (no_defaults os (with_default rows (rule_for (name, true))))
no_defaults ((name, false) ∷ os) rows = ap₂ or_else (go (has_row name rows)) (no_defaults os (with_default rows (rule_for (name, false))))
  where
    go : (b : Bool) → cond (b || false) [] (given_default_fault (rule_for (name, false)) (codes "false" ∷ [])) ≡ []
    go true = refl
    go false = refl

no_defaults_of_all : (rows : List Row) → defaults_fault rows rules ≡ []
unfolding defaults_fault
no_defaults_of_all rows = ap₂ or_else (ap (λ b. cond b [] (given_default_fault file [])) (either (has_row (codes "file") rows))) (no_defaults options (with_default rows file))

-- and an argument has its values from the words, or its default
end_values : (os : List (Text × Bool)) (rows : List Row) (name : Text) → all_of name (fold with_default rows (map rule_for os)) ≡ ended name os (all_of name rows)
end_values [] rows name = refl
end_values ((other, true) ∷ os) rows name = ap (λ r. all_of name (fold with_default r (map rule_for os))) (both_same (has_row other rows) rows) ∙ end_values os rows name
end_values ((other, false) ∷ os) rows name = end_values os (with_default rows (rule_for (other, false))) name ∙ ap (ended name os) (go (bytes_eq other name) refl)
  where
    filled : Bool → List Row
    filled has = cond has rows (with_values other (reading_by (rule_for (other, false))) DefaultValue (codes "false" ∷ []) rows)

    own : (has : Bool) → has ≡ is_some (all_of other rows) → all_of other (filled has) ≡ Some (unwrap_or (all_of other rows) (codes "false" ∷ []))
    own true is = some (all_of other rows) is
      where
        some : (found : Option (List Text)) → true ≡ is_some found → found ≡ Some (unwrap_or found (codes "false" ∷ []))
        some None e = absurd cc
        some (Some values) e = refl
    own false is = added_here other (reading_by (rule_for (other, false))) DefaultValue (codes "false") rows ((bytes_eq-Decides other other).1 refl) ∙ none (all_of other rows) is
      where
        none : (found : Option (List Text)) → false ≡ is_some found → Some (unwrap_or found [] ++ codes "false" ∷ []) ≡ Some (unwrap_or found (codes "false" ∷ []))
        none None e = refl
        none (Some values) e = absurd cc

    beside : (has : Bool) → bytes_eq other name ≡ false → all_of name (filled has) ≡ all_of name rows
    beside true apart = refl
    beside false apart = added_elsewhere other (reading_by (rule_for (other, false))) DefaultValue (codes "false") name rows apart

    go : (b : Bool) → bytes_eq other name ≡ b → all_of name (filled (has_row other rows)) ≡ cond b (Some (unwrap_or (all_of name rows) (codes "false" ∷ []))) (all_of name rows)
    go true e = subst (λ n. all_of n (filled (has_row other rows)) ≡ Some (unwrap_or (all_of n rows) (codes "false" ∷ []))) ((bytes_eq-Decides other name).0 e) (own (has_row other rows) (has_row_is other rows))
    go false e = beside (has_row other rows) e

abbrev end_rows : List Row → List Row
end_rows rows = fold with_default rows rules

end_all : (rows : List Row) (name : Text) → all_of name (end_rows rows) ≡ ended name options (all_of name rows)
end_all rows name = ap (λ r. all_of name (fold with_default r (map rule_for options))) (both_same (has_row (codes "file") rows) rows) ∙ end_values options rows name

-- ---- what clap's rows give

first_is : (id : Text) (rows : List Row) → first_of id rows ≡ option_and_then (λ values. slice_get values 0) (all_of id rows)
first_is id rows = go (find (λ r. bytes_eq r.id id) rows)
  where
    go : (found : Option Row) → option_and_then (λ r. slice_get r.values 0) found ≡ option_and_then (λ values. slice_get values 0) (option_map (λ r. r.values) found)
    go None = refl
    go (Some r) = refl

-- what the rows give
abbrev pub given_rows : List Row → Given
given_rows rows = record { words = unwrap_or (all_of (codes "file") rows) []; value = value_by (λ name. first_of name rows) }

module _ (rows : List Row) (parts : List Part) (s : Says rows parts) where
  unlisted : (xs : List Text) → unwrap_or (listed xs) [] ≡ xs
  unlisted [] = refl
  unlisted (x ∷ xs) = refl

  first : (has_value : Bool) (value : Option Text) → said_by has_value (option_and_then (λ values. slice_get values 0) (finish has_value (row_of_one value))) ≡ said_by has_value value
  first true None = refl
  first true (Some value) = refl
  first false None = refl
  first false (Some value) = refl

  known_value : (o : Text × Bool) → IsOption o → said_by o.1 (first_of o.0 (end_rows rows)) ≡ said_by o.1 (value_in o.0 parts)
  known_value o known =
      ap (said_by o.1) (first_is o.0 (end_rows rows) ∙ ap (option_and_then (λ values. slice_get values 0)) (end_all rows o.0 ∙ known.ends (all_of o.0 rows) ∙ ap (finish o.1) (s.options o.0 known.file_no)))
      ∙ first o.1 (value_in o.0 parts)

  value : (name : Text) → value_by (λ name. first_of name (end_rows rows)) name ≡ value_by (λ name. value_in name parts) name
  value name = go (find (λ o. bytes_eq o.0 name) options) refl
    where
      go : (found : Option (Text × Bool)) → find (λ o. bytes_eq o.0 name) options ≡ found
          → option_and_then (λ has_value. said_by has_value (first_of name (end_rows rows))) (option_map (λ o. o.1) found) ≡ option_and_then (λ has_value. said_by has_value (value_in name parts)) (option_map (λ o. o.1) found)
      go None e = refl
      go (Some o) e =
          let known = of_found IsOption (λ o. bytes_eq o.0 name) options are_options o e in
          subst (λ n. said_by o.1 (first_of n (end_rows rows)) ≡ said_by o.1 (value_in n parts)) ((bytes_eq-Decides o.0 name).0 known.1) (known_value o known.0)

  says_is : given_rows (end_rows rows) ≡ given_of_parts parts
  says_is = λ i. record { words = files i; value = λ name. value name i }
    where
      files : unwrap_or (all_of (codes "file") (end_rows rows)) [] ≡ files_in parts
      files = ap (λ found. unwrap_or found []) (end_all rows (codes "file") ∙ s.files) ∙ unlisted (files_in parts)

fault_is : (words : List Text) → fault_of app words ≡ faults (at nothing_held idle) words
fault_is words =
    let last = settling (end_of (at nothing_held idle) words).held in
    let after : defaults_fault (settled rules (end_of (at nothing_held idle) words).held).rows rules ≡ [] = no_defaults_of_all _ in
    leaf_fault (record { top = shape; subs = [] }) nothing_held words refl
    ∙ ap (λ kinds. or_else (walk_fault shape [] (at nothing_held idle) words) (or_else last (or_else kinds []))) after
    ∙ ap (or_else (walk_fault shape [] (at nothing_held idle) words)) (or_else_nil last)

given_is : (parts : Option (List Part)) → option_map given_of_parts (gathers [] parts) ≡ given_by parts
given_is None = refl
given_is (Some parts) = go (repeats_none [] parts)
  where
    go : (b : Bool) → option_map given_of_parts (cond b (Some parts) None) ≡ cond b (Some (given_of_parts parts)) None
    go true = refl
    go false = refl

-- What clap finds, and whether it does, is what the parts of the words give.
pub clap_gives : (words : List Text) → AllByRecursion IsUtf8 words → option_map given_rows (clap_rows words) ≡ given_by (parts_of words)
unfolding clap_rows
clap_gives words utf8 = go (gathers [] (parts_from None words)) (agrees words utf8 None nothing_held [] idle tt fine_start tt) ∙ given_is (parts_from None words)
  where
    go : (out : Option (List Part)) → Agrees (at nothing_held idle) words out → option_map given_rows (cond (is_fault (fault_of app words)) None (Some (matches_of app words))) ≡ option_map given_of_parts out
    go None fails = rw (fault_is words, fails) refl
    go (Some parts) fine = rw (fault_is words, fine.0) (ap Some (says_is _ parts fine.1))

-- the words are UTF-8, as all strings are
pub words_utf8 : (words : List (String Global)) → AllByRecursion IsUtf8 (map string_bytes words)
words_utf8 [] = tt
words_utf8 (word ∷ words) = (IsUtf8-string_bytes word, words_utf8 words)
