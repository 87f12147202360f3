-- The words after a command have the parts that are spelled so, and no others.
use Rattle.command_words.proofs.Common.{rules, ◌≡◌, ◌∙◌, ◌+◌, ◌&&◌, ◌||◌, ◌==◌, arith, ℕ, suc, List, [], ◌∷◌, ◌++◌, take, drop, map, Option, Some, None, Bool, true, false, cond, refl, ap, sym, subst, true≢false, append_assoc, option_map, AllByRecursion, list_all, list_any, flat_map, before_first, after_first, position_or_len, option_map_or, bytes_eq, and_parts, not-true, Decides-eqb, bytes_eq-Decides, HasSpelledParts, Part, File, Chosen, Spelling, Name, Apart, Joined, Flag, Spells, end_files, end_words, flag_value, followed, is_equals, is_option, is_spelling, joined_value, names_option, option_in, option_parts, option_word, options, options_end, part_of, parts_from, parts_of, words_of}
use Rattle.std.specs.Prelude.{codes, find, not, ⊤}

-- ---- an option and its value in one word

split_equals : (word : List ℕ) → list_any is_equals word ≡ true → word ≡ before_first is_equals word ++ (61 ∷ after_first is_equals word)
split_equals [] e = absurd (true≢false (sym e))
split_equals (x ∷ xs) e = go (x == 61) refl e (split_equals xs)
  where
    n : ℕ
    n = position_or_len is_equals xs

    go : (b : Bool) → (x == 61) ≡ b → (b || list_any is_equals xs) ≡ true → (list_any is_equals xs ≡ true → xs ≡ before_first is_equals xs ++ (61 ∷ after_first is_equals xs))
        → x ∷ xs ≡ before_first is_equals (x ∷ xs) ++ (61 ∷ after_first is_equals (x ∷ xs))
    go true is e rest = rw is (ap (λ y. y ∷ xs) ((Decides-eqb x 61).0 is))
    go false is e rest =
        let one : 1 + n ≡ suc n = omega arith in
        let two : 1 + n + 1 ≡ suc (n + 1) = omega arith in
        rw is (ap (λ ys. x ∷ ys) (rest e) ∙ (λ i. take (sym one i) (x ∷ xs) ++ (61 ∷ drop (sym two i) (x ∷ xs))))

pub no_equals : (word : List ℕ) → list_any is_equals word ≡ false → before_first is_equals word ≡ word
no_equals [] e = refl
no_equals (x ∷ xs) e = go (x == 61) refl e (no_equals xs)
  where
    n : ℕ
    n = position_or_len is_equals xs

    go : (b : Bool) → (x == 61) ≡ b → (b || list_any is_equals xs) ≡ false → (list_any is_equals xs ≡ false → before_first is_equals xs ≡ xs) → before_first is_equals (x ∷ xs) ≡ x ∷ xs
    go true is e rest = absurd (true≢false e)
    go false is e rest =
        let one : 1 + n ≡ suc n = omega arith in
        rw is (ap (λ k. take k (x ∷ xs)) one ∙ ap (λ ys. x ∷ ys) (rest e))

-- ---- the options of the table

-- what all have, the one that is found has, and it passes the test
pub of_found : {A : Type 0} (P : A → Type 0) (test : A → Bool) (xs : List A) → AllByRecursion P xs → (x : A) → find test xs ≡ Some x → P x × (test x ≡ true)
of_found P test [] all x e = absurd cc
of_found P test (y ∷ ys) all x e = go (test y) refl e (of_found P test ys all.1 x)
  where
    go : (b : Bool) → test y ≡ b → cond b (Some y) (find test ys) ≡ Some x → (find test ys ≡ Some x → P x × (test x ≡ true)) → P x × (test x ≡ true)
    go true passes e rest = let is : y ≡ x = cc in (subst P is all.0, subst (λ z. test z ≡ true) is passes)
    go false passes e rest = rest e

-- the parts of the words of an option, by whether it has a value
abbrev HasParts : List ℕ → Bool → Type 0
HasParts name true =
    ((value : List ℕ) (words : List (List ℕ)) → parts_from None (option_word name ∷ value ∷ words) ≡ parts_from (Some name) (value ∷ words))
    × ((value : List ℕ) (words : List (List ℕ)) → parts_from None ((option_word name ++ codes "=" ++ value) ∷ words) ≡ followed (Chosen name value) (parts_from None words))
HasParts name false = (words : List (List ℕ)) → parts_from None (option_word name ∷ words) ≡ followed (Chosen name flag_value) (parts_from None words)

-- an option of the table is found by its name, and has these parts
record IsSpelled (o : List ℕ × Bool) : Type 0 where
  named : names_option o.0 o.1 ≡ true
  parts : HasParts o.0 o.1

are_options : AllByRecursion IsSpelled options
are_options = search rules

-- the option that a word has has the text before the '=' for its word
option_found : (word : List ℕ) (o : List ℕ × Bool) → option_in word ≡ Some o → IsSpelled o × (option_word o.0 ≡ before_first is_equals word)
option_found word o e =
    let found = of_found IsSpelled (λ o. bytes_eq (option_word o.0) (before_first is_equals word)) options are_options o e in
    (found.0, (bytes_eq-Decides (option_word o.0) (before_first is_equals word)).0 found.1)

-- a name of an option has its parts
has_parts : (name : List ℕ) (has_value : Bool) → names_option name has_value ≡ true → HasParts name has_value
has_parts name has_value e = go (find (λ o. bytes_eq o.0 name) options) refl e
  where
    same : (a b : Bool) → cond a b (not b) ≡ true → b ≡ a
    same true b e = e
    same false true e = absurd cc
    same false false e = refl

    go : (found : Option (List ℕ × Bool)) → find (λ o. bytes_eq o.0 name) options ≡ found → option_map_or (λ v. cond has_value v (not v)) (option_map (λ o. o.1) found) false ≡ true → HasParts name has_value
    go None is e = absurd cc
    go (Some o) is e =
        let known = of_found IsSpelled (λ o. bytes_eq o.0 name) options are_options o is in
        subst (λ n. HasParts n has_value) ((bytes_eq-Decides o.0 name).0 known.1) (subst (HasParts o.0) (same has_value o.1 e) known.0.parts)

-- ---- what is spelled so has these parts

-- no file is '--'
no_end : (word : List ℕ) → is_option word ≡ false → bytes_eq options_end word ≡ false
no_end word e = go (bytes_eq options_end word) refl
  where
    go : (b : Bool) → bytes_eq options_end word ≡ b → b ≡ false
    go true is = let end : options_end ≡ word = (bytes_eq-Decides options_end word).0 is in absurd (true≢false (ap is_option end ∙ e))
    go false is = refl

next_part : (s : Spelling) (words : List (List ℕ)) → is_spelling s ≡ true → parts_from None (words_of s ++ words) ≡ followed (part_of s) (parts_from None words)
next_part (Name file) words right = let e = not-true (is_option file) right in rw (no_end file e, e) refl
next_part (Apart name value) words right =
    let both = and_parts (names_option name true) (not (is_option value)) right in
    (has_parts name true both.0).0 value words ∙ rw (not-true (is_option value) both.1) refl
next_part (Joined name value) words right = (has_parts name true right).1 value words
next_part (Flag name) words right = has_parts name false right words

all_parts : (spellings : List Spelling) (files : Option (List (List ℕ))) → list_all is_spelling spellings ≡ true
    → parts_from None (flat_map words_of spellings ++ end_words files) ≡ Some (map part_of spellings ++ end_files files)
all_parts [] None right = refl
all_parts [] (Some files) right = refl
all_parts (s ∷ spellings) files right =
    let parts = and_parts (is_spelling s) (list_all is_spelling spellings) right in
    ap (parts_from None) (append_assoc (words_of s) (flat_map words_of spellings) (end_words files))
    ∙ next_part s (flat_map words_of spellings ++ end_words files) parts.0
    ∙ ap (followed (part_of s)) (all_parts spellings files parts.1)

spelled_parts : (words : List (List ℕ)) (parts : List Part) → Spells words parts → parts_of words ≡ Some parts
spelled_parts words parts s = ap parts_of s.spelled ∙ all_parts s.spellings s.files s.right ∙ ap Some (sym s.said)

-- ---- and there are no others

-- one more part before those that are spelled
with_part : (s : Spelling) (words : List (List ℕ)) (parts : List Part) → is_spelling s ≡ true → Spells words parts → Spells (words_of s ++ words) (part_of s ∷ parts)
with_part s words parts right rest = record {
  spellings = s ∷ rest.spellings;
  files = rest.files;
  right = (λ i. right i && rest.right i);
  spelled = ap (λ more. words_of s ++ more) rest.spelled ∙ sym (append_assoc (words_of s) (flat_map words_of rest.spellings) (end_words rest.files));
  said = ap (λ more. part_of s ∷ more) rest.said;
}

-- the parts that follow one
then : (part : Part) (after : Option (List Part)) (parts : List Part) → followed part after ≡ Some parts → (more : List Part) × (after ≡ Some more) × (part ∷ more ≡ parts)
then part None parts e = absurd cc
then part (Some more) parts e = (more, refl, cc)

-- the words that parts are read from, with the word of the option whose value is due
abbrev from : Option (List ℕ) → List (List ℕ) → List (List ℕ)
from None words = words
from (Some name) words = option_word name ∷ words

-- an option that is due has a value
abbrev IsDue : Option (List ℕ) → Type 0
IsDue None = ⊤
IsDue (Some name) = names_option name true ≡ true

abbrev AreSpelled : List (List ℕ) → Type 0
AreSpelled words = (o : Option (List ℕ)) (parts : List Part) → IsDue o → parts_from o words ≡ Some parts → Spells (from o words) parts

-- a file, a value or '--' and what follows
module _ (word : List ℕ) (words : List (List ℕ)) (rest : AreSpelled words) where
  after : (s : Spelling) (parts : List Part) → is_spelling s ≡ true → followed (part_of s) (parts_from None words) ≡ Some parts → Spells (words_of s ++ words) parts
  after s parts right e =
      let more = then (part_of s) (parts_from None words) parts e in
      subst (λ (ps : List Part). Spells (words_of s ++ words) ps) more.2 (with_part s words more.0 right (rest None more.0 tt more.1))

  lacks : (b : Bool) → list_any is_equals word ≡ b → cond b (Some (after_first is_equals word)) None ≡ None → list_any is_equals word ≡ false
  lacks true is e = absurd cc
  lacks false is e = is

  value_spelled : (name : List ℕ) (parts : List Part) → names_option name true ≡ true → parts_from (Some name) (word ∷ words) ≡ Some parts → Spells (option_word name ∷ word ∷ words) parts
  value_spelled name parts known e = go (is_option word) refl e
    where
      go : (b : Bool) → is_option word ≡ b → cond b None (followed (Chosen name word) (parts_from None words)) ≡ Some parts → Spells (option_word name ∷ word ∷ words) parts
      go true is e = absurd cc
      go false is e = after (Apart name word) parts (λ i. known i && not (is i)) e

  option_spelled : (o : Option (List ℕ × Bool)) (value : Option (List ℕ)) (parts : List Part) → option_in word ≡ o → joined_value word ≡ value
      → option_parts o value (parts_from None words) (λ name. parts_from (Some name) words) ≡ Some parts → Spells (word ∷ words) parts
  option_spelled None value parts named gives e = absurd cc
  option_spelled (Some (name, true)) (Some value) parts named gives e = subst (λ (w : List ℕ). Spells (w ∷ words) parts) (sym whole) (after (Joined name value) parts found.0.named e)
    where
      found : IsSpelled (name, true) × (option_word name ≡ before_first is_equals word)
      found = option_found word (name, true) named

      has : (b : Bool) → list_any is_equals word ≡ b → cond b (Some (after_first is_equals word)) None ≡ Some value → (list_any is_equals word ≡ true) × (after_first is_equals word ≡ value)
      has true is e = (is, cc)
      has false is e = absurd cc

      whole : word ≡ option_word name ++ codes "=" ++ value
      whole =
          let h = has (list_any is_equals word) refl gives in
          split_equals word h.0 ∙ (λ i. sym found.1 i ++ (61 ∷ h.1 i)) ∙ sym (append_assoc (option_word name) (codes "=") value)
  option_spelled (Some (name, true)) None parts named gives e =
      let found = option_found word (name, true) named in
      subst (λ (w : List ℕ). Spells (w ∷ words) parts) (found.1 ∙ no_equals word (lacks (list_any is_equals word) refl gives)) (rest (Some name) parts found.0.named e)
  option_spelled (Some (name, false)) (Some value) parts named gives e = absurd cc
  option_spelled (Some (name, false)) None parts named gives e =
      let found = option_found word (name, false) named in
      subst (λ (w : List ℕ). Spells (w ∷ words) parts) (found.1 ∙ no_equals word (lacks (list_any is_equals word) refl gives)) (after (Flag name) parts found.0.named e)

  -- the parts of a word that isn't '--'
  abbrev others : Bool → Option (List Part)
  others b = cond b (option_parts (option_in word) (joined_value word) (parts_from None words) (λ name. parts_from (Some name) words)) (followed (File word) (parts_from None words))

  part_spelled : (parts : List Part) → parts_from None (word ∷ words) ≡ Some parts → Spells (word ∷ words) parts
  part_spelled parts e = by_end (bytes_eq options_end word) refl e
    where
      by_option : (b : Bool) → is_option word ≡ b → others b ≡ Some parts → Spells (word ∷ words) parts
      by_option true is e = option_spelled (option_in word) (joined_value word) parts refl refl e
      by_option false is e = after (Name word) parts (ap not is) e

      by_end : (b : Bool) → bytes_eq options_end word ≡ b → cond b (Some (map File words)) (others (is_option word)) ≡ Some parts → Spells (word ∷ words) parts
      by_end true is e =
          let end : options_end ≡ word = (bytes_eq-Decides options_end word).0 is in
          let files : map File words ≡ parts = cc in
          record { spellings = []; files = Some words; right = refl; spelled = ap (λ w. w ∷ words) (sym end); said = sym files }
      by_end false is e = by_option (is_option word) refl e

are_spelled : (words : List (List ℕ)) → AreSpelled words
are_spelled [] None parts known e = let none : [] ≡ parts = cc in record { spellings = []; files = None; right = refl; spelled = refl; said = sym none }
are_spelled [] (Some name) parts known e = absurd cc
are_spelled (word ∷ words) None parts known e = part_spelled word words (are_spelled words) parts e
are_spelled (word ∷ words) (Some name) parts known e = value_spelled word words (are_spelled words) name parts known e

pub has_spelled_parts : (words : List (List ℕ)) (parts : List Part) → HasSpelledParts words parts
has_spelled_parts words parts = (are_spelled words None parts tt, spelled_parts words parts)
