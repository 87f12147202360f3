-- What clap makes of one word that is an option, at the command that it is given here.
use Rattle.std.proofs.Common.{rules as std_rules, ◌≡◌, ◌∙◌, ◌||◌, ◌==◌, ◌+◌, arith, take, drop, ℕ, suc, List, [], ◌∷◌, map, Option, Some, None, Bool, true, false, cond, refl, ap, sym, true≢false, length, subst, option_map}
use Rattle.command_words.proofs.Common.{codes, find, slice_get, unwrap_or, AllByRecursion, list_any, before_first, after_first, position_or_len, encode_utf8, bytes_eq, chars, encode_utf8_all, IsUtf8, IsUtf8-past_char, encodes-chars, Decides-eqb, name_and_value, Held, Row, Rule, Text, Waiting, Walk, after_flag, after_step, arg_by_id, arg_by_long, idle, long_met, option, positional, settled, walked, Kinds, or_else, flags_fault, long_fault, step_fault, use_fault, is_fault, Part, Chosen, flag_value, followed, is_option, is_equals, option_in, option_parts, option_word, options, joined_value, options_end}
use Rattle.command_words.proofs.WordSpelling.{of_found}
use Rattle.command_words.proofs.ClapTurns.{at, due, next, rule_for, rules, settling, shape, turn, values_for, with_use}

pub or_else_nil : (kinds : Kinds) → or_else kinds [] ≡ kinds
or_else_nil [] = refl
or_else_nil (k ∷ ks) = refl

-- what stands before and after the first '=' of a long option
before_two : (bytes : Text) → before_first is_equals (45 ∷ 45 ∷ bytes) ≡ 45 ∷ 45 ∷ before_first is_equals bytes
before_two bytes =
    let n = position_or_len is_equals bytes in
    let e : 1 + (1 + n) ≡ suc (suc n) = omega arith in
    ap (λ k. take k (45 ∷ 45 ∷ bytes)) e

after_two : (bytes : Text) → after_first is_equals (45 ∷ 45 ∷ bytes) ≡ after_first is_equals bytes
after_two bytes =
    let n = position_or_len is_equals bytes in
    let e : 1 + (1 + n) + 1 ≡ suc (suc (n + 1)) = omega arith in
    ap (λ k. drop k (45 ∷ 45 ∷ bytes)) e

found_more : (os : List (Text × Bool)) (name : Text) (o : Text × Bool) (b : Bool) → arg_by_long (map rule_for os) name ≡ option_map rule_for (find (λ o. bytes_eq (option_word o.0) (45 ∷ 45 ∷ name)) os)
    → cond (b || false) (Some (rule_for o)) (arg_by_long (map rule_for os) name) ≡ option_map rule_for (cond b (Some o) (find (λ o. bytes_eq (option_word o.0) (45 ∷ 45 ∷ name)) os))
found_more os name o true rest = refl
found_more os name o false rest = rest

-- a long option names the same one to clap
long_found : (os : List (Text × Bool)) (name : Text) → arg_by_long (map rule_for os) name ≡ option_map rule_for (find (λ o. bytes_eq (option_word o.0) (45 ∷ 45 ∷ name)) os)
long_found [] name = refl
long_found ((m, true) ∷ os) name = found_more os name (m, true) (bytes_eq m name) (long_found os name)
long_found ((m, false) ∷ os) name = found_more os name (m, false) (bytes_eq m name) (long_found os name)

same_option : (bytes : Text) → arg_by_long rules (before_first is_equals bytes) ≡ option_map rule_for (option_in (45 ∷ 45 ∷ bytes))
same_option bytes =
    long_found options (before_first is_equals bytes)
    ∙ sym (ap (λ word. option_map rule_for (find (λ o. bytes_eq (option_word o.0) word) options)) (before_two bytes))

same_value : (bytes : Text) → (name_and_value bytes).1 ≡ joined_value (45 ∷ 45 ∷ bytes)
same_value bytes = ap (λ value. cond (list_any is_equals bytes) (Some value) None) (sym (after_two bytes))

-- some kind of error comes
abbrev pub Fails : Kinds → Type 0
Fails kinds = is_fault kinds ≡ true

pub fails_first : (kinds more : Kinds) → Fails kinds → Fails (or_else kinds more)
fails_first [] more h = absurd (true≢false (sym h))
fails_first (k ∷ ks) more h = refl

pub fails_then : (kinds more : Kinds) → Fails more → Fails (or_else kinds more)
fails_then [] more h = h
fails_then (k ∷ ks) more h = refl

-- the kinds of a use of an option
abbrev pub using : Text × Bool → Text → List Row → Kinds
using o value rows = use_fault false (rule_for o) (values_for o.1 value) rows

-- ---- the options of the table

-- what clap's rows have of an argument at the end: a flag that wasn't used has the value `false`
abbrev pub ended : Text → List (Text × Bool) → Option (List Text) → Option (List Text)
ended name [] found = found
ended name ((other, true) ∷ os) found = ended name os found
ended name ((other, false) ∷ os) found = ended name os (cond (bytes_eq other name) (Some (unwrap_or found (codes "false" ∷ []))) found)

abbrev pub finish : Bool → Option (List Text) → Option (List Text)
finish true found = found
finish false found = Some (unwrap_or found (codes "false" ∷ []))

-- the option is one of the table: clap finds it by its id, it isn't the files, and no other has its name
pub record IsOption (o : Text × Bool) : Type 0 where
  pub by_id : arg_by_id rules o.0 ≡ Some (rule_for o)
  pub no_file : bytes_eq o.0 (codes "file") ≡ false
  pub file_no : bytes_eq (codes "file") o.0 ≡ false
  pub ends : (found : Option (List Text)) → ended o.0 options found ≡ finish o.1 found

pub are_options : AllByRecursion IsOption options
are_options = search std_rules

-- ---- a word that is an option

-- the parts from such a word on
abbrev pub parts_by : Text → Option (List Part) → (Text → Option (List Part)) → Option (List Part)
parts_by word after from_value = option_parts (option_in word) (joined_value word) after from_value

-- the value that the part has: a flag's is `true`
abbrev pub said : Bool → Text → Text
said true value = value
said false value = flag_value

-- a word that names no option, or a value joined to a flag
pub record IsUnknown (word : Text) : Type 0 where
  pub says : (after : Option (List Part)) (from_value : Text → Option (List Part)) → parts_by word after from_value ≡ None
  pub fails : (h : Held) (waiting : Waiting) → h.skip ≡ 0 → Fails (turn (at h waiting) word)

-- an option with its value, or a flag
pub record IsUse (o : Text × Bool) (value word : Text) : Type 0 where
  pub known : IsOption o
  pub says : (after : Option (List Part)) (from_value : Text → Option (List Part)) → parts_by word after from_value ≡ followed (Chosen o.0 (said o.1 value)) after
  pub turns : (h : Held) (waiting : Waiting) → turn (at h waiting) word ≡ or_else (settling h) (using o value (settled rules h).rows)
  pub goes : (h : Held) (waiting : Waiting) → next (at h waiting) word ≡ at (with_use o value h) idle

-- an option whose value is to come
pub record IsApart (name word : Text) : Type 0 where
  pub known : IsOption (name, true)
  pub says : (after : Option (List Part)) (from_value : Text → Option (List Part)) → parts_by word after from_value ≡ from_value name
  pub turns : (h : Held) (waiting : Waiting) → turn (at h waiting) word ≡ settling h
  pub goes : (h : Held) (waiting : Waiting) → next (at h waiting) word ≡ due name h

pub data Kind (word : Text) : Type 0 where
  unknown : IsUnknown word → Kind word
  whole : (o : Text × Bool) (value : Text) → IsUse o value word → Kind word
  apart : (name : Text) → IsApart name word → Kind word

-- the turn of a long option, by the argument that it names and its value
abbrev long_turn : Option Rule → Option Text → Held → Waiting → Text → Text → Kinds
long_turn rule value h waiting name word =
    or_else (long_fault rules false rule value h)
    (step_fault shape 1 (after_flag rules waiting word (long_met rules rule value h).0 (long_met rules rule value h).1).0 (after_flag rules waiting word (long_met rules rule value h).0 (long_met rules rule value h).1).1)

abbrev long_next : Option Rule → Option Text → Held → Waiting → Text → Walk
long_next rule value h waiting word =
    after_step rules word (at h waiting) (after_flag rules waiting word (long_met rules rule value h).0 (long_met rules rule value h).1).0 (after_flag rules waiting word (long_met rules rule value h).0 (long_met rules rule value h).1).1

module _ (x : ℕ) (xs : Text) where
  abbrev word : Text
  word = 45 ∷ 45 ∷ x ∷ xs

  abbrev name : Text
  name = before_first is_equals (x ∷ xs)

  abbrev given : Option Text
  given = (name_and_value (x ∷ xs)).1

  turn_is : (h : Held) (waiting : Waiting) → turn (at h waiting) word ≡ long_turn (arg_by_long rules name) given h waiting name word
  turn_is h idle = refl
  turn_is h (option id) = refl
  turn_is h positional = refl

  next_is : (h : Held) (waiting : Waiting) → next (at h waiting) word ≡ long_next (arg_by_long rules name) given h waiting word
  unfolding walked
  next_is h idle = refl
  next_is h (option id) = refl
  next_is h positional = refl

  by_turn : (o : Option (Text × Bool)) (value : Option Text) → option_in word ≡ o → joined_value word ≡ value → (h : Held) (waiting : Waiting)
      → turn (at h waiting) word ≡ long_turn (option_map rule_for o) value h waiting name word
  by_turn o value names gives h waiting =
      turn_is h waiting ∙ ap (λ rule. long_turn rule given h waiting name word) (same_option (x ∷ xs) ∙ ap (option_map rule_for) names)
      ∙ ap (λ v. long_turn (option_map rule_for o) v h waiting name word) (same_value (x ∷ xs) ∙ gives)

  by_next : (o : Option (Text × Bool)) (value : Option Text) → option_in word ≡ o → joined_value word ≡ value → (h : Held) (waiting : Waiting)
      → next (at h waiting) word ≡ long_next (option_map rule_for o) value h waiting word
  by_next o value names gives h waiting =
      next_is h waiting ∙ ap (λ rule. long_next rule given h waiting word) (same_option (x ∷ xs) ∙ ap (option_map rule_for) names)
      ∙ ap (λ v. long_next (option_map rule_for o) v h waiting word) (same_value (x ∷ xs) ∙ gives)

  long_kind : Kind word
  long_kind = go (option_in word) (joined_value word) refl refl
    where
      known : (o : Text × Bool) → option_in word ≡ Some o → IsOption o
      known o names = (of_found IsOption (λ o. bytes_eq (option_word o.0) (before_first is_equals word)) options are_options o names).0

      go : (o : Option (Text × Bool)) (value : Option Text) → option_in word ≡ o → joined_value word ≡ value → Kind word
      go None value names gives = unknown (record {
        says = λ after from_value i. option_parts (names i) (gives i) after from_value;
        fails = λ h waiting skip. ap is_fault (by_turn None value names gives h waiting);
      })
      go (Some (o, true)) (Some value) names gives = whole (o, true) value (record {
        known = known (o, true) names;
        says = λ after from_value i. option_parts (names i) (gives i) after from_value;
        turns = λ h waiting. by_turn (Some (o, true)) (Some value) names gives h waiting ∙ or_else_nil _;
        goes = by_next (Some (o, true)) (Some value) names gives;
      })
      go (Some (o, true)) None names gives = apart o (record {
        known = known (o, true) names;
        says = λ after from_value i. option_parts (names i) (gives i) after from_value;
        turns = λ h waiting. by_turn (Some (o, true)) None names gives h waiting ∙ or_else_nil _;
        goes = by_next (Some (o, true)) None names gives;
      })
      go (Some (o, false)) (Some value) names gives = unknown (record {
        says = λ after from_value i. option_parts (names i) (gives i) after from_value;
        fails = λ h waiting skip. ap is_fault (by_turn (Some (o, false)) (Some value) names gives h waiting);
      })
      go (Some (o, false)) None names gives = whole (o, false) flag_value (record {
        known = known (o, false) names;
        says = λ after from_value i. option_parts (names i) (gives i) after from_value;
        turns = λ h waiting. by_turn (Some (o, false)) None names gives h waiting ∙ or_else_nil _;
        goes = by_next (Some (o, false)) None names gives;
      })

-- ---- short options: there is none

first_char : (b : ℕ) (bytes : Text) → IsUtf8 (b ∷ bytes) → (c : ℕ) × (slice_get (chars (b ∷ bytes)) 0 ≡ Some c)
first_char b bytes utf8 = go (chars (b ∷ bytes)) (encodes-chars (b ∷ bytes) utf8)
  where
    go : (cs : List ℕ) → encode_utf8_all cs ≡ b ∷ bytes → (c : ℕ) × (slice_get cs 0 ≡ Some c)
    go [] e = cc
    go (c ∷ cs) e = (c, refl)

after_dash : (bytes : Text) → IsUtf8 (45 ∷ bytes) → IsUtf8 bytes
unfolding encode_utf8
after_dash bytes utf8 = IsUtf8-past_char (45 ∷ bytes) bytes 45 utf8 refl

no_short_option : (flags : Text) (c k : ℕ) (h : Held) → slice_get (chars flags) 0 ≡ Some c → Fails (flags_fault rules false (suc k) flags 0 h)
unfolding flags_fault
no_short_option flags c k h e = rw e refl

module _ (c : ℕ) (xs : Text) (other : (c == 45) ≡ false) where
  abbrev short : Text
  short = 45 ∷ c ∷ xs

  no_dash : (45 == c) ≡ false
  no_dash = go (45 == c) refl
    where
      go : (b : Bool) → (45 == c) ≡ b → b ≡ false
      go true e = let is : 45 ≡ c = (Decides-eqb 45 c).0 e in let dash : (c == 45) ≡ true = (Decides-eqb c 45).1 (sym is) in absurd (true≢false (sym dash ∙ other))
      go false e = refl

  no_name : option_in short ≡ None
  no_name = go (is_equals c) refl
    where
      n : ℕ
      n = position_or_len is_equals xs

      go : (b : Bool) → is_equals c ≡ b → option_in short ≡ None
      go true e = rw e refl
      go false e =
          let two : 1 + (1 + n) ≡ suc (suc n) = omega arith in
          rw e (ap (λ k. find (λ o. bytes_eq (option_word o.0) (take k short)) options) two ∙ rw no_dash refl)

  short_fails : IsUtf8 short → (h : Held) (waiting : Waiting) → h.skip ≡ 0 → Fails (turn (at h waiting) short)
  short_fails utf8 h waiting skip = go waiting
    where
      flags_fail : Fails (flags_fault rules false (length (c ∷ xs)) (c ∷ xs) h.skip (record h { skip = 0 }))
      flags_fail =
          let first = first_char c xs (after_dash (c ∷ xs) utf8) in
          rw skip (no_short_option (c ∷ xs) first.0 (length xs) (record h { skip = 0 }) first.1)

      go : (w : Waiting) → Fails (turn (at h w) short)
      go idle = rw (other, other) (fails_first _ _ flags_fail)
      go (option id) = rw (other, other) (fails_first _ _ flags_fail)
      go positional = rw (other, other) (fails_first _ _ flags_fail)

-- ---- any option

-- a word that is an option and isn't '--' is unknown, is whole, or waits for its value
pub kind_of_option : (word : Text) → IsUtf8 word → bytes_eq options_end word ≡ false → is_option word ≡ true → Kind word
kind_of_option [] utf8 no_end e = absurd (true≢false (sym e))
kind_of_option (b ∷ []) utf8 no_end e = absurd (true≢false (sym e))
kind_of_option (b ∷ c ∷ bytes) utf8 no_end e = subst Kind (sym dash) (go (c == 45) refl)
  where
    is_dash : b ≡ 45
    is_dash = (Decides-eqb b 45).0 e

    dash : b ∷ c ∷ bytes ≡ 45 ∷ c ∷ bytes
    dash = ap (λ x. x ∷ c ∷ bytes) is_dash

    long : (rest : Text) → bytes_eq options_end (45 ∷ 45 ∷ rest) ≡ false → Kind (45 ∷ 45 ∷ rest)
    long [] e = absurd (true≢false e)
    long (x ∷ xs) e = long_kind x xs

    go : (t : Bool) → (c == 45) ≡ t → Kind (45 ∷ c ∷ bytes)
    go true two =
        let second : 45 ∷ c ∷ bytes ≡ 45 ∷ 45 ∷ bytes = ap (λ x. 45 ∷ x ∷ bytes) ((Decides-eqb c 45).0 two) in
        subst Kind (sym second) (long bytes (sym (ap (bytes_eq options_end) (dash ∙ second)) ∙ no_end))
    go false one = unknown (record { says = λ after from_value. ap (λ o. option_parts o (joined_value (45 ∷ c ∷ bytes)) after from_value) (no_name c bytes one); fails = short_fails c bytes one (subst IsUtf8 dash utf8) })

-- it fails where what is held fails
pub option_fails : (word : Text) (h : Held) (waiting : Waiting) → IsUtf8 word → bytes_eq options_end word ≡ false → is_option word ≡ true → h.skip ≡ 0 → Fails (settling h)
    → Fails (turn (at h waiting) word)
option_fails word h waiting utf8 no_end e skip fails = go (kind_of_option word utf8 no_end e)
  where
    go : Kind word → Fails (turn (at h waiting) word)
    go (unknown k) = k.fails h waiting skip
    go (whole o value k) = rw (k.turns h waiting) (fails_first (settling h) _ fails)
    go (apart name k) = rw (k.turns h waiting) fails
