-- What clap makes of one word, at the command that it is given here: computed with what is held kept abstract.
use Rattle.command_words.proofs.Common.{◌≡◌, ◌&&◌, ◌==◌, ℕ, List, [], ◌∷◌, map, Option, Some, None, Bool, true, false, cond, refl, ap, ◌∙◌, codes, ⊤, bytes_eq, long_of, short_of, Shape, built, Kinds, settle_fault, turn_fault, app, file_rule, flag_rule, option_rule, flag_value, is_option, options, bytes_eq-Decides}
use Rattle.clap.specs.Walk.{Held, Rule, Text, Waiting, Walk, arg_by_id, idle, option, option_word, positional, pushed, reacted, settled, walked}
use Rattle.clap.specs.declared.builder.value_parser.ValueParser.TheVariants as vp

-- what building makes of an argument with values: one a use
abbrev filled_with : Rule → Option ℕ → Rule
filled_with rule index = record rule { index = index; parser = Some vp.String; range = Some (record { start_inclusive = 1; end_inclusive = 1 }) }

abbrev pub file : Rule
file = filled_with file_rule (Some 1)

-- and of an option. A flag stands for `true` where it is used, and for `false` where it isn't
abbrev pub rule_for : Text × Bool → Rule
rule_for (name, true) = filled_with (option_rule name) None
rule_for (name, false) = record (flag_rule name) {
  parser = Some vp.Bool;
  range = Some (record { start_inclusive = 0; end_inclusive = 0 });
  defaults = codes "false" ∷ [];
  missing = flag_value ∷ [];
}

abbrev pub rules : List Rule
rules = file ∷ map rule_for options

abbrev pub shape : Shape
shape = record (built app).top { rules = rules }

abbrev pub at : Held → Waiting → Walk
at h waiting = record { held = h; waiting = waiting; position = 1; is_trailing = false; stopped = None }

-- the same after `--`
abbrev pub past_end : Held → Waiting → Walk
past_end h waiting = record { held = h; waiting = waiting; position = 1; is_trailing = true; stopped = None }

abbrev pub turn : Walk → Text → Kinds
turn = turn_fault shape []

abbrev pub next : Walk → Text → Walk
next = walked rules []

abbrev pub settling : Held → Kinds
settling = settle_fault rules false

-- held after a file
abbrev pub with_file : Text → Held → Held
with_file name h = record (settled rules h) { pending = Some (codes "file", name ∷ []) }

-- held while the value of an option is due
abbrev pub with_due : Text → Held → Held
with_due name h = record (settled rules h) { pending = Some (name, []) }

-- held once it is there
abbrev pub with_value : Text → Text → Held → Held
with_value name value h = record (settled rules h) { pending = Some (name, value ∷ []) }

-- the values of a use of an option that has one, or of a flag
abbrev pub values_for : Bool → Text → List Text
values_for true value = value ∷ []
values_for false value = []

-- held after an option with its value joined to it, or a flag
abbrev pub with_use : Text × Bool → Text → Held → Held
with_use o value h = reacted rules (rule_for o) (values_for o.1 value) h

and_false : (b : Bool) → (b && false) ≡ false
and_false true = refl
and_false false = refl

-- ---- `--`

pub end_turn : (h : Held) (waiting : Waiting) → turn (at h waiting) (codes "--") ≡ []
end_turn h idle = refl
end_turn h (option id) = refl
end_turn h positional = refl

pub end_next : (h : Held) (waiting : Waiting) → next (at h waiting) (codes "--") ≡ past_end h waiting
unfolding walked
end_next h idle = refl
end_next h (option id) = refl
end_next h positional = refl

-- ---- a word that is no option

-- neither '--', nor a long option, nor short ones
pub record IsPlain (word : Text) : Type 0 where
  pub no_end : bytes_eq word (codes "--") ≡ false
  pub no_long : long_of word ≡ None
  pub no_short : short_of word ≡ None

is_plain : (word : Text) → is_option word ≡ false → IsPlain word
is_plain [] e = record { no_end = refl; no_long = refl; no_short = refl }
is_plain (b ∷ []) e = go (b == 45) refl
  where
    go : (t : Bool) → (b == 45) ≡ t → IsPlain (b ∷ [])
    go true e = record { no_end = rw e refl; no_long = rw e refl; no_short = rw e refl }
    go false e = record { no_end = rw e refl; no_long = rw e refl; no_short = rw e refl }
is_plain (b ∷ c ∷ bytes) e = record { no_end = rw e refl; no_long = rw e refl; no_short = rw e refl }

-- no value is due
abbrev pub IsReady : Waiting → Type 0
IsReady idle = ⊤
IsReady (option id) = ⊥
IsReady positional = ⊤

pub file_turn : (word : Text) (h : Held) (waiting : Waiting) → IsReady waiting → is_option word ≡ false → turn (at h waiting) word ≡ settling h
file_turn word h idle ready e = let p = is_plain word e in rw (p.no_end, p.no_long, p.no_short) (ap (λ b. cond b [] (settling h)) (and_false _))
file_turn word h (option id) ready e = absurd ready
file_turn word h positional ready e = let p = is_plain word e in rw (p.no_end, p.no_long, p.no_short) (ap (λ b. cond b [] (settling h)) (and_false _))

-- held after a file, whether or not the one before it was a file
abbrev file_pushed : Text → Held → Bool → Held
file_pushed word h b = pushed (codes "file") word (cond b h (settled rules h))

pub file_next : (word : Text) (h : Held) (waiting : Waiting) → IsReady waiting → is_option word ≡ false → next (at h waiting) word ≡ at (with_file word h) positional
unfolding walked
file_next word h idle ready e = let p = is_plain word e in rw (p.no_end, p.no_long, p.no_short) (ap (λ b. at (file_pushed word h b) positional) (and_false _))
file_next word h (option id) ready e = absurd ready
file_next word h positional ready e = let p = is_plain word e in rw (p.no_end, p.no_long, p.no_short) (ap (λ b. at (file_pushed word h b) positional) (and_false _))

-- after `--` each word is a file
pub past_turn : (word : Text) (h : Held) (waiting : Waiting) → turn (past_end h waiting) word ≡ settling h
past_turn word h waiting = ap (λ b. cond b [] (settling h)) (and_false _)

pub past_next : (word : Text) (h : Held) (waiting : Waiting) → next (past_end h waiting) word ≡ past_end (with_file word h) positional
unfolding walked
past_next word h waiting = ap (λ b. past_end (file_pushed word h b) positional) (and_false _)

-- the value that is due
abbrev pub due : Text → Held → Walk
due name h = at (with_due name h) (option name)

pub value_turn : (name word : Text) (h : Held) → is_option word ≡ false → turn (due name h) word ≡ []
value_turn name word h e = let p = is_plain word e in rw (p.no_end, p.no_long, p.no_short) refl

pub value_next : (name word : Text) (h : Held) → arg_by_id rules name ≡ Some (rule_for (name, true)) → is_option word ≡ false → next (due name h) word ≡ at (with_value name word h) idle
unfolding walked
value_next name word h by_id e =
    let p = is_plain word e in
    let same : bytes_eq name name ≡ true = (bytes_eq-Decides name name).1 refl in
    let found = ap (λ o. at (option_word o name word (with_due name h)).0 (option_word o name word (with_due name h)).1) by_id in
    rw (p.no_end, p.no_long, p.no_short) (found ∙ rw same refl)
