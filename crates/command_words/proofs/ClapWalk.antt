-- What clap makes of all words is what their parts say.
use Rattle.command_words.proofs.Common.{◌≡◌, ◌∙◌, List, [], ◌∷◌, ◌++◌, map, Option, Some, None, is_some, Bool, true, false, cond, refl, ap, sym, subst, append_assoc, append-nil, fold, ⊤, AllByRecursion, bytes_eq, IsUtf8, bytes_eq-Decides, Held, Text, Waiting, Walk, idle, option, positional, settled, Kinds, or_else, walk_fault, repeats, repeats_none, value_in, Part, File, Chosen, followed, is_option, options_end, parts_from}
use Rattle.command_words.proofs.ClapTurns.{IsReady, at, due, end_next, end_turn, file_next, file_turn, next, past_end, past_next, past_turn, rules, settling, shape, turn, value_next, value_turn, with_due, with_file, with_use, with_value}
use Rattle.command_words.proofs.ClapOptions.{Fails, IsOption, IsUse, Kind, apart, fails_first, fails_then, kind_of_option, option_fails, parts_by, said, unknown, using, whole}
use Rattle.command_words.proofs.ClapStates.{IsFine, Says, due_fails, fine_file, fine_use, fine_value, first_value, second_value, settle_value}

-- ---- the parts so far with those to come

abbrev pub gathers : List Part → Option (List Part) → Option (List Part)
gathers before None = None
gathers before (Some parts) = cond (repeats_none before parts) (Some (before ++ parts)) None

after_part : (before : List Part) (part : Part) (parts : Option (List Part)) → repeats before part ≡ false → gathers before (followed part parts) ≡ gathers (before ++ part ∷ []) parts
after_part before part None new = refl
after_part before part (Some parts) new = rw new (ap (λ all. cond (repeats_none (before ++ part ∷ []) parts) (Some all) None) (sym (append_assoc before (part ∷ []) parts)))

after_repeat : (before : List Part) (part : Part) (parts : Option (List Part)) → repeats before part ≡ true → gathers before (followed part parts) ≡ None
after_repeat before part None again = refl
after_repeat before part (Some parts) again = rw again refl

-- ---- the walk over the words

abbrev pub end_of : Walk → List Text → Walk
end_of w words = fold next w words

-- the kinds of error from here on
abbrev pub faults : Walk → List Text → Kinds
faults w words = or_else (walk_fault shape [] w words) (settling (end_of w words).held)

-- clap fails where nothing is to be given, and else its rows say what is
abbrev pub Agrees : Walk → List Text → Option (List Part) → Type 0
Agrees w words None = Fails (faults w words)
Agrees w words (Some parts) = (faults w words ≡ []) × Says (settled rules (end_of w words).held).rows parts

or_else_assoc : (a b c : Kinds) → or_else (or_else a b) c ≡ or_else a (or_else b c)
or_else_assoc [] b c = refl
or_else_assoc (k ∷ ks) b c = refl

-- one word, and then the others
step : (w : Walk) (word : Text) (words : List Text) → faults w (word ∷ words) ≡ or_else (turn w word) (faults (next w word) words)
unfolding walk_fault
step w word words = or_else_assoc (turn w word) (walk_fault shape [] (next w word) words) (settling (end_of (next w word) words).held)

last : (w : Walk) → faults w [] ≡ settling w.held
unfolding walk_fault
last w = refl

-- a word that is a fault
fails_now : (w : Walk) (word : Text) (words : List Text) → Fails (turn w word) → Fails (faults w (word ∷ words))
fails_now w word words h = rw (step w word words) (fails_first (turn w word) _ h)

-- a word that is none
goes_on : (w : Walk) (word : Text) (words : List Text) (to : Walk) (out : Option (List Part)) → turn w word ≡ [] → next w word ≡ to → Agrees to words out → Agrees w (word ∷ words) out
goes_on w word words to out turns goes rest = agrees out (subst (λ (x : Walk). Agrees x words out) (sym goes) rest)
  where
    same : faults w (word ∷ words) ≡ faults (next w word) words
    same = step w word words ∙ ap (λ kinds. or_else kinds (faults (next w word) words)) turns

    agrees : (out : Option (List Part)) → Agrees (next w word) words out → Agrees w (word ∷ words) out
    agrees None fails = rw same fails
    agrees (Some parts) fine = (same ∙ fine.0, fine.1)

-- ---- after `--`

past_fails : (words : List Text) (h : Held) (waiting : Waiting) → Fails (settling h) → Fails (faults (past_end h waiting) words)
past_fails [] h waiting fails = rw (last (past_end h waiting)) fails
past_fails (word ∷ words) h waiting fails = fails_now (past_end h waiting) word words (rw (past_turn word h waiting) fails)

past_agrees : (words : List Text) (h : Held) (before : List Part) (waiting : Waiting) → IsFine h before → Agrees (past_end h waiting) words (gathers before (Some (map File words)))
past_agrees [] h before waiting fine =
    subst (λ (parts : List Part). Agrees (past_end h waiting) [] (Some parts)) (sym (append-nil before)) (last (past_end h waiting) ∙ fine.settles, fine.says)
past_agrees (word ∷ words) h before waiting fine =
    subst (λ (out : Option (List Part)). Agrees (past_end h waiting) (word ∷ words) out) (sym (after_part before (File word) (Some (map File words)) refl))
    (goes_on (past_end h waiting) word words (past_end (with_file word h) positional) _ (past_turn word h waiting ∙ fine.settles) (past_next word h waiting)
    (past_agrees words (with_file word h) (before ++ File word ∷ []) positional (fine_file h before fine word)))

-- ---- what is a fault stays one

is_end : (word : Text) → bytes_eq options_end word ≡ true → options_end ≡ word
is_end word e = (bytes_eq-Decides options_end word).0 e

pub stays_failed : (words : List Text) → AllByRecursion IsUtf8 words → (h : Held) (waiting : Waiting) → IsReady waiting → h.skip ≡ 0 → Fails (settling h)
    → Fails (faults (at h waiting) words)
stays_failed [] utf8 h waiting ready skip fails = rw (last (at h waiting)) fails
stays_failed (word ∷ words) utf8 h waiting ready skip fails = by_end (bytes_eq options_end word) refl
  where
    by_option : (b : Bool) → is_option word ≡ b → bytes_eq options_end word ≡ false → Fails (faults (at h waiting) (word ∷ words))
    by_option true e no_end = fails_now (at h waiting) word words (option_fails word h waiting utf8.0 no_end e skip fails)
    by_option false e no_end = fails_now (at h waiting) word words (rw (file_turn word h waiting ready e) fails)

    ends : Fails (faults (at h waiting) (options_end ∷ words))
    ends = goes_on (at h waiting) options_end words (past_end h waiting) None (end_turn h waiting) (end_next h waiting) (past_fails words h waiting fails)

    by_end : (b : Bool) → bytes_eq options_end word ≡ b → Fails (faults (at h waiting) (word ∷ words))
    by_end true e = subst (λ (x : Text). Fails (faults (at h waiting) (x ∷ words))) (is_end word e) ends
    by_end false e = by_option (is_option word) refl e

-- ---- every word

-- where clap stands: between parts, or where the value of an option is due
abbrev pub stands : Option Text → Held → Waiting → Walk
stands None h waiting = at h waiting
stands (Some name) h waiting = due name h

-- an option that is due has a value
abbrev pub IsDue : Option Text → Type 0
IsDue None = ⊤
IsDue (Some name) = IsOption (name, true)

-- from where clap stands, with these parts so far, it agrees with the parts of the words to come
abbrev pub AgreesOn : List Text → Type 0
AgreesOn words = (o : Option Text) (h : Held) (before : List Part) (waiting : Waiting) → IsDue o → IsFine h before → IsReady waiting
    → Agrees (stands o h waiting) words (gathers before (parts_from o words))

module _ (word : Text) (words : List Text) (here : IsUtf8 word) (later : AllByRecursion IsUtf8 words) (rest : AgreesOn words) where
  -- one more part, after which clap stands between parts
  abbrev after : List Part → Part → Option (List Part)
  after before part = gathers before (followed part (parts_from None words))

  goes_to : (w : Walk) (before : List Part) (part : Part) (to : Held) (waiting : Waiting) → repeats before part ≡ false → turn w word ≡ [] → next w word ≡ at to waiting
      → IsReady waiting → IsFine to (before ++ part ∷ []) → Agrees w (word ∷ words) (after before part)
  goes_to w before part to waiting new turns goes ready fine =
      subst (λ (out : Option (List Part)). Agrees w (word ∷ words) out) (sym (after_part before part (parts_from None words) new))
      (goes_on w word words (at to waiting) _ turns goes (rest None to (before ++ part ∷ []) waiting tt fine ready))

  repeated : (w : Walk) (before : List Part) (part : Part) → repeats before part ≡ true → Fails (faults w (word ∷ words)) → Agrees w (word ∷ words) (after before part)
  repeated w before part again fails = subst (λ (out : Option (List Part)). Agrees w (word ∷ words) out) (sym (after_repeat before part (parts_from None words) again)) fails

  -- the value that is due, or none
  value_step : (name : Text) (h : Held) (before : List Part) → IsOption (name, true) → IsFine h before → Agrees (due name h) (word ∷ words) (gathers before (parts_from (Some name) (word ∷ words)))
  value_step name h before known fine = by_option (is_option word) refl
    where
      to : Held
      to = with_value name word h

      waits : Waiting
      waits = option name

      ends : Fails (faults (due name h) (options_end ∷ words))
      ends = goes_on (due name h) options_end words (past_end (with_due name h) waits) None (end_turn (with_due name h) waits) (end_next (with_due name h) waits) (past_fails words (with_due name h) waits (due_fails h name known))

      by_end : (b : Bool) → bytes_eq options_end word ≡ b → is_option word ≡ true → Fails (faults (due name h) (word ∷ words))
      by_end true end e = subst (λ (x : Text). Fails (faults (due name h) (x ∷ words))) (is_end word end) ends
      by_end false end e = fails_now (due name h) word words (option_fails word (with_due name h) waits here end e fine.skip (due_fails h name known))

      value : is_option word ≡ false → (v : Option Text) → value_in name before ≡ v → Agrees (due name h) (word ∷ words) (after before (Chosen name word))
      value e (Some first) given =
          let fails : Fails (settling to) = rw (settle_value h name word known) (second_value (settled rules h).rows before fine.says (name, true) word first known given) in
          repeated (due name h) before (Chosen name word) (ap is_some given)
          (goes_on (due name h) word words (at to idle) None (value_turn name word h e) (value_next name word h known.by_id e) (stays_failed words later to idle tt fine.skip fails))
      value e None none =
          goes_to (due name h) before (Chosen name word) to idle (ap is_some none) (value_turn name word h e) (value_next name word h known.by_id e) tt (fine_value h before name word fine known none)

      by_option : (b : Bool) → is_option word ≡ b → Agrees (due name h) (word ∷ words) (gathers before (parts_from (Some name) (word ∷ words)))
      by_option true e = rw e (by_end (bytes_eq options_end word) refl e)
      by_option false e = rw e (value e (value_in name before) refl)

  -- a part, or the first word of one
  part_step : (h : Held) (before : List Part) (waiting : Waiting) → IsFine h before → IsReady waiting → Agrees (at h waiting) (word ∷ words) (gathers before (parts_from None (word ∷ words)))
  part_step h before waiting fine ready = by_end (bytes_eq options_end word) refl
    where
      from : Walk
      from = at h waiting

      ends : Agrees from (options_end ∷ words) (gathers before (Some (map File words)))
      ends = goes_on from options_end words (past_end h waiting) _ (end_turn h waiting) (end_next h waiting) (past_agrees words h before waiting fine)

      file : is_option word ≡ false → Agrees from (word ∷ words) (after before (File word))
      file e =
          goes_to from before (File word) (with_file word h) positional refl (file_turn word h waiting ready e ∙ fine.settles) (file_next word h waiting ready e) tt (fine_file h before fine word)

      used_now : (o : Text × Bool) (value : Text) → IsUse o value word → (v : Option Text) → value_in o.0 before ≡ v → Agrees from (word ∷ words) (after before (Chosen o.0 (said o.1 value)))
      used_now o value k (Some first) given =
          repeated from before (Chosen o.0 (said o.1 value)) (ap is_some given)
          (fails_now from word words (rw (k.turns h waiting) (fails_then (settling h) _ (second_value (settled rules h).rows before fine.says o value first k.known given))))
      used_now o value k None none =
          let turns : turn from word ≡ [] = k.turns h waiting ∙ ap (λ kinds. or_else kinds (using o value (settled rules h).rows)) fine.settles
          ∙ first_value (settled rules h).rows before fine.says o value k.known none in
          goes_to from before (Chosen o.0 (said o.1 value)) (with_use o value h) idle (ap is_some none) turns (k.goes h waiting) tt (fine_use h before fine o value k.known none)

      AgreesBy : Option (List Part) → Type 0
      AgreesBy parts = Agrees from (word ∷ words) (gathers before parts)

      any_option : Kind word → AgreesBy (parts_by word (parts_from None words) (λ name. parts_from (Some name) words))
      any_option (unknown k) = subst AgreesBy (sym (k.says _ _)) (fails_now from word words (k.fails h waiting fine.skip))
      any_option (whole o value k) = subst AgreesBy (sym (k.says _ _)) (used_now o value k (value_in o.0 before) refl)
      any_option (apart name k) =
          subst AgreesBy (sym (k.says _ _)) (goes_on from word words (due name h) _ (k.turns h waiting ∙ fine.settles) (k.goes h waiting) (rest (Some name) h before waiting k.known fine ready))

      by_option : (b : Bool) → is_option word ≡ b → bytes_eq options_end word ≡ false → AgreesBy (parts_from None (word ∷ words))
      by_option true e end = rw (end, e) (any_option (kind_of_option word here end e))
      by_option false e end = rw (end, e) (file e)

      by_end : (b : Bool) → bytes_eq options_end word ≡ b → AgreesBy (parts_from None (word ∷ words))
      by_end true end = rw end (subst (λ (x : Text). Agrees from (x ∷ words) (gathers before (Some (map File words)))) (is_end word end) ends)
      by_end false end = by_option (is_option word) refl end

pub agrees : (words : List Text) → AllByRecursion IsUtf8 words → AgreesOn words
agrees [] utf8 None h before waiting known fine ready = subst (λ (parts : List Part). Agrees (at h waiting) [] (Some parts)) (sym (append-nil before)) (last (at h waiting) ∙ fine.settles, fine.says)
agrees [] utf8 (Some name) h before waiting known fine ready = rw (last (due name h)) (due_fails h name known)
agrees (word ∷ words) utf8 None h before waiting known fine ready = part_step word words utf8.0 utf8.1 (agrees words utf8.1) h before waiting fine ready
agrees (word ∷ words) utf8 (Some name) h before waiting known fine ready = value_step word words utf8.0 utf8.1 (agrees words utf8.1) name h before known fine
