-- What the lexer sees of quoted symbols, whole or not.
use Rattle.mathprog_data.proofs.Common.{◌≡◌, ℕ, Bool, true, false, not, cond, ◌||◌, ◌==◌, List, [], ◌∷◌, ◌++◌, length, Option, None, Some, refl, sym, ap, subst, ◌∙◌, append-nil, is_some, list_all, list_all-append, append_assoc, Mark, bad_byte, open_string, place_after, is_line_feed, is_quote, is_printable, stops, QuotedToken, IsWhole, doubled, is_one_line, BadInQuotes, OpenQuotes, IsFlaw, flawed, spelling, State, begun, opened, silent, Run, run}
use Rattle.std.proofs.lemmas.Bool.{and_parts, and_from, not-false, not-true, not_from_false, eq-eqb, eqb-true, cond-true, cond-false, false_from_ne_true, both_ways}
use Rattle.mathprog_data.specs.declared.lexer.Kind.TheVariants.{Quoted}
use Rattle.mathprog_data.specs.declared.lexer.pending.Pending.TheVariants as pendings
use Rattle.mathprog_data.proofs.LexingByteLemmas.{at_quote, printable_is_no_line_feed}
use Rattle.mathprog_data.proofs.LexingSteps.{at, since, gap, follow, at_passed, run_ended}
use Rattle.mathprog_data.proofs.LexingRunTokens.{SeesToken, begins}

third : {A : Type 0} (a b : Bool) (x y z : A) → a ≡ false → b ≡ false → cond a x (cond b y z) ≡ z
third a b x y z p q = cond-false a x (cond b y z) p ∙ cond-false b y z q

second : {A : Type 0} (a b : Bool) (x y z : A) → a ≡ false → b ≡ true → cond a x (cond b y z) ≡ y
second a b x y z p q = cond-false a x (cond b y z) p ∙ cond-true b y z q

-- a quote, which may be the closing one
pub run_quote : (quote : ℕ) (front rest : List ℕ) (byte from : ℕ) (start : Mark) (bad : Option Mark) → is_line_feed byte ≡ false → (byte == quote) ≡ true
    → run (at (pendings.Quoted quote) front from start bad) (byte ∷ rest) ≡ run (at (pendings.Quote quote) (front ++ byte ∷ []) from start bad) rest
unfolding run
run_quote quote front rest byte from start bad no_line_feed is_quote =
    ap (follow rest) (second (is_line_feed byte) (byte == quote) _ _ _ no_line_feed is_quote)
    ∙ ap (λ s. run s rest) (at_passed (pendings.Quoted quote) (pendings.Quote quote) front byte from start bad)

-- another quote after it
run_second_quote : (quote : ℕ) (front rest : List ℕ) (byte from : ℕ) (start : Mark) (bad : Option Mark) → (byte == quote) ≡ true
    → run (at (pendings.Quote quote) front from start bad) (byte ∷ rest) ≡ run (at (pendings.Quoted quote) (front ++ byte ∷ []) from start bad) rest
unfolding run
run_second_quote quote front rest byte from start bad is_quote =
    rw is_quote (ap (λ s. run s rest) (at_passed (pendings.Quote quote) (pendings.Quoted quote) front byte from start bad))

abbrev with_bad : Option Mark → State → State
with_bad bad s = record s { bad = bad }

-- any other byte of the line
run_other : (quote : ℕ) (front rest : List ℕ) (byte from : ℕ) (start : Mark) (bad : Option Mark) → is_line_feed byte ≡ false → (byte == quote) ≡ false
    → run (at (pendings.Quoted quote) front from start bad) (byte ∷ rest)
    ≡ run (at (pendings.Quoted quote) (front ++ byte ∷ []) from start (cond (is_some bad || is_printable byte) bad (Some (place_after front)))) rest
unfolding run
run_other quote front rest byte from start bad no_line_feed no_quote =
    ap (follow rest) (third (is_line_feed byte) (byte == quote) _ _ _ no_line_feed no_quote)
    ∙ ap (λ s. run (with_bad (cond (is_some bad || is_printable byte) bad (Some (place_after front))) s) rest)
    (at_passed (pendings.Quoted quote) (pendings.Quoted quote) front byte from start bad)

-- a byte as it stands between quotes
abbrev as_written : ℕ → ℕ → List ℕ
as_written quote byte = cond (byte == quote) (byte ∷ byte ∷ []) (byte ∷ [])

-- the first byte that may not stand between the quotes, after one more byte
abbrev bad_after : ℕ → List ℕ → Option Mark → ℕ → Option Mark
bad_after quote front bad byte = cond (byte == quote) bad (cond (is_some bad || is_printable byte) bad (Some (place_after front)))

run_written : (quote : ℕ) (front rest : List ℕ) (byte from : ℕ) (start : Mark) (bad : Option Mark) → (b : Bool) → (byte == quote) ≡ b → is_line_feed byte ≡ false
    → run (at (pendings.Quoted quote) front from start bad) (cond b (byte ∷ byte ∷ []) (byte ∷ []) ++ rest)
    ≡ run (at (pendings.Quoted quote) (front ++ cond b (byte ∷ byte ∷ []) (byte ∷ [])) from start
    (cond b bad (cond (is_some bad || is_printable byte) bad (Some (place_after front))))) rest
run_written quote front rest byte from start bad true e no_line_feed =
    run_quote quote front (byte ∷ rest) byte from start bad no_line_feed e
    ∙ run_second_quote quote (front ++ byte ∷ []) rest byte from start bad e
    ∙ ap (λ f. run (at (pendings.Quoted quote) f from start bad) rest) (append_assoc front (byte ∷ []) (byte ∷ []))
run_written quote front rest byte from start bad false e no_line_feed = run_other quote front rest byte from start bad no_line_feed e

-- the same after several bytes
abbrev bad_in : ℕ → List ℕ → Option Mark → List ℕ → Option Mark
bad_in quote front bad [] = bad
bad_in quote front bad (byte ∷ bytes) = bad_in quote (front ++ as_written quote byte) (bad_after quote front bad byte) bytes

-- the bytes of a line between quotes
run_inside : (quote : ℕ) (bytes front rest : List ℕ) (from : ℕ) (start : Mark) (bad : Option Mark) → is_one_line bytes ≡ true
    → run (at (pendings.Quoted quote) front from start bad) (doubled quote bytes ++ rest)
    ≡ run (at (pendings.Quoted quote) (front ++ doubled quote bytes) from start (bad_in quote front bad bytes)) rest
run_inside quote [] front rest from start bad one_line = ap (λ f. run (at (pendings.Quoted quote) f from start bad) rest) (sym (append-nil front))
run_inside quote (byte ∷ bytes) front rest from start bad one_line =
    let parts = and_parts (not (is_line_feed byte)) (is_one_line bytes) one_line in
    let written = as_written quote byte in
    ap (run (at (pendings.Quoted quote) front from start bad)) (append_assoc written (doubled quote bytes) rest)
    ∙ run_written quote front (doubled quote bytes ++ rest) byte from start bad (byte == quote) refl (not-true _ parts.0)
    ∙ run_inside quote bytes (front ++ written) rest from start (bad_after quote front bad byte) parts.1
    ∙ ap (λ f. run (at (pendings.Quoted quote) f from start (bad_in quote front bad (byte ∷ bytes))) rest) (append_assoc front written (doubled quote bytes))

-- bytes that may stand there leave nothing to keep
one_line_printable : (bytes : List ℕ) → list_all is_printable bytes ≡ true → is_one_line bytes ≡ true
one_line_printable [] all = refl
one_line_printable (byte ∷ bytes) all =
    let parts = and_parts (is_printable byte) (list_all is_printable bytes) all in
    and_from (not (is_line_feed byte)) (is_one_line bytes) (not_from_false _ (printable_is_no_line_feed byte parts.0)) (one_line_printable bytes parts.1)

none_after : (b c : Bool) (at : Mark) → c ≡ true → cond b None (cond (false || c) None (Some at)) ≡ None
none_after true c at e = refl
none_after false c at e = cond-true c None (Some at) e

none_in : (quote : ℕ) (front bytes : List ℕ) → list_all is_printable bytes ≡ true → bad_in quote front None bytes ≡ None
none_in quote front [] all = refl
none_in quote front (byte ∷ bytes) all =
    let parts = and_parts (is_printable byte) (list_all is_printable bytes) all in
    let written = as_written quote byte in
    ap (λ bad. bad_in quote (front ++ written) bad bytes) (none_after (byte == quote) (is_printable byte) (place_after front) parts.0)
    ∙ none_in quote (front ++ written) bytes parts.1

-- once one is kept, it stays
kept_after : (b c : Bool) (at other : Mark) → cond b (Some at) (cond (true || c) (Some at) (Some other)) ≡ Some at
kept_after true c at other = refl
kept_after false c at other = refl

kept_in : (quote : ℕ) (front bytes : List ℕ) (at : Mark) → bad_in quote front (Some at) bytes ≡ Some at
kept_in quote front [] at = refl
kept_in quote front (byte ∷ bytes) at =
    let written = as_written quote byte in
    ap (λ bad. bad_in quote (front ++ written) bad bytes) (kept_after (byte == quote) (is_printable byte) at (place_after front))
    ∙ kept_in quote (front ++ written) bytes at

-- the first one is kept with its place
first_bad : (quote : ℕ) (front before : List ℕ) (byte : ℕ) (beyond : List ℕ) → list_all is_printable before ≡ true → (byte == quote) ≡ false → is_printable byte ≡ false
    → bad_in quote front None (before ++ byte ∷ beyond) ≡ Some (place_after (front ++ doubled quote before))
first_bad quote front [] byte beyond all no_quote bad =
    let written = as_written quote byte in
    let kept : bad_after quote front None byte ≡ Some (place_after front) = third (byte == quote) (is_printable byte) None None (Some (place_after front)) no_quote bad in
    ap (λ bad. bad_in quote (front ++ written) bad beyond) kept
    ∙ kept_in quote (front ++ written) beyond (place_after front)
    ∙ ap (λ f. Some (place_after f)) (sym (append-nil front))
first_bad quote front (other ∷ before) byte beyond all no_quote bad =
    let parts = and_parts (is_printable other) (list_all is_printable before) all in
    let written = as_written quote other in
    ap (λ bad. bad_in quote (front ++ written) bad (before ++ byte ∷ beyond)) (none_after (other == quote) (is_printable other) (place_after front) parts.0)
    ∙ first_bad quote (front ++ written) before byte beyond parts.1 no_quote bad
    ∙ ap (λ f. Some (place_after f)) (append_assoc front written (doubled quote before))

quote_begins : (front : List ℕ) (quote : ℕ) → is_quote quote ≡ true → opened (gap front) quote ≡ silent (begun (gap front) quote (pendings.Quoted quote))
quote_begins front quote = at_quote (λ q. opened (gap front) q ≡ silent (begun (gap front) q (pendings.Quoted q))) quote refl refl

quote_ends_no_line : (quote : ℕ) → is_quote quote ≡ true → is_line_feed quote ≡ false
quote_ends_no_line quote = at_quote (λ q. is_line_feed q ≡ false) quote refl refl

quote_is_printable : (quote : ℕ) → is_quote quote ≡ true → is_printable quote ≡ true
quote_is_printable quote = at_quote (λ q. is_printable q ≡ true) quote refl refl

-- from the quote up to the end of a line's bytes after it
run_from_quote : (quote : ℕ) (front bytes rest : List ℕ) → is_quote quote ≡ true → is_one_line bytes ≡ true
    → run (gap front) (quote ∷ (doubled quote bytes ++ rest))
    ≡ run (since (pendings.Quoted quote) (front ++ quote ∷ doubled quote bytes) front (bad_in quote (front ++ quote ∷ []) None bytes)) rest
run_from_quote quote front bytes rest quotes one_line =
    begins (pendings.Quoted quote) front (doubled quote bytes ++ rest) quote (quote_begins front quote quotes)
    ∙ run_inside quote bytes (front ++ quote ∷ []) rest (length front) (place_after front) None one_line
    ∙ ap (λ f. run (since (pendings.Quoted quote) f front (bad_in quote (front ++ quote ∷ []) None bytes)) rest) (append_assoc front (quote ∷ []) (doubled quote bytes))

-- up to the closing quote
run_to_quote : (quote : ℕ) (front bytes rest : List ℕ) → is_quote quote ≡ true → is_one_line bytes ≡ true
    → run (gap front) (quote ∷ (doubled quote bytes ++ quote ∷ rest))
    ≡ run (since (pendings.Quote quote) (front ++ quote ∷ (doubled quote bytes ++ quote ∷ [])) front (bad_in quote (front ++ quote ∷ []) None bytes)) rest
run_to_quote quote front bytes rest quotes one_line =
    let bad = bad_in quote (front ++ quote ∷ []) None bytes in
    run_from_quote quote front bytes (quote ∷ rest) quotes one_line
    ∙ run_quote quote (front ++ quote ∷ doubled quote bytes) rest quote (length front) (place_after front) bad (quote_ends_no_line quote quotes) (eq-eqb quote quote refl)
    ∙ ap (λ f. run (since (pendings.Quote quote) f front bad) rest) (append_assoc front (quote ∷ doubled quote bytes) (quote ∷ []))

pub run_quoted : (quote : ℕ) (front bytes rest : List ℕ) → IsWhole (QuotedToken quote bytes) rest
    → SeesToken (Quoted quote) front (spelling (QuotedToken quote bytes)) rest
run_quoted quote front bytes rest whole =
    let spelled = quote ∷ (doubled quote bytes ++ quote ∷ []) in
    ap (λ t. run (gap front) (quote ∷ t)) (append_assoc (doubled quote bytes) (quote ∷ []) rest)
    ∙ run_to_quote quote front bytes rest whole.0 (one_line_printable bytes whole.1)
    ∙ ap (λ bad. run (since (pendings.Quote quote) (front ++ spelled) front bad) rest) (none_in quote (front ++ quote ∷ []) bytes whole.1)
    ∙ run_ended (pendings.Quote quote) (front ++ spelled) (length front) (place_after front) None rest whole.2

-- a fault of this number and place is all that is seen
abbrev pub faulty : ℕ → Mark → Run
faulty number at = record { spans = []; fault = Some (record { no = number; at = at }) }

one_line_with : (before bytes : List ℕ) → is_one_line before ≡ true → is_one_line bytes ≡ true → is_one_line (before ++ bytes) ≡ true
one_line_with before bytes h k = list_all-append (λ byte. not (is_line_feed byte)) before bytes ∙ and_from (is_one_line before) (is_one_line bytes) h k

-- a byte that isn't printable is no quote
not_the_quote : (quote byte : ℕ) → is_quote quote ≡ true → is_printable byte ≡ false → (byte == quote) ≡ false
not_the_quote quote byte quotes bad =
    false_from_ne_true (byte == quote) (λ e. both_ways (is_printable byte) bad (subst (λ b. is_printable b ≡ true) (sym (eqb-true byte quote e)) (quote_is_printable quote quotes)))

pub run_bad_in_quotes : (quote : ℕ) (front before : List ℕ) (byte : ℕ) (beyond rest : List ℕ) → IsFlaw (BadInQuotes quote before byte beyond rest)
    → run (gap front) (flawed (BadInQuotes quote before byte beyond rest)) ≡ faulty bad_byte (place_after (front ++ quote ∷ doubled quote before))
run_bad_in_quotes quote front before byte beyond rest flaw =
    let bytes = before ++ byte ∷ beyond in
    let inside = front ++ quote ∷ (doubled quote bytes ++ quote ∷ []) in
    let place = place_after ((front ++ quote ∷ []) ++ doubled quote before) in
    run_to_quote quote front bytes rest flaw.0 (one_line_with before (byte ∷ beyond) (one_line_printable before flaw.1) flaw.3)
    ∙ ap (λ bad. run (since (pendings.Quote quote) inside front bad) rest)
    (first_bad quote (front ++ quote ∷ []) before byte beyond flaw.1 (not_the_quote quote byte flaw.0 flaw.2) flaw.2)
    ∙ run_ended (pendings.Quote quote) inside (length front) (place_after front) (Some place) rest flaw.4
    ∙ ap (λ f. faulty bad_byte (place_after f)) (append_assoc front (quote ∷ []) (doubled quote before))

open_ends : (quote : ℕ) (front rest : List ℕ) (from : ℕ) (start : Mark) (bad : Option Mark) → stops (λ byte. not (is_line_feed byte)) rest ≡ true
    → run (at (pendings.Quoted quote) front from start bad) rest ≡ faulty open_string start
unfolding run
open_ends quote front [] from start bad stopped = refl
open_ends quote front (byte ∷ rest) from start bad stopped =
    ap (follow rest) (cond-true (is_line_feed byte) _ _ (not-false _ (not-true _ stopped)))

pub run_open_quotes : (quote : ℕ) (front bytes rest : List ℕ) → IsFlaw (OpenQuotes quote bytes rest)
    → run (gap front) (flawed (OpenQuotes quote bytes rest)) ≡ faulty open_string (place_after front)
run_open_quotes quote front bytes rest flaw =
    run_from_quote quote front bytes rest flaw.0 flaw.1
    ∙ open_ends quote (front ++ quote ∷ doubled quote bytes) rest (length front) (place_after front) (bad_in quote (front ++ quote ∷ []) None bytes) flaw.2
