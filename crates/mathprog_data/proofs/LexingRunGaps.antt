-- What the lexer sees of separators and comments: nothing.
use Rattle.mathprog_data.proofs.Common.{◌≡◌, ℕ, Bool, true, false, not, cond, ◌&&◌, ◌||◌, ◌==◌, List, [], ◌∷◌, ◌++◌, length, Option, None, Some, refl, sym, ap, ◌∙◌, list_all, and_parts, or_parts, not-false, not-true, append_assoc, append-nil, Mark, Pending, open_comment, place_after, is_line_feed, is_separator, stops, is_one_line, has_comment_end, run}
use Rattle.mathprog_data.specs.declared.lexer.pending.Pending.TheVariants as pendings
use Rattle.mathprog_data.proofs.LexingByteLemmas.{separator_is_no_symbol}
use Rattle.mathprog_data.proofs.LexingSteps.{at, since, gap, at_passed, at_begun, run_ended, run_gap}

-- a byte with which this goes on
abbrev pub GoesOn : (ℕ → Bool) → Pending → Type 0
GoesOn test pending = (front : List ℕ) (byte : ℕ) (rest : List ℕ) (from : ℕ) (start : Mark) (bad : Option Mark) → test byte ≡ true
    → run (at pending front from start bad) (byte ∷ rest) ≡ run (at pending (front ++ byte ∷ []) from start bad) rest

-- bytes with each of which this goes on
pub through : (test : ℕ → Bool) (pending : Pending) → GoesOn test pending
    → (bytes front rest : List ℕ) (from : ℕ) (start : Mark) (bad : Option Mark) → list_all test bytes ≡ true
    → run (at pending front from start bad) (bytes ++ rest) ≡ run (at pending (front ++ bytes) from start bad) rest
through test pending goes_on [] front rest from start bad all = ap (λ f. run (at pending f from start bad) rest) (sym (append-nil front))
through test pending goes_on (byte ∷ bytes) front rest from start bad all =
    let parts = and_parts (test byte) (list_all test bytes) all in
    goes_on front byte (bytes ++ rest) from start bad parts.0
    ∙ through test pending goes_on bytes (front ++ byte ∷ []) rest from start bad parts.1
    ∙ ap (λ f. run (at pending f from start bad) rest) (append_assoc front (byte ∷ []) bytes)

pub run_separator : (front rest : List ℕ) (byte : ℕ) → is_separator byte ≡ true → run (gap front) (byte ∷ rest) ≡ run (gap (front ++ byte ∷ [])) rest
unfolding run
run_separator front rest byte e =
    rw (separator_is_no_symbol byte e, e) (ap (λ s. run s rest) (at_passed pendings.Gap pendings.Gap front byte 0 (record { line = 1; column = 1 }) None))

comment_goes_on : GoesOn (λ byte. not (is_line_feed byte)) pendings.LineComment
unfolding run
comment_goes_on front byte rest from start bad e =
    rw e (ap (λ s. run s rest) (at_passed pendings.LineComment pendings.LineComment front byte from start bad))

pub run_line_comment : (front bytes rest : List ℕ) → is_one_line bytes ≡ true → stops (λ byte. not (is_line_feed byte)) rest ≡ true
    → run (gap front) (35 ∷ (bytes ++ rest)) ≡ run (gap (front ++ 35 ∷ bytes)) rest
unfolding run
run_line_comment front bytes rest one_line stopped =
    let inside = front ++ 35 ∷ [] in
    ap (λ s. run s (bytes ++ rest)) (at_begun pendings.Gap pendings.LineComment front 35 0 (record { line = 1; column = 1 }) None)
    ∙ through (λ byte. not (is_line_feed byte)) pendings.LineComment comment_goes_on bytes inside rest (length front) (place_after front) None one_line
    ∙ run_ended pendings.LineComment (inside ++ bytes) (length front) (place_after front) None rest stopped
    ∙ ap (λ f. run (gap f) rest) (append_assoc front (35 ∷ []) bytes)

-- what is pending in a comment of several lines, whose last byte is '*' or isn't
abbrev in_block : Bool → Pending
in_block star = cond star pendings.Star pendings.BlockComment

abbrev star_before : Bool → List ℕ → List ℕ
star_before star bytes = cond star (42 ∷ bytes) bytes

abbrev is_star : ℕ → Bool
is_star byte = byte == 42

-- a byte of such a comment that doesn't close it
block_goes_on : (star : Bool) (front : List ℕ) (byte : ℕ) (rest : List ℕ) (from : ℕ) (start : Mark) (bad : Option Mark)
    → (star && (byte == 47)) ≡ false
    → run (at (in_block star) front from start bad) (byte ∷ rest) ≡ run (at (in_block (is_star byte)) (front ++ byte ∷ []) from start bad) rest
unfolding run
block_goes_on false front byte rest from start bad open_still =
    ap (λ s. run s rest) (at_passed pendings.BlockComment (in_block (is_star byte)) front byte from start bad)
block_goes_on true front byte rest from start bad open_still =
    rw open_still (ap (λ s. run s rest) (at_passed pendings.Star (in_block (is_star byte)) front byte from start bad))

none_after_star : (b : Bool) (bytes : List ℕ) → ((b && not (stops (λ next. next == 47) bytes)) || has_comment_end bytes) ≡ false → has_comment_end (star_before b bytes) ≡ false
none_after_star true bytes none = none
none_after_star false bytes none = none

-- no end after the first byte
no_end_after : (star : Bool) (byte : ℕ) (bytes : List ℕ) → has_comment_end (star_before star (byte ∷ bytes)) ≡ false
    → ((star && (byte == 47)) ≡ false) × (has_comment_end (star_before (is_star byte) bytes) ≡ false)
no_end_after false byte bytes none = (refl, none_after_star (is_star byte) bytes none)
no_end_after true byte bytes none =
    let parts = or_parts (not (not (byte == 47))) (has_comment_end (byte ∷ bytes)) none in
    (not-true (byte == 47) (not-false (not (byte == 47)) parts.0), none_after_star (is_star byte) bytes parts.1)

pub through_block : (star : Bool) (bytes front rest : List ℕ) (from : ℕ) (start : Mark) (bad : Option Mark)
    → (beyond : List ℕ) → has_comment_end (star_before star (bytes ++ beyond)) ≡ false
    → (last : Bool) × (run (at (in_block star) front from start bad) (bytes ++ rest) ≡ run (at (in_block last) (front ++ bytes) from start bad) rest)
    × (has_comment_end (star_before last beyond) ≡ false)
through_block star [] front rest from start bad beyond none =
    (star, ap (λ f. run (at (in_block star) f from start bad) rest) (sym (append-nil front)), none)
through_block star (byte ∷ bytes) front rest from start bad beyond none =
    let parts = no_end_after star byte (bytes ++ beyond) none in
    let more = through_block (is_star byte) bytes (front ++ byte ∷ []) rest from start bad beyond parts.1 in (
      more.0,
      block_goes_on star front byte (bytes ++ rest) from start bad parts.0
          ∙ more.1
          ∙ ap (λ f. run (at (in_block more.0) f from start bad) rest) (append_assoc front (byte ∷ []) bytes),
      more.2,
    )

-- the two bytes that close it
no_slash : (star : Bool) → (star && (42 == 47)) ≡ false
no_slash true = refl
no_slash false = refl

block_closes : (star : Bool) (front rest : List ℕ) (from : ℕ) (start : Mark) (bad : Option Mark)
    → run (at (in_block star) front from start bad) (42 ∷ 47 ∷ rest) ≡ run (gap (front ++ 42 ∷ 47 ∷ [])) rest
unfolding run
block_closes star front rest from start bad =
    block_goes_on star front 42 (47 ∷ rest) from start bad (no_slash star)
    ∙ ap (λ s. run s rest) (at_passed pendings.Star pendings.Gap (front ++ 42 ∷ []) 47 from start bad)
    ∙ run_gap ((front ++ 42 ∷ []) ++ 47 ∷ []) rest from start bad
    ∙ ap (λ f. run (gap f) rest) (append_assoc front (42 ∷ []) (47 ∷ []))

-- the two bytes that begin it
block_begins : (front rest : List ℕ)
    → run (gap front) (47 ∷ 42 ∷ rest) ≡ run (since pendings.BlockComment ((front ++ 47 ∷ []) ++ 42 ∷ []) front None) rest
unfolding run
block_begins front rest =
    ap (λ s. run s (42 ∷ rest)) (at_begun pendings.Gap pendings.Slash front 47 0 (record { line = 1; column = 1 }) None)
    ∙ ap (λ s. run s rest) (at_passed pendings.Slash pendings.BlockComment (front ++ 47 ∷ []) 42 (length front) (place_after front) None)

pub run_block_comment : (front bytes rest : List ℕ) → has_comment_end (bytes ++ 42 ∷ []) ≡ false
    → run (gap front) (47 ∷ 42 ∷ (bytes ++ 42 ∷ 47 ∷ rest)) ≡ run (gap (front ++ 47 ∷ 42 ∷ (bytes ++ 42 ∷ 47 ∷ []))) rest
run_block_comment front bytes rest none =
    let inside = (front ++ 47 ∷ []) ++ 42 ∷ [] in
    let passed = through_block false bytes inside (42 ∷ 47 ∷ rest) (length front) (place_after front) None (42 ∷ []) none in
    let regrouped : (inside ++ bytes) ++ 42 ∷ 47 ∷ [] ≡ front ++ 47 ∷ 42 ∷ (bytes ++ 42 ∷ 47 ∷ []) = simp append_assoc in
    block_begins front (bytes ++ 42 ∷ 47 ∷ rest)
    ∙ passed.1
    ∙ block_closes passed.0 (inside ++ bytes) rest (length front) (place_after front) None
    ∙ ap (λ f. run (gap f) rest) regrouped

block_ends : (star : Bool) (front : List ℕ) (from : ℕ) (start : Mark) (bad : Option Mark)
    → run (at (in_block star) front from start bad) [] ≡ record { spans = []; fault = Some (record { no = open_comment; at = start }) }
unfolding run
block_ends true front from start bad = refl
block_ends false front from start bad = refl

pub run_open_block : (front bytes : List ℕ) → has_comment_end bytes ≡ false
    → run (gap front) (47 ∷ 42 ∷ bytes) ≡ record { spans = []; fault = Some (record { no = open_comment; at = place_after front }) }
run_open_block front bytes none =
    let inside = (front ++ 47 ∷ []) ++ 42 ∷ [] in
    let passed = through_block false bytes inside [] (length front) (place_after front) None [] (ap has_comment_end (append-nil bytes) ∙ none) in
    block_begins front bytes
    ∙ ap (run (since pendings.BlockComment inside front None)) (sym (append-nil bytes))
    ∙ passed.1
    ∙ block_ends passed.0 (inside ++ bytes) (length front) (place_after front) None
