-- What the lexer sees of pieces in turn, and of a flaw.
use Rattle.mathprog_data.proofs.Common.{◌≡◌, ℕ, Bool, true, false, not, cond, ◌&&◌, ◌||◌, ◌==◌, List, [], ◌∷◌, ◌++◌, length, None, refl, sym, ap, ◌∙◌, append-nil, or_parts, not-false, append_assoc, Span, bad_byte, place_after, is_separator, is_sign_byte, is_symbol_byte, is_quote, stops, Piece, Separator, LineComment, BlockComment, SignToken, BareToken, QuotedToken, IsWhole, spelling, sign_bytes, Flaw, StrayByte, BadInQuotes, OpenQuotes, OpenBlock, IsFlaw, flawed, begins_piece, spellings, AreWhole, fault_of, bytes_passed, opened, sign_of, sign_taken, silent, begun, Run, run}
use Rattle.mathprog_data.specs.declared.lexer.Kind.TheVariants.{Sign, Bare, Quoted}
use Rattle.mathprog_data.specs.declared.lexer.pending.Pending.TheVariants as pendings
use Rattle.mathprog_data.proofs.LexingSteps.{gap, follow, run_ended}
use Rattle.mathprog_data.proofs.LexingRunGaps.{run_separator, run_line_comment, run_block_comment, run_open_block}
use Rattle.mathprog_data.proofs.LexingRunTokens.{span, run_sign, run_bare, begins}
use Rattle.mathprog_data.proofs.LexingRunQuotes.{run_quoted, run_bad_in_quotes, run_open_quotes, faulty}

-- a byte that is no sign
record NoSign (byte : ℕ) : Type 0 where
  colon : (byte == 58) ≡ false
  sign : sign_of byte ≡ None

no_sign : (byte : ℕ) → is_sign_byte byte ≡ false → NoSign byte
no_sign byte e =
    let star = or_parts (byte == 59 || byte == 44 || byte == 58 || byte == 91 || byte == 93 || byte == 40 || byte == 41) (byte == 42) e in
    let close_paren = or_parts (byte == 59 || byte == 44 || byte == 58 || byte == 91 || byte == 93 || byte == 40) (byte == 41) star.0 in
    let open_paren = or_parts (byte == 59 || byte == 44 || byte == 58 || byte == 91 || byte == 93) (byte == 40) close_paren.0 in
    let close_bracket = or_parts (byte == 59 || byte == 44 || byte == 58 || byte == 91) (byte == 93) open_paren.0 in
    let open_bracket = or_parts (byte == 59 || byte == 44 || byte == 58) (byte == 91) close_bracket.0 in
    let colon = or_parts (byte == 59 || byte == 44) (byte == 58) open_bracket.0 in
    let comma = or_parts (byte == 59) (byte == 44) colon.0 in
    record {
      colon = colon.1;
      sign = rw (comma.0, comma.1, open_bracket.1, close_bracket.1, open_paren.1, close_paren.1, star.1) refl;
    }

-- nothing begins with the byte, except that it may be a slash without a star after it
record IsStray (byte : ℕ) (rest : List ℕ) : Type 0 where
  separator : is_separator byte ≡ false
  no_sign : NoSign byte
  symbol : is_symbol_byte byte ≡ false
  quote : is_quote byte ≡ false
  hash : (byte == 35) ≡ false
  slash : (byte == 47 && not (stops (λ next. next == 42) rest)) ≡ false

stray_parts : (byte : ℕ) (rest : List ℕ) → begins_piece byte rest ≡ false → IsStray byte rest
stray_parts byte rest e =
    let slash = or_parts (is_separator byte || is_sign_byte byte || is_symbol_byte byte || is_quote byte || byte == 35) (byte == 47 && not (stops (λ next. next == 42) rest)) e in
    let hash = or_parts (is_separator byte || is_sign_byte byte || is_symbol_byte byte || is_quote byte) (byte == 35) slash.0 in
    let quote = or_parts (is_separator byte || is_sign_byte byte || is_symbol_byte byte) (is_quote byte) hash.0 in
    let symbol = or_parts (is_separator byte || is_sign_byte byte) (is_symbol_byte byte) quote.0 in
    let sign = or_parts (is_separator byte) (is_sign_byte byte) symbol.0 in
    record { separator = sign.0; no_sign = no_sign byte sign.1; symbol = symbol.1; quote = quote.1; hash = hash.1; slash = slash.1 }

-- what the byte opens then
stray_opened : (front : List ℕ) (byte : ℕ) (rest : List ℕ) → IsStray byte rest
    → opened (gap front) byte ≡ cond (byte == 47) (silent (begun (gap front) byte pendings.Slash)) (sign_taken (gap front) byte None)
stray_opened front byte rest stray =
    rw (stray.symbol, stray.separator, stray.no_sign.colon, stray.quote, stray.hash, stray.no_sign.sign) refl

run_stray_at : (front : List ℕ) (byte : ℕ) (rest : List ℕ) → IsStray byte rest → (b : Bool) → (byte == 47) ≡ b
    → run (gap front) (byte ∷ rest) ≡ faulty bad_byte (place_after front)
unfolding run
run_stray_at front byte rest stray true e =
    let stopped : stops (λ next. next == 42) rest ≡ true = not-false _ (rw e at stray.slash) in
    begins pendings.Slash front rest byte (stray_opened front byte rest stray ∙ ap (λ b. cond b (silent (begun (gap front) byte pendings.Slash)) (sign_taken (gap front) byte None)) e)
    ∙ run_ended pendings.Slash (front ++ byte ∷ []) (length front) (place_after front) None rest stopped
run_stray_at front byte rest stray false e =
    ap (follow rest) (stray_opened front byte rest stray ∙ ap (λ b. cond b (silent (begun (gap front) byte pendings.Slash)) (sign_taken (gap front) byte None)) e)

-- at a flaw its fault is seen, and nothing after it
pub run_flaw : (front : List ℕ) (flaw : Flaw) → IsFlaw flaw → run (gap front) (flawed flaw) ≡ faulty (fault_of flaw) (place_after (front ++ bytes_passed flaw))
run_flaw front (StrayByte byte rest) is =
    run_stray_at front byte rest (stray_parts byte rest is) (byte == 47) refl ∙ ap (λ f. faulty bad_byte (place_after f)) (sym (append-nil front))
run_flaw front (BadInQuotes quote before byte beyond rest) is = run_bad_in_quotes quote front before byte beyond rest is
run_flaw front (OpenQuotes quote bytes rest) is = run_open_quotes quote front bytes rest is ∙ ap (λ f. faulty _ (place_after f)) (sym (append-nil front))
run_flaw front (OpenBlock bytes) is = run_open_block front bytes is ∙ ap (λ f. faulty _ (place_after f)) (sym (append-nil front))

-- these tokens are seen, and then this
abbrev pub with_spans : List Span → Run → Run
with_spans spans seen = record { spans = spans ++ seen.spans; fault = seen.fault }

-- the token of a piece, if it is one
abbrev pub spans_of : (front : List ℕ) → Piece → List Span
spans_of front (SignToken sign) = span (Sign sign) front (sign_bytes sign) ∷ []
spans_of front (BareToken bytes) = span Bare front bytes ∷ []
spans_of front (QuotedToken quote bytes) = span (Quoted quote) front (spelling (QuotedToken quote bytes)) ∷ []
spans_of front _ = []

-- the tokens of pieces in turn
abbrev pub spans_after : (front : List ℕ) → List Piece → List Span
spans_after front [] = []
spans_after front (piece ∷ pieces) = spans_of front piece ++ spans_after (front ++ spelling piece) pieces

run_piece : (piece : Piece) (front rest : List ℕ) → IsWhole piece rest
    → run (gap front) (spelling piece ++ rest) ≡ with_spans (spans_of front piece) (run (gap (front ++ spelling piece)) rest)
run_piece (Separator byte) front rest whole = run_separator front rest byte whole
run_piece (LineComment bytes) front rest whole = run_line_comment front bytes rest whole.0 whole.1
run_piece (BlockComment bytes) front rest whole =
    ap (λ t. run (gap front) (47 ∷ 42 ∷ t)) (append_assoc bytes (42 ∷ 47 ∷ []) rest) ∙ run_block_comment front bytes rest whole
run_piece (SignToken sign) front rest whole = run_sign sign front rest whole
run_piece (BareToken bytes) front rest whole = run_bare front bytes rest whole
run_piece (QuotedToken quote bytes) front rest whole = run_quoted quote front bytes rest whole

-- of pieces in turn their tokens are seen, and then what comes of the rest
pub run_pieces : (pieces : List Piece) (front rest : List ℕ) → AreWhole pieces rest
    → run (gap front) (spellings pieces ++ rest) ≡ with_spans (spans_after front pieces) (run (gap (front ++ spellings pieces)) rest)
run_pieces [] front rest whole = ap (λ f. run (gap f) rest) (sym (append-nil front))
run_pieces (piece ∷ pieces) front rest whole =
    let spelled = spelling piece in
    let more = run (gap (front ++ spellings (piece ∷ pieces))) rest in
    ap (run (gap front)) (append_assoc spelled (spellings pieces) rest)
    ∙ run_piece piece front (spellings pieces ++ rest) whole.0
    ∙ ap (with_spans (spans_of front piece)) (run_pieces pieces (front ++ spelled) rest whole.1)
    ∙ ap (λ f. with_spans (spans_of front piece) (with_spans (spans_after (front ++ spelled) pieces) (run (gap f) rest))) (append_assoc front spelled (spellings pieces))
    ∙ ap (λ spans. record { spans = spans; fault = more.fault }) (sym (append_assoc (spans_of front piece) (spans_after (front ++ spelled) pieces) more.spans))
