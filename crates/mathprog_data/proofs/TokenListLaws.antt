-- What the tokens that the lexer sees say of the text.
use Rattle.mathprog_data.proofs.Common.{◌≡◌, ◌≢◌, ℕ, ◌+◌, ◌<◌, ◌≤◌, inl, inr, List, [], ◌∷◌, ◌++◌, length, map, Ok, Err, Result, refl, sym, ap, subst, ◌∙◌, arith, IfOk, IfErr, MatchResult, append_assoc, length-append, Mark, DataFault, ReadFail, Fault, Memory, place_after, Lexeme, Sign, Bare, Quoted, Placed, Piece, Separator, LineComment, BlockComment, SignToken, BareToken, QuotedToken, IsWhole, spelling, sign_bytes, Lexes, LexingEnd, TextEnds, Closes, Fails, Tokens, spellings, AreWhole, placed_at, placed_after, lexed, slice_of, slice_at, AreSlices, AreApart, IsLexicalFault, IsMemory, IsFaultOrMemory, ListsAll, IsDone}
use Rattle.mathprog_data.specs.declared.lexeme.Sign.{Sign as TheSign}
use Rattle.mathprog_data.specs.declared.lexeme.Sign.TheVariants as signs
use Rattle.mathprog_data.specs.declared.token.Token.{Token}
use Rattle.mathprog_data.proofs.LexingLaws.{lexes_lexed, lexes_only}

-- a lexing that ends without a fault gives the tokens of the text
tokens_at : (text : List ℕ) (placed : List Placed) (end : LexingEnd) → IsDone end → Lexes text placed end → Tokens text placed
tokens_at text placed TextEnds done lexes = inl lexes
tokens_at text placed Closes done lexes = inr lexes
tokens_at text placed (Fails number at) done lexes = absurd done

pub listed : (text : List ℕ) (tokens : List Token) → ListsAll text tokens → (placed : List Placed) × Tokens text placed × AreSlices text tokens placed
listed text tokens all = ((lexed text).placed, tokens_at text (lexed text).placed (lexed text).end all.1 (lexes_lexed text), all.0)

-- each token has bytes
sign_has_bytes : (sign : TheSign) → 0 < length (sign_bytes sign)
sign_has_bytes signs.Semicolon = omega arith
sign_has_bytes signs.Comma = omega arith
sign_has_bytes signs.Colon = omega arith
sign_has_bytes signs.Gives = omega arith
sign_has_bytes signs.OpenBracket = omega arith
sign_has_bytes signs.CloseBracket = omega arith
sign_has_bytes signs.OpenParen = omega arith
sign_has_bytes signs.CloseParen = omega arith
sign_has_bytes signs.Star = omega arith

bare_has_bytes : (bytes : List ℕ) → bytes ≢ [] → 0 < length bytes
bare_has_bytes [] some = absurd (some refl)
bare_has_bytes (byte ∷ bytes) some = omega arith

-- tokens after these bytes stand after them, one after the other
abbrev apart_from : List ℕ → (from size : ℕ) → List Placed → Type 0
apart_from text from size placed = AreApart from size (map (slice_at text) placed)

apart_later : (text : List ℕ) (from further size : ℕ) (placed : List Placed) → from ≤ further → apart_from text further size placed → apart_from text from size placed
apart_later text from further size [] h apart = omega arith
apart_later text from further size (token ∷ placed) h apart = (omega arith, apart.1, apart.2)

module _ (text : List ℕ) (front spelled : List ℕ) (lexeme : Lexeme) (size : ℕ) (placed : List Placed) (some : 0 < length spelled) (later : apart_from text (length (front ++ spelled)) size placed) where
  apart_token : apart_from text (length front) size (record { lexeme = lexeme; from = length front; to = length front + length spelled; at = place_after front } ∷ placed)
  apart_token = (omega arith, omega arith, subst (λ n. apart_from text n size placed) (length-append front spelled) later)

apart_piece : (text : List ℕ) (piece : Piece) (front rest : List ℕ) (size : ℕ) (placed : List Placed) → IsWhole piece rest
    → apart_from text (length (front ++ spelling piece)) size placed → apart_from text (length front) size (placed_at front piece ++ placed)
apart_piece text (Separator byte) front rest size placed whole later = apart_later text _ _ size placed (omega (arith, length-append front (byte ∷ []))) later
apart_piece text (LineComment bytes) front rest size placed whole later = apart_later text _ _ size placed (omega (arith, length-append front (spelling (LineComment bytes)))) later
apart_piece text (BlockComment bytes) front rest size placed whole later = apart_later text _ _ size placed (omega (arith, length-append front (spelling (BlockComment bytes)))) later
apart_piece text (SignToken sign) front rest size placed whole later = apart_token text front (sign_bytes sign) (Sign sign) size placed (sign_has_bytes sign) later
apart_piece text (BareToken bytes) front rest size placed whole later = apart_token text front bytes (Bare bytes) size placed (bare_has_bytes bytes whole.0) later
apart_piece text (QuotedToken quote bytes) front rest size placed whole later =
    apart_token text front (spelling (QuotedToken quote bytes)) (Quoted bytes) size placed (omega arith) later

apart_pieces : (text : List ℕ) (pieces : List Piece) (front rest : List ℕ) (size : ℕ) → AreWhole pieces rest → length (front ++ spellings pieces) ≤ size
    → apart_from text (length front) size (placed_after front pieces)
apart_pieces text [] front rest size whole within = omega (arith, length-append front [])
apart_pieces text (piece ∷ pieces) front rest size whole within =
    let regrouped = ap length (append_assoc front (spelling piece) (spellings pieces)) in
    let still_within : length ((front ++ spelling piece) ++ spellings pieces) ≤ size = omega arith in
    apart_piece text piece front (spellings pieces ++ rest) size (placed_after (front ++ spelling piece) pieces) whole.0
    (apart_pieces text pieces (front ++ spelling piece) rest size whole.1 still_within)

apart_lexes : (text : List ℕ) (placed : List Placed) (end : LexingEnd) → Lexes text placed end → apart_from text 0 (length text) placed
apart_lexes text placed end lexes =
    subst (apart_from text 0 (length text)) (sym lexes.tokens)
    (apart_pieces text lexes.pieces [] lexes.rest (length text) lexes.whole (omega (arith, ap length lexes.parts, length-append (spellings lexes.pieces) lexes.rest)))

pub apart : (text : List ℕ) (tokens : List Token) → ListsAll text tokens → AreApart 0 (length text) (map slice_of tokens)
apart text tokens all = subst (AreApart 0 (length text)) (sym all.0) (apart_lexes text (lexed text).placed (lexed text).end (lexes_lexed text))

-- ---- the answers of `tokens`

abbrev Answer : Type 0 → Type 0
Answer T = Result T ReadFail

pub first_fault : {T : Type 0} (text : List ℕ) (r : Answer T) → ((fault : DataFault) → r ≡ Err (Fault fault) → (lexed text).end ≡ Fails fault.no fault.at) → IfErr r (IsLexicalFault text)
first_fault text (Ok found) h = tt
first_fault text (Err (Fault fault)) h = ((lexed text).placed, subst (Lexes text (lexed text).placed) (h fault refl) (lexes_lexed text))
first_fault text (Err Memory) h = tt

no_fault_in : (text : List ℕ) (placed : List Placed) (number : ℕ) (at : Mark) → Tokens text placed → (lexed text).end ≡ Fails number at → ⊥
no_fault_in text placed number at (inl lexes) e = let other : TextEnds ≡ Fails number at = sym (ap (λ l. l.end) (lexes_only text placed TextEnds lexes)) ∙ e in cc
no_fault_in text placed number at (inr lexes) e = let other : Closes ≡ Fails number at = sym (ap (λ l. l.end) (lexes_only text placed Closes lexes)) ∙ e in cc

pub refuses_no_tokens : {T : Type 0} (text : List ℕ) (r : Answer T) → ((fault : DataFault) → r ≡ Err (Fault fault) → (lexed text).end ≡ Fails fault.no fault.at)
    → (placed : List Placed) → Tokens text placed → IfErr r IsMemory
refuses_no_tokens text (Ok found) h placed tokens = tt
refuses_no_tokens text (Err (Fault fault)) h placed tokens = no_fault_in text placed fault.no fault.at tokens (h fault refl)
refuses_no_tokens text (Err Memory) h placed tokens = tt

pub refuses_each_fault : {T : Type 0} (text : List ℕ) (r : Answer T) → IfOk r (λ _. IsDone (lexed text).end)
    → ((fault : DataFault) → r ≡ Err (Fault fault) → (lexed text).end ≡ Fails fault.no fault.at)
    → (placed : List Placed) (number : ℕ) (at : Mark) → Lexes text placed (Fails number at) → MatchResult r (λ _. ⊥) (IsFaultOrMemory number at)
refuses_each_fault text (Ok found) done h placed number at lexes = subst IsDone (ap (λ l. l.end) (lexes_only text placed (Fails number at) lexes)) done
refuses_each_fault text (Err (Fault fault)) done h placed number at lexes =
    let e : Fails fault.no fault.at ≡ Fails number at = sym (h fault refl) ∙ ap (λ l. l.end) (lexes_only text placed (Fails number at) lexes) in
    let numbers : fault.no ≡ number = cc in
    let places : fault.at ≡ at = cc in
    ap (λ n. record { no = n; at = fault.at }) numbers ∙ ap (λ m. record { no = number; at = m }) places
refuses_each_fault text (Err Memory) done h placed number at lexes = tt
