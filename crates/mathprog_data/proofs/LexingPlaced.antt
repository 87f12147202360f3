-- The tokens that the lexer sees are those of the pieces, with their places.
use Rattle.mathprog_data.proofs.Common.{◌≡◌, ℕ, ◌+◌, ◌-◌, Bool, true, false, cond, ◌==◌, List, [], ◌∷◌, ◌++◌, length, map, take, refl, sym, ap, ◌∙◌, arith, append_assoc, length-append, map-append, place_after, Lexeme, Sign, Bare, Quoted, Placed, undoubled, Piece, Separator, LineComment, BlockComment, SignToken, BareToken, QuotedToken, spelling, sign_bytes, doubled, placed_at, placed_after, spellings, lexemes_of, lexemes_in, placed_of}
use Rattle.std.specs.Prelude.{slice_range}
use Rattle.std.proofs.Math.Seq.{drop-append_seam}
use Rattle.mathprog_data.specs.declared.lexer.Kind.TheVariants as kinds
use Rattle.mathprog_data.proofs.LexingRunTokens.{span}
use Rattle.mathprog_data.proofs.LexingRunTexts.{spans_of, spans_after}

-- a slice of a text is the part between two others
slice_middle : (front bytes rest : List ℕ) (from to : ℕ) → from ≡ length front → to ≡ length (front ++ bytes) → slice_range (front ++ (bytes ++ rest)) from to ≡ bytes
slice_middle front bytes rest from to starts ends =
    let size : to - from ≡ length bytes = omega (arith, length-append front bytes) in
    rw (size, starts, drop-append_seam front (bytes ++ rest)) (take_front bytes rest)
  where
    take_front : (xs ys : List ℕ) → take (length xs) (xs ++ ys) ≡ xs
    take_front [] ys = refl
    take_front (x ∷ xs) ys = ap (λ t. x ∷ t) (take_front xs ys)

-- a doubled quote stands for one
undoubled_once : (quote byte : ℕ) (rest : List ℕ) → (b : Bool) → (byte == quote) ≡ b
    → undoubled quote false (cond b (byte ∷ byte ∷ []) (byte ∷ []) ++ rest) ≡ byte ∷ undoubled quote false rest
undoubled_once quote byte rest true e = rw e refl
undoubled_once quote byte rest false e = rw e refl

pub undoubled-doubled : (quote : ℕ) (bytes : List ℕ) → undoubled quote false (doubled quote bytes) ≡ bytes
undoubled-doubled quote [] = refl
undoubled-doubled quote (byte ∷ bytes) =
    undoubled_once quote byte (doubled quote bytes) (byte == quote) refl ∙ ap (λ t. byte ∷ t) (undoubled-doubled quote bytes)

-- a token with this lexeme that is spelled so after these bytes
abbrev token : Lexeme → (front bytes : List ℕ) → Placed
token lexeme front bytes = record { lexeme = lexeme; from = length front; to = length front + length bytes; at = place_after front }

placed_span : (front bytes : List ℕ) (lexeme : Lexeme) → ◌≡◌ {A = Placed} (record { lexeme = lexeme; from = length front; to = length (front ++ bytes); at = place_after front }) (token lexeme front bytes)
placed_span front bytes lexeme = ap (λ n. record { lexeme = lexeme; from = length front; to = n; at = place_after front }) (length-append front bytes)

bare_at : (text front bytes rest : List ℕ) → text ≡ front ++ (bytes ++ rest) → placed_of text (span kinds.Bare front bytes) ≡ token (Bare bytes) front bytes
bare_at text front bytes rest parts =
    ap (λ t. record { lexeme = Bare t; from = length front; to = length (front ++ bytes); at = place_after front })
    (ap (λ t. slice_range t (length front) (length (front ++ bytes))) parts ∙ slice_middle front bytes rest (length front) (length (front ++ bytes)) refl refl)
    ∙ placed_span front bytes (Bare bytes)

quoted_at : (text front rest : List ℕ) (quote : ℕ) (bytes : List ℕ) → text ≡ front ++ ((quote ∷ (doubled quote bytes ++ quote ∷ [])) ++ rest)
    → placed_of text (span (kinds.Quoted quote) front (quote ∷ (doubled quote bytes ++ quote ∷ []))) ≡ token (Quoted bytes) front (quote ∷ (doubled quote bytes ++ quote ∷ []))
quoted_at text front rest quote bytes parts =
    let inner = doubled quote bytes in
    let spelled = quote ∷ (inner ++ quote ∷ []) in
    let from = length front in
    let to = length (front ++ spelled) in
    let regrouped : front ++ (spelled ++ rest) ≡ (front ++ quote ∷ []) ++ (inner ++ quote ∷ rest) = simp append_assoc in
    let starts : from + 1 ≡ length (front ++ quote ∷ []) = simp length-append in
    let ends : to - 1 ≡ length ((front ++ quote ∷ []) ++ inner) = simp length-append (omega arith) in
    let sliced : slice_range text (from + 1) (to - 1) ≡ inner =
    ap (λ t. slice_range t (from + 1) (to - 1)) (parts ∙ regrouped) ∙ slice_middle (front ++ quote ∷ []) inner (quote ∷ rest) (from + 1) (to - 1) starts ends in
    ap (λ t. record { lexeme = Quoted (undoubled quote false t); from = from; to = to; at = place_after front }) sliced
    ∙ ap (λ t. record { lexeme = Quoted t; from = from; to = to; at = place_after front }) (undoubled-doubled quote bytes)
    ∙ placed_span front spelled (Quoted bytes)

placed_spans_of : (text : List ℕ) (piece : Piece) (front rest : List ℕ) → text ≡ front ++ (spelling piece ++ rest) → map (placed_of text) (spans_of front piece) ≡ placed_at front piece
placed_spans_of text (Separator byte) front rest parts = refl
placed_spans_of text (LineComment bytes) front rest parts = refl
placed_spans_of text (BlockComment bytes) front rest parts = refl
placed_spans_of text (SignToken sign) front rest parts = ap (λ t. t ∷ []) (placed_span front (sign_bytes sign) (Sign sign))
placed_spans_of text (BareToken bytes) front rest parts = ap (λ t. t ∷ []) (bare_at text front bytes rest parts)
placed_spans_of text (QuotedToken quote bytes) front rest parts = ap (λ t. t ∷ []) (quoted_at text front rest quote bytes parts)

pub placed_spans : (text : List ℕ) (pieces : List Piece) (front rest : List ℕ) → text ≡ front ++ (spellings pieces ++ rest)
    → map (placed_of text) (spans_after front pieces) ≡ placed_after front pieces
placed_spans text [] front rest parts = refl
placed_spans text (piece ∷ pieces) front rest parts =
    let spelled = spelling piece in
    let first : text ≡ front ++ (spelled ++ (spellings pieces ++ rest)) = parts ∙ ap (λ t. front ++ t) (append_assoc spelled (spellings pieces) rest) in
    let beyond : text ≡ (front ++ spelled) ++ (spellings pieces ++ rest) = first ∙ sym (append_assoc front spelled (spellings pieces ++ rest)) in
    map-append (placed_of text) (spans_of front piece) (spans_after (front ++ spelled) pieces)
    ∙ ap (λ t. t ++ map (placed_of text) (spans_after (front ++ spelled) pieces)) (placed_spans_of text piece front (spellings pieces ++ rest) first)
    ∙ ap (λ t. placed_at front piece ++ t) (placed_spans text pieces (front ++ spelled) rest beyond)

-- the lexemes of the tokens are those among the pieces
abbrev pub said : List Placed → List Lexeme
said placed = map (λ token. token.lexeme) placed

said_at : (front : List ℕ) (piece : Piece) → said (placed_at front piece) ≡ lexemes_of piece
said_at front (Separator byte) = refl
said_at front (LineComment bytes) = refl
said_at front (BlockComment bytes) = refl
said_at front (SignToken sign) = refl
said_at front (BareToken bytes) = refl
said_at front (QuotedToken quote bytes) = refl

pub said_after : (front : List ℕ) (pieces : List Piece) → said (placed_after front pieces) ≡ lexemes_in pieces
said_after front [] = refl
said_after front (piece ∷ pieces) =
    map-append (λ token. token.lexeme) (placed_at front piece) (placed_after (front ++ spelling piece) pieces)
    ∙ ap (λ t. t ++ said (placed_after (front ++ spelling piece) pieces)) (said_at front piece)
    ∙ ap (λ t. lexemes_of piece ++ t) (said_after (front ++ spelling piece) pieces)
