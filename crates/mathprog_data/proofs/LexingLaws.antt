-- The lexer computes the lexing of every text, and there is no other.
use Rattle.mathprog_data.proofs.Common.{◌≡◌, ℕ, Bool, true, false, ◌||◌, inl, inr, List, [], ◌∷◌, ◌++◌, map, Option, None, Some, refl, sym, ap, subst, ◌∙◌, append-nil, cases_Bool, or-false, append_assoc, DataFault, Span, Closing, Free, End, Inside, place_after, Lexeme, Sign, Bare, Quoted, Placed, Piece, Separator, LineComment, BlockComment, SignToken, BareToken, QuotedToken, IsWhole, spelling, flawed, Lexes, LexingEnd, TextEnds, Closes, Fails, Ends, spellings, AreWhole, placed_after, lexemes_of, lexemes_in, has_closing, fault_of, bytes_passed, run, nothing_more, placed_of, closes, closing_after, Lexed, lexed_from, lexed_run, lexed}
use Rattle.mathprog_data.specs.declared.lexeme.Sign.{Sign as TheSign}
use Rattle.mathprog_data.specs.declared.lexeme.Sign.TheVariants as signs
use Rattle.mathprog_data.specs.declared.lexer.Kind.TheVariants as kinds
use Rattle.mathprog_data.proofs.LexingSteps.{gap}
use Rattle.mathprog_data.proofs.LexingRunTokens.{span}
use Rattle.mathprog_data.proofs.LexingRunQuotes.{faulty}
use Rattle.mathprog_data.proofs.LexingRunTexts.{run_flaw, run_pieces, with_spans, spans_after, spans_of}
use Rattle.mathprog_data.proofs.LexingPlaced.{placed_spans, said, said_after}
use Rattle.mathprog_data.proofs.LexingClosing.{closed_in, closing_told, end_of, lexed_open, lexed_closed}
use Rattle.mathprog_data.proofs.LexingParse.{Parse, parse}

-- ---- what is lexed of pieces in turn

-- the tokens among these pieces, by their places in the text
abbrev spans_in : List Piece → List Span
spans_in pieces = spans_after [] pieces

run_text : (text rest : List ℕ) (pieces : List Piece) → text ≡ spellings pieces ++ rest → AreWhole pieces rest
    → run (gap []) text ≡ with_spans (spans_in pieces) (run (gap (spellings pieces)) rest)
run_text text rest pieces parts whole = ap (run (gap [])) parts ∙ run_pieces pieces [] rest whole

lexemes_told : (text rest : List ℕ) (pieces : List Piece) → text ≡ spellings pieces ++ rest
    → closed_in Free (said (map (placed_of text) (spans_in pieces))) ≡ has_closing (lexemes_in pieces)
lexemes_told text rest pieces parts =
    ap (λ placed. closed_in Free (said placed)) (placed_spans text pieces [] rest parts)
    ∙ ap (closed_in Free) (said_after [] pieces)
    ∙ sym (closing_told (lexemes_in pieces))

abbrev as_lexed : List Placed → LexingEnd → Lexed
as_lexed placed end = record { placed = placed; end = end }

-- nothing closes, and the rest of the text gives no token
lexed_open_text : (text rest : List ℕ) (pieces : List Piece) (fault : Option DataFault) → text ≡ spellings pieces ++ rest → AreWhole pieces rest
    → has_closing (lexemes_in pieces) ≡ false → run (gap (spellings pieces)) rest ≡ record { spans = []; fault = fault }
    → lexed text ≡ as_lexed (placed_after [] pieces) (end_of fault)
lexed_open_text text rest pieces fault parts whole never seen =
    ap (lexed_run text Free) (run_text text rest pieces parts whole)
    ∙ ap (λ r. lexed_run text Free (with_spans (spans_in pieces) r)) seen
    ∙ ap (λ spans. lexed_from text Free spans fault) (append-nil (spans_in pieces))
    ∙ lexed_open text Free (spans_in pieces) fault (lexemes_told text rest pieces parts ∙ never)
    ∙ ap (λ placed. as_lexed placed (end_of fault)) (placed_spans text pieces [] rest parts)

abbrev semicolon : List Piece
semicolon = SignToken signs.Semicolon ∷ []

spans_after-append : (front : List ℕ) (before more : List Piece) → spans_after front (before ++ more) ≡ spans_after front before ++ spans_after (front ++ spellings before) more
spans_after-append front [] more = ap (λ f. spans_after f more) (sym (append-nil front))
spans_after-append front (piece ∷ before) more =
    ap (λ t. spans_of front piece ++ t)
    (spans_after-append (front ++ spelling piece) before more
    ∙ ap (λ f. spans_after (front ++ spelling piece) before ++ spans_after f more) (append_assoc front (spelling piece) (spellings before)))
    ∙ sym (append_assoc (spans_of front piece) (spans_after (front ++ spelling piece) before) (spans_after (front ++ (spelling piece ++ spellings before)) more))

spellings-append : (before more : List Piece) → spellings (before ++ more) ≡ spellings before ++ spellings more
spellings-append [] more = refl
spellings-append (piece ∷ before) more =
    ap (λ t. spelling piece ++ t) (spellings-append before more) ∙ sym (append_assoc (spelling piece) (spellings before) (spellings more))

-- a `;` is the first token that closes
lexed_closed_text : (text rest : List ℕ) (before : List Piece) → text ≡ spellings (before ++ semicolon) ++ rest → AreWhole (before ++ semicolon) rest
    → has_closing (lexemes_in before) ≡ false → has_closing (lexemes_in (before ++ semicolon)) ≡ true
    → lexed text ≡ as_lexed (placed_after [] (before ++ semicolon)) Closes
lexed_closed_text text rest before parts whole never closes =
    let pieces = before ++ semicolon in
    let first = spans_in before in
    let last = span (kinds.Sign signs.Semicolon) (spellings before) (59 ∷ []) in
    let seen = run (gap (spellings pieces)) rest in
    let spans : spans_in pieces ≡ first ++ last ∷ [] = spans_after-append [] before semicolon in
    let parts_before : text ≡ spellings before ++ (59 ∷ rest) = parts ∙ ap (λ t. t ++ rest) (spellings-append before semicolon) ∙ append_assoc (spellings before) (59 ∷ []) rest in
    let told_before : closed_in Free (said (map (placed_of text) first)) ≡ false = lexemes_told text (59 ∷ rest) before parts_before ∙ never in
    let told : closed_in Free (said (map (placed_of text) (first ++ last ∷ []))) ≡ true =
    ap (λ t. closed_in Free (said (map (placed_of text) t))) (sym spans) ∙ lexemes_told text rest pieces parts ∙ closes in
    ap (lexed_run text Free) (run_text text rest pieces parts whole)
    ∙ ap (λ t. lexed_from text Free (t ++ seen.spans) seen.fault) spans
    ∙ ap (λ t. lexed_from text Free t seen.fault) (append_assoc first (last ∷ []) seen.spans)
    ∙ lexed_closed text Free first last seen.spans seen.fault told_before told
    ∙ ap (λ t. as_lexed (map (placed_of text) t) Closes) (sym spans)
    ∙ ap (λ placed. as_lexed placed Closes) (placed_spans text pieces [] rest parts)

-- ---- there is no other lexing

at_text_end : (front : List ℕ) → run (gap front) [] ≡ nothing_more
unfolding run
at_text_end front = refl

end_law : (text rest : List ℕ) (pieces : List Piece) (end : LexingEnd) → text ≡ spellings pieces ++ rest → AreWhole pieces rest → Ends pieces rest end
    → lexed text ≡ as_lexed (placed_after [] pieces) end
end_law text rest pieces TextEnds parts whole ends =
    lexed_open_text text rest pieces None parts whole ends.0 (ap (run (gap (spellings pieces))) ends.1 ∙ at_text_end (spellings pieces))
end_law text rest pieces Closes parts whole ends =
    let before = ends.0 in
    ◌∙◌ {b = as_lexed (placed_after [] (before ++ semicolon)) Closes}
    (lexed_closed_text text rest before
    (subst (λ t. text ≡ spellings t ++ rest) ends.1 parts)
    (subst (λ t. AreWhole t rest) ends.1 whole)
    ends.2
    (subst (λ t. has_closing (lexemes_in t) ≡ true) ends.1 ends.3))
    (ap (λ t. as_lexed (placed_after [] t) Closes) (sym ends.1))
end_law text rest pieces (Fails number at) parts whole ends =
    let flaw = ends.0 in
    let seen : run (gap (spellings pieces)) rest ≡ faulty number at =
    ap (run (gap (spellings pieces))) ends.3 ∙ run_flaw (spellings pieces) flaw ends.1
    ∙ ap (λ n. faulty n (place_after (spellings pieces ++ bytes_passed flaw))) (sym ends.4)
    ∙ ap (faulty number) (sym ends.5) in
    lexed_open_text text rest pieces (Some (record { no = number; at = at })) parts whole ends.2 seen

pub lexes_only : (text : List ℕ) (placed : List Placed) (end : LexingEnd) → Lexes text placed end → lexed text ≡ as_lexed placed end
lexes_only text placed end lexes =
    end_law text lexes.rest lexes.pieces end lexes.parts lexes.whole lexes.ends ∙ ap (λ t. as_lexed t end) (sym lexes.tokens)

-- ---- every text has one

AreWhole-front : (before more : List Piece) (rest : List ℕ) → AreWhole (before ++ more) rest → AreWhole before (spellings more ++ rest)
AreWhole-front [] more rest whole = tt
AreWhole-front (piece ∷ before) more rest whole =
    let regrouped : spellings (before ++ more) ++ rest ≡ spellings before ++ (spellings more ++ rest) =
    ap (λ t. t ++ rest) (spellings-append before more) ∙ append_assoc (spellings before) (spellings more) rest in
    (subst (IsWhole piece) regrouped whole.0, AreWhole-front before more rest whole.1)

-- pieces up to the first `;` that closes them, and those after it
record ClosedFrom (closing : Closing) (pieces : List Piece) : Type 0 where
  before : List Piece
  more : List Piece
  parts : pieces ≡ before ++ (SignToken signs.Semicolon ∷ more)
  never : closed_in closing (lexemes_in before) ≡ false
  closes : closed_in closing (lexemes_in (before ++ semicolon)) ≡ true

closing_sign : (closing : Closing) (sign : TheSign) → closes closing (Sign sign) ≡ true → sign ≡ signs.Semicolon
closing_sign Free sign e = cc
closing_sign End signs.Semicolon e = refl
closing_sign End signs.Comma e = cc
closing_sign End signs.Colon e = cc
closing_sign End signs.Gives e = cc
closing_sign End signs.OpenBracket e = cc
closing_sign End signs.CloseBracket e = cc
closing_sign End signs.OpenParen e = cc
closing_sign End signs.CloseParen e = cc
closing_sign End signs.Star e = cc
closing_sign Inside sign e = cc

never_closes_bare : (closing : Closing) (bytes : List ℕ) → closes closing (Bare bytes) ≡ false
never_closes_bare Free bytes = refl
never_closes_bare End bytes = refl
never_closes_bare Inside bytes = refl

never_closes_quoted : (closing : Closing) (bytes : List ℕ) → closes closing (Quoted bytes) ≡ false
never_closes_quoted Free bytes = refl
never_closes_quoted End bytes = refl
never_closes_quoted Inside bytes = refl

-- a piece that is no token says nothing of the closing
with_gap : (closing : Closing) (piece : Piece) (pieces : List Piece) → lexemes_of piece ≡ [] → ClosedFrom closing pieces → ClosedFrom closing (piece ∷ pieces)
with_gap closing piece pieces none later = record {
  before = piece ∷ later.before;
  more = later.more;
  parts = ap (λ t. piece ∷ t) later.parts;
  never = ap (λ t. closed_in closing (t ++ lexemes_in later.before)) none ∙ later.never;
  closes = ap (λ t. closed_in closing (t ++ lexemes_in (later.before ++ semicolon))) none ∙ later.closes;
}

-- a token that doesn't close
with_lexeme : (closing : Closing) (piece : Piece) (lexeme : Lexeme) (pieces : List Piece) → lexemes_of piece ≡ lexeme ∷ [] → closes closing lexeme ≡ false
    → ClosedFrom (closing_after closing lexeme) pieces → ClosedFrom closing (piece ∷ pieces)
with_lexeme closing piece lexeme pieces is open_still later = record {
  before = piece ∷ later.before;
  more = later.more;
  parts = ap (λ t. piece ∷ t) later.parts;
  never = ap (λ t. closed_in closing (t ++ lexemes_in later.before)) is ∙ ap (λ b. b || closed_in (closing_after closing lexeme) (lexemes_in later.before)) open_still ∙ later.never;
  closes =
      ap (λ t. closed_in closing (t ++ lexemes_in (later.before ++ semicolon))) is
      ∙ ap (λ b. b || closed_in (closing_after closing lexeme) (lexemes_in (later.before ++ semicolon))) open_still
      ∙ later.closes;
}

closed_later : (b c : Bool) → (b || c) ≡ true → b ≡ false → c ≡ true
closed_later true c e f = cc
closed_later false c e f = e

closed_from_sign : (closing : Closing) (sign : TheSign) (pieces : List Piece) → (b : Bool) → closes closing (Sign sign) ≡ b
    → (b ≡ false → ClosedFrom (closing_after closing (Sign sign)) pieces) → ClosedFrom closing (SignToken sign ∷ pieces)
closed_from_sign closing sign pieces true e later = record {
  before = [];
  more = pieces;
  parts = ap (λ s. SignToken s ∷ pieces) (closing_sign closing sign e);
  never = refl;
  closes = or-false (closes closing (Sign signs.Semicolon)) ∙ ap (λ s. closes closing (Sign s)) (sym (closing_sign closing sign e)) ∙ e;
}
closed_from_sign closing sign pieces false e later = with_lexeme closing (SignToken sign) (Sign sign) pieces refl e (later refl)

closed_from : (pieces : List Piece) (closing : Closing) → closed_in closing (lexemes_in pieces) ≡ true → ClosedFrom closing pieces
closed_from [] closing e = cc
closed_from (Separator byte ∷ pieces) closing e = with_gap closing (Separator byte) pieces refl (closed_from pieces closing e)
closed_from (LineComment bytes ∷ pieces) closing e = with_gap closing (LineComment bytes) pieces refl (closed_from pieces closing e)
closed_from (BlockComment bytes ∷ pieces) closing e = with_gap closing (BlockComment bytes) pieces refl (closed_from pieces closing e)
closed_from (SignToken sign ∷ pieces) closing e =
    let b = closes closing (Sign sign) in
    closed_from_sign closing sign pieces b refl (λ f. closed_from pieces (closing_after closing (Sign sign)) (closed_later b _ e f))
closed_from (BareToken bytes ∷ pieces) closing e =
    let never = never_closes_bare closing bytes in
    with_lexeme closing (BareToken bytes) (Bare bytes) pieces refl never (closed_from pieces (closing_after closing (Bare bytes)) (closed_later (closes closing (Bare bytes)) _ e never))
closed_from (QuotedToken quote bytes ∷ pieces) closing e =
    let never = never_closes_quoted closing bytes in
    with_lexeme closing (QuotedToken quote bytes) (Quoted bytes) pieces refl never (closed_from pieces (closing_after closing (Quoted bytes)) (closed_later (closes closing (Quoted bytes)) _ e never))

-- some lexing
record SomeLexing (text : List ℕ) : Type 0 where
  placed : List Placed
  end : LexingEnd
  lexes : Lexes text placed end

lexing_closed : (text rest : List ℕ) (pieces : List Piece) → text ≡ spellings pieces ++ rest → AreWhole pieces rest → ClosedFrom Free pieces → SomeLexing text
lexing_closed text rest pieces parts whole closed =
    let before = closed.before in
    let front = before ++ semicolon in
    let regrouped : pieces ≡ front ++ closed.more = closed.parts ∙ sym (append_assoc before semicolon closed.more) in
    let spelled : text ≡ spellings front ++ (spellings closed.more ++ rest) =
    parts ∙ ap (λ t. spellings t ++ rest) regrouped ∙ ap (λ t. t ++ rest) (spellings-append front closed.more) ∙ append_assoc (spellings front) (spellings closed.more) rest in
    record {
      placed = placed_after [] front;
      end = Closes;
      lexes = record {
        pieces = front;
        rest = spellings closed.more ++ rest;
        parts = spelled;
        whole = AreWhole-front front closed.more rest (subst (λ t. AreWhole t rest) regrouped whole);
        tokens = refl;
        ends = (before, refl, closing_told (lexemes_in before) ∙ closed.never, closing_told (lexemes_in front) ∙ closed.closes);
      };
    }

lexing_open : (text : List ℕ) (p : Parse text) → has_closing (lexemes_in p.pieces) ≡ false → SomeLexing text
lexing_open text p never =
    elim p.end [
      | inl ended ↦ record {
        placed = placed_after [] p.pieces;
        end = TextEnds;
        lexes = record { pieces = p.pieces; rest = p.rest; parts = p.parts; whole = p.whole; tokens = refl; ends = (never, ended) };
      }
      | inr flawed ↦ record {
        placed = placed_after [] p.pieces;
        end = Fails (fault_of flawed.0) (place_after (spellings p.pieces ++ bytes_passed flawed.0));
        lexes = record {
          pieces = p.pieces;
          rest = p.rest;
          parts = p.parts;
          whole = p.whole;
          tokens = refl;
          ends = (flawed.0, flawed.1, never, flawed.2, refl, refl);
        };
      }
    ]

some_lexing : (text : List ℕ) → SomeLexing text
some_lexing text =
    let p = parse text in
    elim (cases_Bool (has_closing (lexemes_in p.pieces))) [
      | inl e ↦ lexing_closed text p.rest p.pieces p.parts p.whole (closed_from p.pieces Free (sym (closing_told (lexemes_in p.pieces)) ∙ e))
      | inr e ↦ lexing_open text p e
    ]

-- the lexer computes the lexing of each text
pub lexes_lexed : (text : List ℕ) → Lexes text (lexed text).placed (lexed text).end
lexes_lexed text =
    let found = some_lexing text in
    subst (λ l. Lexes text l.placed l.end) (sym (lexes_only text found.placed found.end found.lexes)) found.lexes

-- two lexings of one text are equal
pub one_lexing : (text : List ℕ) (placed others : List Placed) (end other : LexingEnd) → Lexes text placed end → Lexes text others other → (placed ≡ others) × (end ≡ other)
one_lexing text placed others end other h k =
    let same : as_lexed placed end ≡ as_lexed others other = sym (lexes_only text placed end h) ∙ lexes_only text others other k in
    (ap (λ l. l.placed) same, ap (λ l. l.end) same)
