-- Every text is pieces in turn, up to its end or a flaw.
use Rattle.mathprog_data.proofs.Common.{◌≡◌, ℕ, zero, suc, ◌<◌, ◌≤◌, Bool, true, false, not, cond, ◌&&◌, ◌||◌, ◌==◌, ◌⊎◌, inl, inr, List, [], ◌∷◌, ◌++◌, length, refl, sym, ap, subst, ◌∙◌, arith, list_all, or_cases, or_from, and_parts, and_from, not-false, not-true, not_from_false, eqb-true, cases_Bool, cond-true, cond-false, append_assoc, length-append, list_all-append, is_line_feed, is_separator, is_sign_byte, is_symbol_byte, is_quote, is_printable, stops, Piece, Separator, LineComment, BlockComment, SignToken, BareToken, QuotedToken, IsWhole, spelling, doubled, has_comment_end, is_one_line, Flaw, StrayByte, BadInQuotes, OpenQuotes, OpenBlock, IsFlaw, flawed, begins_piece, spellings, AreWhole}
use Rattle.mathprog_data.specs.declared.lexeme.Sign.TheVariants as signs
use Rattle.mathprog_data.proofs.LexingByteLemmas.{at_byte}

-- the longest prefix of bytes that pass a test
record Longest (test : ℕ → Bool) (bytes : List ℕ) : Type 0 where
  front : List ℕ
  rest : List ℕ
  parts : bytes ≡ front ++ rest
  pass : list_all test front ≡ true
  stopped : stops test rest ≡ true

longest_at : (test : ℕ → Bool) (byte : ℕ) (bytes : List ℕ) → (b : Bool) → test byte ≡ b → Longest test bytes → Longest test (byte ∷ bytes)
longest_at test byte bytes true e more = record {
  front = byte ∷ more.front;
  rest = more.rest;
  parts = ap (λ t. byte ∷ t) more.parts;
  pass = and_from (test byte) (list_all test more.front) e more.pass;
  stopped = more.stopped;
}
longest_at test byte bytes false e more = record { front = []; rest = byte ∷ bytes; parts = refl; pass = refl; stopped = not_from_false (test byte) e }

longest : (test : ℕ → Bool) (bytes : List ℕ) → Longest test bytes
longest test [] = record { front = []; rest = []; parts = refl; pass = refl; stopped = refl }
longest test (byte ∷ bytes) = longest_at test byte bytes (test byte) refl (longest test bytes)

-- the first '*/', or none
data CommentEnd (bytes : List ℕ) : Type 0 where
  at_end : (inside rest : List ℕ) → bytes ≡ inside ++ 42 ∷ 47 ∷ rest → has_comment_end (inside ++ 42 ∷ []) ≡ false → CommentEnd bytes
  never : has_comment_end bytes ≡ false → CommentEnd bytes

abbrev ends_here : ℕ → List ℕ → Bool
ends_here byte bytes = byte == 42 && not (stops (λ next. next == 47) bytes)

-- of the front only the first byte matters
same_start : (inside rest : List ℕ) → stops (λ next. next == 47) (inside ++ 42 ∷ rest) ≡ stops (λ next. next == 47) (inside ++ 42 ∷ [])
same_start [] rest = refl
same_start (byte ∷ inside) rest = refl

comment_end_here : (byte : ℕ) (bytes : List ℕ) → ends_here byte bytes ≡ true → CommentEnd (byte ∷ bytes)
comment_end_here byte [] e = let stays : false ≡ true = (and_parts (byte == 42) false e).1 in cc
comment_end_here byte (next ∷ rest) e =
    let parts = and_parts (byte == 42) (not (not (next == 47))) e in
    let slash : next ≡ 47 = eqb-true next 47 (not-false (next == 47) (not-true (not (next == 47)) parts.1)) in
    at_end [] rest (ap (λ b. b ∷ next ∷ rest) (eqb-true byte 42 parts.0) ∙ ap (λ b. 42 ∷ b ∷ rest) slash) refl

comment_end_later : (byte : ℕ) (bytes : List ℕ) → ends_here byte bytes ≡ false → CommentEnd bytes → CommentEnd (byte ∷ bytes)
comment_end_later byte bytes e (at_end inside rest parts none) =
    let not_here : ends_here byte (inside ++ 42 ∷ []) ≡ false =
    ap (λ b. byte == 42 && not b) (sym (same_start inside (47 ∷ rest)) ∙ ap (stops (λ next. next == 47)) (sym parts)) ∙ e in
    at_end (byte ∷ inside) rest (ap (λ t. byte ∷ t) parts) (or_from (ends_here byte (inside ++ 42 ∷ [])) (has_comment_end (inside ++ 42 ∷ [])) not_here none)
comment_end_later byte bytes e (never none) = never (or_from (ends_here byte bytes) (has_comment_end bytes) e none)

comment_end : (bytes : List ℕ) → CommentEnd bytes
comment_end [] = never refl
comment_end (byte ∷ bytes) =
    elim (cases_Bool (ends_here byte bytes)) [ inl e ↦ comment_end_here byte bytes e | inr e ↦ comment_end_later byte bytes e (comment_end bytes) ]

-- up to the closing quote, or to the end of the line
data QuoteEnd (quote : ℕ) (bytes : List ℕ) : Type 0 where
  closed : (named rest : List ℕ) → bytes ≡ doubled quote named ++ quote ∷ rest → is_one_line named ≡ true → stops (λ next. next == quote) rest ≡ true → QuoteEnd quote bytes
  stays_open : (named rest : List ℕ) → bytes ≡ doubled quote named ++ rest → is_one_line named ≡ true → stops (λ next. not (is_line_feed next)) rest ≡ true → QuoteEnd quote bytes

-- one more byte as it is written between quotes
more_written : (quote byte : ℕ) (written bytes : List ℕ) → written ≡ cond (byte == quote) (byte ∷ byte ∷ []) (byte ∷ []) → is_line_feed byte ≡ false
    → QuoteEnd quote bytes → QuoteEnd quote (written ++ bytes)
more_written quote byte written bytes e line (closed named rest parts one_line stopped) =
    closed (byte ∷ named) rest
    (ap (λ t. written ++ t) parts ∙ ap (λ w. w ++ (doubled quote named ++ quote ∷ rest)) e ∙ sym (append_assoc (cond (byte == quote) (byte ∷ byte ∷ []) (byte ∷ [])) (doubled quote named) (quote ∷ rest)))
    (and_from (not (is_line_feed byte)) (is_one_line named) (not_from_false _ line) one_line) stopped
more_written quote byte written bytes e line (stays_open named rest parts one_line stopped) =
    stays_open (byte ∷ named) rest
    (ap (λ t. written ++ t) parts ∙ ap (λ w. w ++ (doubled quote named ++ rest)) e ∙ sym (append_assoc (cond (byte == quote) (byte ∷ byte ∷ []) (byte ∷ [])) (doubled quote named) rest))
    (and_from (not (is_line_feed byte)) (is_one_line named) (not_from_false _ line) one_line) stopped

-- a byte that isn't the quote
other_written : (quote byte : ℕ) (bytes : List ℕ) → (byte == quote) ≡ false → is_line_feed byte ≡ false → QuoteEnd quote bytes → QuoteEnd quote (byte ∷ bytes)
other_written quote byte bytes e line more = more_written quote byte (byte ∷ []) bytes (sym (cond-false (byte == quote) _ _ e)) line more

-- a quote before another
quote_written : (quote byte next : ℕ) (rest : List ℕ) → (byte == quote) ≡ true → (next == quote) ≡ true → is_line_feed byte ≡ false → QuoteEnd quote rest → QuoteEnd quote (byte ∷ next ∷ rest)
quote_written quote byte next rest e f line more =
    let same : next ≡ byte = eqb-true next quote f ∙ sym (eqb-true byte quote e) in
    more_written quote byte (byte ∷ next ∷ []) rest (ap (λ b. byte ∷ b ∷ []) same ∙ sym (cond-true (byte == quote) _ _ e)) line more

-- the closing quote
quote_closes : (quote byte : ℕ) (rest : List ℕ) → (byte == quote) ≡ true → stops (λ next. next == quote) rest ≡ true → QuoteEnd quote (byte ∷ rest)
quote_closes quote byte rest e stopped = closed [] rest (ap (λ b. b ∷ rest) (eqb-true byte quote e)) refl stopped

line_ends : (quote byte : ℕ) (rest : List ℕ) → is_line_feed byte ≡ true → QuoteEnd quote (byte ∷ rest)
line_ends quote byte rest e = stays_open [] (byte ∷ rest) refl refl (rw e refl)

quote_end : (quote : ℕ) (bytes : List ℕ) → QuoteEnd quote bytes
quote_end quote [] = stays_open [] [] refl refl refl
quote_end quote (byte ∷ []) =
    let more = quote_end quote [] in
    elim (cases_Bool (is_line_feed byte)) [
      | inl line ↦ line_ends quote byte [] line
      | inr line ↦ elim (cases_Bool (byte == quote)) [ inl e ↦ quote_closes quote byte [] e refl | inr e ↦ other_written quote byte [] e line more ]
    ]
quote_end quote (byte ∷ next ∷ rest) =
    let more = quote_end quote (next ∷ rest) in
    let later = quote_end quote rest in
    elim (cases_Bool (is_line_feed byte)) [
      | inl line ↦ line_ends quote byte (next ∷ rest) line
      | inr line ↦ elim (cases_Bool (byte == quote)) [
        | inl e ↦ elim (cases_Bool (next == quote)) [
          | inl f ↦ quote_written quote byte next rest e f line later
          | inr f ↦ quote_closes quote byte (next ∷ rest) e (not_from_false _ f)
        ]
        | inr e ↦ other_written quote byte (next ∷ rest) e line more
      ]
    ]

-- bytes that may all stand in a quoted symbol, or the first that may not
data Printable (bytes : List ℕ) : Type 0 where
  all : list_all is_printable bytes ≡ true → Printable bytes
  not_at : (before : List ℕ) (byte : ℕ) (beyond : List ℕ) → bytes ≡ before ++ byte ∷ beyond → list_all is_printable before ≡ true → is_printable byte ≡ false → Printable bytes

printable_with : (byte : ℕ) (bytes : List ℕ) → is_printable byte ≡ true → Printable bytes → Printable (byte ∷ bytes)
printable_with byte bytes e (all pass) = all (and_from (is_printable byte) (list_all is_printable bytes) e pass)
printable_with byte bytes e (not_at before bad beyond parts pass stopped) =
    not_at (byte ∷ before) bad beyond (ap (λ t. byte ∷ t) parts) (and_from (is_printable byte) (list_all is_printable before) e pass) stopped

printable : (bytes : List ℕ) → Printable bytes
printable [] = all refl
printable (byte ∷ bytes) =
    let more = printable bytes in
    elim (cases_Bool (is_printable byte)) [ inl e ↦ printable_with byte bytes e more | inr e ↦ not_at [] byte bytes refl refl e ]

-- the first piece of a text, or a flaw
data First (text : List ℕ) : Type 0 where
  piece : (piece : Piece) (rest : List ℕ) → text ≡ spelling piece ++ rest → IsWhole piece rest → length rest < length text → First text
  flaw : (flaw : Flaw) → text ≡ flawed flaw → IsFlaw flaw → First text

first_separator : (byte : ℕ) (rest : List ℕ) → is_separator byte ≡ true → First (byte ∷ rest)
first_separator byte rest e = piece (Separator byte) rest refl e (omega arith)

first_bare : (byte : ℕ) (rest : List ℕ) → is_symbol_byte byte ≡ true → First (byte ∷ rest)
first_bare byte rest e =
    let run = longest is_symbol_byte rest in
    piece (BareToken (byte ∷ run.front)) run.rest (ap (λ t. byte ∷ t) run.parts) ((λ h. cc), and_from (is_symbol_byte byte) (list_all is_symbol_byte run.front) e run.pass, run.stopped)
    (omega (arith, ap length run.parts, length-append run.front run.rest))

first_line_comment : (rest : List ℕ) → First (35 ∷ rest)
first_line_comment rest =
    let line = longest (λ byte. not (is_line_feed byte)) rest in
    piece (LineComment line.front) line.rest (ap (λ t. 35 ∷ t) line.parts) (line.pass, line.stopped)
    (omega (arith, ap length line.parts, length-append line.front line.rest))

first_block_at : (rest : List ℕ) → CommentEnd rest → First (47 ∷ 42 ∷ rest)
first_block_at rest (at_end inside beyond parts none) =
    piece (BlockComment inside) beyond (ap (λ t. 47 ∷ 42 ∷ t) (parts ∙ sym (append_assoc inside (42 ∷ 47 ∷ []) beyond))) none
    (omega (arith, ap length parts, length-append inside (42 ∷ 47 ∷ beyond)))
first_block_at rest (never none) = flaw (OpenBlock rest) refl none

first_quoted_named : (quote : ℕ) (rest named beyond : List ℕ) → is_quote quote ≡ true → rest ≡ doubled quote named ++ quote ∷ beyond → is_one_line named ≡ true
    → stops (λ next. next == quote) beyond ≡ true → Printable named → First (quote ∷ rest)
first_quoted_named quote rest named beyond quotes parts line stopped (all pass) =
    piece (QuotedToken quote named) beyond (ap (λ t. quote ∷ t) (parts ∙ sym (append_assoc (doubled quote named) (quote ∷ []) beyond))) (quotes, pass, stopped)
    (omega (arith, ap length parts, length-append (doubled quote named) (quote ∷ beyond)))
first_quoted_named quote rest named beyond quotes parts line stopped (not_at before byte after e pass bad) =
    let split = ap is_one_line (sym e) ∙ line in
    let lines = and_parts (is_one_line before) (is_one_line (byte ∷ after)) (sym (list_all-append (λ b. not (is_line_feed b)) before (byte ∷ after)) ∙ split) in
    flaw (BadInQuotes quote before byte after beyond) (ap (λ t. quote ∷ t) (parts ∙ ap (λ n. doubled quote n ++ quote ∷ beyond) e)) (quotes, pass, bad, lines.1, stopped)

first_quoted_at : (quote : ℕ) (rest : List ℕ) → is_quote quote ≡ true → QuoteEnd quote rest → First (quote ∷ rest)
first_quoted_at quote rest quotes (closed named beyond parts line stopped) = first_quoted_named quote rest named beyond quotes parts line stopped (printable named)
first_quoted_at quote rest quotes (stays_open named beyond parts line stopped) = flaw (OpenQuotes quote named beyond) (ap (λ t. quote ∷ t) parts) (quotes, line, stopped)

first_colon : (rest : List ℕ) → First (58 ∷ rest)
first_colon [] = piece (SignToken signs.Colon) [] refl refl (omega arith)
first_colon (next ∷ rest) =
    elim (cases_Bool (next == 61)) [
      | inl e ↦ piece (SignToken signs.Gives) rest (ap (λ b. 58 ∷ b ∷ rest) (eqb-true next 61 e)) tt (omega arith)
      | inr e ↦ piece (SignToken signs.Colon) (next ∷ rest) refl (not_from_false _ e) (omega arith)
    ]

-- what holds of the signs of one byte holds of each
at_sign_byte : (P : ℕ → Type 0) (byte : ℕ) → P 59 → P 44 → P 58 → P 91 → P 93 → P 40 → P 41 → P 42 → is_sign_byte byte ≡ true → P byte
at_sign_byte P byte semicolon comma colon open_bracket close_bracket open_paren close_paren star e =
    elim (or_cases (byte == 59 || byte == 44 || byte == 58 || byte == 91 || byte == 93 || byte == 40 || byte == 41) (byte == 42) e) [
      | inl e ↦ elim (or_cases (byte == 59 || byte == 44 || byte == 58 || byte == 91 || byte == 93 || byte == 40) (byte == 41) e) [
        | inl e ↦ elim (or_cases (byte == 59 || byte == 44 || byte == 58 || byte == 91 || byte == 93) (byte == 40) e) [
          | inl e ↦ elim (or_cases (byte == 59 || byte == 44 || byte == 58 || byte == 91) (byte == 93) e) [
            | inl e ↦ elim (or_cases (byte == 59 || byte == 44 || byte == 58) (byte == 91) e) [
              | inl e ↦ elim (or_cases (byte == 59 || byte == 44) (byte == 58) e) [
                | inl e ↦ elim (or_cases (byte == 59) (byte == 44) e) [
                  | inl e ↦ at_byte P byte 59 semicolon e
                  | inr e ↦ at_byte P byte 44 comma e
                ]
                | inr e ↦ at_byte P byte 58 colon e
              ]
              | inr e ↦ at_byte P byte 91 open_bracket e
            ]
            | inr e ↦ at_byte P byte 93 close_bracket e
          ]
          | inr e ↦ at_byte P byte 40 open_paren e
        ]
        | inr e ↦ at_byte P byte 41 close_paren e
      ]
      | inr e ↦ at_byte P byte 42 star e
    ]

first_sign : (byte : ℕ) (rest : List ℕ) → is_sign_byte byte ≡ true → First (byte ∷ rest)
first_sign byte rest =
    at_sign_byte (λ b. First (b ∷ rest)) byte
    (piece (SignToken signs.Semicolon) rest refl tt (omega arith))
    (piece (SignToken signs.Comma) rest refl tt (omega arith))
    (first_colon rest)
    (piece (SignToken signs.OpenBracket) rest refl tt (omega arith))
    (piece (SignToken signs.CloseBracket) rest refl tt (omega arith))
    (piece (SignToken signs.OpenParen) rest refl tt (omega arith))
    (piece (SignToken signs.CloseParen) rest refl tt (omega arith))
    (piece (SignToken signs.Star) rest refl tt (omega arith))

first_slash : (byte : ℕ) (rest : List ℕ) → (byte == 47 && not (stops (λ next. next == 42) rest)) ≡ true → First (byte ∷ rest)
first_slash byte [] e = let stays : false ≡ true = (and_parts (byte == 47) false e).1 in cc
first_slash byte (next ∷ rest) e =
    let parts = and_parts (byte == 47) (not (not (next == 42))) e in
    let star : next ≡ 42 = eqb-true next 42 (not-false (next == 42) (not-true (not (next == 42)) parts.1)) in
    subst (λ n. First (byte ∷ n ∷ rest)) (sym star)
    (subst (λ n. First (n ∷ 42 ∷ rest)) (sym (eqb-true byte 47 parts.0)) (first_block_at rest (comment_end rest)))

first : (byte : ℕ) (rest : List ℕ) → First (byte ∷ rest)
first byte rest =
    elim (cases_Bool (begins_piece byte rest)) [
      | inl e ↦ elim (or_cases (is_separator byte || is_sign_byte byte || is_symbol_byte byte || is_quote byte || byte == 35) (byte == 47 && not (stops (λ next. next == 42) rest)) e) [
        | inl e ↦ elim (or_cases (is_separator byte || is_sign_byte byte || is_symbol_byte byte || is_quote byte) (byte == 35) e) [
          | inl e ↦ elim (or_cases (is_separator byte || is_sign_byte byte || is_symbol_byte byte) (is_quote byte) e) [
            | inl e ↦ elim (or_cases (is_separator byte || is_sign_byte byte) (is_symbol_byte byte) e) [
              | inl e ↦ elim (or_cases (is_separator byte) (is_sign_byte byte) e) [
                | inl e ↦ first_separator byte rest e
                | inr e ↦ first_sign byte rest e
              ]
              | inr e ↦ first_bare byte rest e
            ]
            | inr e ↦ first_quoted_at byte rest e (quote_end byte rest)
          ]
          | inr e ↦ at_byte (λ b. First (b ∷ rest)) byte 35 (first_line_comment rest) e
        ]
        | inr e ↦ first_slash byte rest e
      ]
      | inr e ↦ flaw (StrayByte byte rest) refl e
    ]

-- the text is pieces in turn, up to its end or a flaw
pub record Parse (text : List ℕ) : Type 0 where
  pub pieces : List Piece
  pub rest : List ℕ
  pub parts : text ≡ spellings pieces ++ rest
  pub whole : AreWhole pieces rest
  pub end : (rest ≡ []) ⊎ ((flaw : Flaw) × IsFlaw flaw × (rest ≡ flawed flaw))

parse_first : (text : List ℕ) → First text → ((rest : List ℕ) → length rest < length text → Parse rest) → Parse text
parse_first text (piece first beyond parts whole shorter) later =
    let more = later beyond shorter in
    record {
      pieces = first ∷ more.pieces;
      rest = more.rest;
      parts = parts ∙ ap (λ t. spelling first ++ t) more.parts ∙ sym (append_assoc (spelling first) (spellings more.pieces) more.rest);
      whole = (subst (IsWhole first) more.parts whole, more.whole);
      end = more.end;
    }
parse_first text (flaw found parts is) later = record { pieces = []; rest = text; parts = refl; whole = tt; end = inr (found, is, parts) }

parse_within : (fuel : ℕ) (text : List ℕ) → length text ≤ fuel → Parse text
parse_within fuel [] h = record { pieces = []; rest = []; parts = refl; whole = tt; end = inl refl }
parse_within zero (byte ∷ text) h = absurd (omega arith)
parse_within (suc fuel) (byte ∷ text) h = parse_first (byte ∷ text) (first byte text) (λ rest shorter. parse_within fuel rest (omega arith))

pub parse : (text : List ℕ) → Parse text
parse text = parse_within (length text) text (omega arith)
