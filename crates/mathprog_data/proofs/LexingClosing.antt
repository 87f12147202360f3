-- The closing `end ;`, told token by token, is the one of the whole list.
use Rattle.mathprog_data.proofs.Common.{◌≡◌, ℕ, Bool, true, false, cond, ◌||◌, List, [], ◌∷◌, ◌++◌, map, Option, None, Some, refl, sym, ap, ◌∙◌, or_parts, cond-true, cond-false, or-false, DataFault, Span, Closing, Free, End, Inside, Lexeme, Sign, Bare, Quoted, is_semicolon, is_end, closes_after, has_closing, LexingEnd, TextEnds, Closes, Fails, closes, closing_after, placed_of, lexed_from, with_token}
use Rattle.mathprog_data.specs.declared.lexeme.Sign.TheVariants.{Semicolon}
use Rattle.mathprog_data.proofs.LexingPlaced.{said}

-- some token closes the text, told token by token
abbrev pub closed_in : Closing → List Lexeme → Bool
closed_in closing [] = false
closed_in closing (lexeme ∷ lexemes) = closes closing lexeme || closed_in (closing_after closing lexeme) lexemes

-- a `;` is no `end`
semicolon_is_no_end : (lexeme : Lexeme) → is_semicolon lexeme ≡ true → is_end lexeme ≡ false
semicolon_is_no_end (Sign s) e = refl
semicolon_is_no_end (Bare bytes) e = cc
semicolon_is_no_end (Quoted bytes) e = refl

-- what is known after a `;`, after another token, and after a `;` and `end`, is all that the rest depends on
record Known (lexemes : List Lexeme) : Type 0 where
  free : (semicolon : Lexeme) → is_semicolon semicolon ≡ true → closes_after (semicolon ∷ lexemes) ≡ closed_in Free lexemes
  inside : (other : Lexeme) → is_semicolon other ≡ false → closes_after (other ∷ lexemes) ≡ closed_in Inside lexemes
  at_end : (semicolon end : Lexeme) → is_semicolon semicolon ≡ true → is_end end ≡ true → is_semicolon end ≡ false
      → closes_after (semicolon ∷ end ∷ lexemes) ≡ closed_in End lexemes

inside_more : (other lexeme : Lexeme) (more : List Lexeme) → Known more → is_semicolon other ≡ false → (b : Bool) → is_semicolon lexeme ≡ b
    → closes_after (other ∷ lexeme ∷ more) ≡ closed_in (cond b Free Inside) more
inside_more other lexeme [] k e b f = refl
inside_more other lexeme (next ∷ rest) k e true f = rw e (k.free lexeme f)
inside_more other lexeme (next ∷ rest) k e false f = rw e (k.inside lexeme f)

free_more : (semicolon lexeme : Lexeme) (more : List Lexeme) → Known more → is_semicolon semicolon ≡ true
    → (b c : Bool) → is_semicolon lexeme ≡ b → is_end lexeme ≡ c
    → closes_after (semicolon ∷ lexeme ∷ more) ≡ closed_in (cond b Free (cond c End Inside)) more
free_more semicolon lexeme [] k e b c f g = refl
free_more semicolon lexeme (next ∷ rest) k e true c f g = rw (e, semicolon_is_no_end lexeme f) (k.free lexeme f)
free_more semicolon lexeme (next ∷ rest) k e false true f g = k.at_end semicolon lexeme e g f
free_more semicolon lexeme (next ∷ rest) k e false false f g = rw (e, g) (k.inside lexeme f)

known : (lexemes : List Lexeme) → Known lexemes
known [] = record { free = λ s e. refl; inside = λ x e. refl; at_end = λ s x e f g. refl }
known (lexeme ∷ more) =
    let k = known more in
    record {
      free = λ s e. free_more s lexeme more k e (is_semicolon lexeme) (is_end lexeme) refl refl;
      inside = λ x e. inside_more x lexeme more k e (is_semicolon lexeme) refl;
      at_end = λ s x e f g. rw (e, f) (ap (λ b. is_semicolon lexeme || b) (inside_more x lexeme more k g (is_semicolon lexeme) refl));
    }

pub closing_told : (lexemes : List Lexeme) → has_closing lexemes ≡ closed_in Free lexemes
closing_told lexemes = (known lexemes).free (Sign Semicolon) refl

-- how a lexing ends that nothing closes
abbrev pub end_of : Option DataFault → LexingEnd
end_of None = TextEnds
end_of (Some fault) = Fails fault.no fault.at

abbrev lexemes_at : List ℕ → List Span → List Lexeme
lexemes_at text spans = said (map (placed_of text) spans)

-- where nothing closes the text, all tokens stand
pub lexed_open : (text : List ℕ) (closing : Closing) (spans : List Span) (fault : Option DataFault) → closed_in closing (lexemes_at text spans) ≡ false
    → lexed_from text closing spans fault ≡ record { placed = map (placed_of text) spans; end = end_of fault }
lexed_open text closing [] None never = refl
lexed_open text closing [] (Some fault) never = refl
lexed_open text closing (span ∷ spans) fault never =
    let lexeme = (placed_of text span).lexeme in
    let parts = or_parts (closes closing lexeme) (closed_in (closing_after closing lexeme) (lexemes_at text spans)) never in
    cond-false (closes closing lexeme) _ _ parts.0
    ∙ ap (with_token (placed_of text span)) (lexed_open text (closing_after closing lexeme) spans fault parts.1)

-- where a token is the first that closes it, the tokens up to it stand
pub lexed_closed : (text : List ℕ) (closing : Closing) (before : List Span) (last : Span) (more : List Span) (fault : Option DataFault)
    → closed_in closing (lexemes_at text before) ≡ false → closed_in closing (lexemes_at text (before ++ last ∷ [])) ≡ true
    → lexed_from text closing (before ++ last ∷ more) fault ≡ record { placed = map (placed_of text) (before ++ last ∷ []); end = Closes }
lexed_closed text closing [] last more fault never closed =
    let lexeme = (placed_of text last).lexeme in
    cond-true (closes closing lexeme) _ _ (sym (or-false (closes closing lexeme)) ∙ closed)
lexed_closed text closing (span ∷ before) last more fault never closed =
    let lexeme = (placed_of text span).lexeme in
    let beyond = closing_after closing lexeme in
    let parts = or_parts (closes closing lexeme) (closed_in beyond (lexemes_at text before)) never in
    let closed_later : closed_in beyond (lexemes_at text (before ++ last ∷ [])) ≡ true =
    sym (ap (λ b. b || closed_in beyond (lexemes_at text (before ++ last ∷ []))) parts.0) ∙ closed in
    cond-false (closes closing lexeme) _ _ parts.0
    ∙ ap (with_token (placed_of text span)) (lexed_closed text beyond before last more fault parts.1 closed_later)
