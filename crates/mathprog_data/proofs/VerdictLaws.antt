-- What is made of a text is what it says, or the fault that it has; and what a text says, or has, is made of it.
use Rattle.mathprog_data.proofs.Common.{◌≡◌, ℕ, true, false, ◌⊎◌, inl, inr, List, [], ◌∷◌, ◌++◌, Result, Ok, Err, refl, sym, ap, subst, ◌∙◌, append-nil, cond-true, cond-false, cases_Bool, both_ways, false_from_ne_true, append_assoc, Mark, end_too_soon, Placed, Lexes, LexingEnd, TextEnds, Closes, Fails, Tokens, placed_at, placed_after, spellings, is_semicolon, Piece, SignToken, spelling, lexed, Reader, drafted, may_end, beginning, Blocks, Means, place_after, Outcome, Reads, Refuses, at_text_end, outcome_at, outcome_from, outcome_of, IsGood, FaultIn, EndsTooSoon, Says, FaultAt, at_token, lexical, too_soon}
use Rattle.mathprog_data.specs.declared.lexeme.Sign.TheVariants as signs
use Rattle.mathprog_data.specs.MachineRuns.{Stopped, run}
use Rattle.mathprog_data.proofs.LexingLaws.{lexes_lexed, lexes_only}
use Rattle.mathprog_data.proofs.ReadingLemmas.{may_end_after}

-- what the reader of statements makes of tokens: it goes through exactly where they are good, what it has read then is what they
-- mean exactly where the section may end, and it stops exactly at their fault
pub record StatementLaws : Type 0 where
  pub good : (ts : List Placed) (r : Reader) → run beginning ts ≡ Ok r → IsGood ts
  pub goes : (ts : List Placed) → IsGood ts → (r : Reader) × (run beginning ts ≡ Ok r)
  pub means : (ts : List Placed) (r : Reader) → run beginning ts ≡ Ok r → may_end r.open_part ≡ true → Means ts (drafted r.draft)
  pub meant : (ts : List Placed) (blocks : Blocks) → Means ts blocks → (r : Reader) × (run beginning ts ≡ Ok r) × (may_end r.open_part ≡ true) × (drafted r.draft ≡ blocks)
  pub fault : (ts : List Placed) (s : Stopped) → run beginning ts ≡ Err s → FaultIn ts s.number s.at
  pub stops : (ts : List Placed) (number : ℕ) (at : Mark) → FaultIn ts number at → run beginning ts ≡ Err (record { number = number; at = at })

-- the tokens before the closing one, which is a `;`
placed_after-append : (front : List ℕ) (before more : List Piece) → placed_after front (before ++ more) ≡ placed_after front before ++ placed_after (front ++ spellings before) more
placed_after-append front [] more = ap (λ f. placed_after f more) (sym (append-nil front))
placed_after-append front (piece ∷ before) more =
    ap (λ t. placed_at front piece ++ t)
    (placed_after-append (front ++ spelling piece) before more
    ∙ ap (λ f. placed_after (front ++ spelling piece) before ++ placed_after f more) (append_assoc front (spelling piece) (spellings before)))
    ∙ sym (append_assoc (placed_at front piece) (placed_after (front ++ spelling piece) before) (placed_after (front ++ (spelling piece ++ spellings before)) more))

last_semicolon : (text : List ℕ) (placed : List Placed) → Lexes text placed Closes → (front : List Placed) × (t : Placed) × (placed ≡ front ++ t ∷ []) × (is_semicolon t.lexeme ≡ true)
last_semicolon text placed lexes =
    let before = lexes.ends.0 in
    let split = lexes.tokens ∙ ap (placed_after []) lexes.ends.1 ∙ placed_after-append [] before (SignToken signs.Semicolon ∷ []) in
    (placed_after [] before, _, split, refl)

may_end_closed : (text : List ℕ) (placed : List Placed) (r : Reader) → Lexes text placed Closes → run beginning placed ≡ Ok r → may_end r.open_part ≡ true
may_end_closed text placed r lexes e =
    let last = last_semicolon text placed lexes in
    may_end_after last.0 last.1 beginning r (ap (run beginning) (sym last.2) ∙ e) last.3

-- what is made of the text, by its lexing
outcome_lexed : (text : List ℕ) (placed : List Placed) (end : LexingEnd) → Lexes text placed end → outcome_of text ≡ outcome_at text end (run beginning placed)
outcome_lexed text placed end lexes = ap (outcome_from text beginning) (lexes_only text placed end lexes)

module _ (laws : StatementLaws) where
  read_at_end : (text : List ℕ) (placed : List Placed) (r : Reader) (blocks : Blocks) → run beginning placed ≡ Ok r → at_text_end text r ≡ Reads blocks → Means placed blocks
  read_at_end text placed r blocks e f =
      elim (cases_Bool (may_end r.open_part)) [
        | inl ends ↦
            let same : Reads (drafted r.draft) ≡ Reads blocks = sym (cond-true (may_end r.open_part) _ _ ends) ∙ f in
            let drafts : drafted r.draft ≡ blocks = cc in
            subst (Means placed) drafts (laws.means placed r e ends)
        | inr open_still ↦ let other : Refuses end_too_soon (place_after text) ≡ Reads blocks = sym (cond-false (may_end r.open_part) _ _ open_still) ∙ f in absurd (cc)
      ]

  read_in : (text : List ℕ) (placed : List Placed) (end : LexingEnd) (blocks : Blocks) → Lexes text placed end
      → (result : Result Reader Stopped) → run beginning placed ≡ result → outcome_at text end result ≡ Reads blocks → Says text blocks
  read_in text placed end blocks lexes (Err stopped) e f = cc
  read_in text placed TextEnds blocks lexes (Ok r) e f = record { placed = placed; tokens = inl lexes; means = read_at_end text placed r blocks e f }
  read_in text placed Closes blocks lexes (Ok r) e f =
      let drafts : drafted r.draft ≡ blocks = cc in
      record { placed = placed; tokens = inr lexes; means = subst (Means placed) drafts (laws.means placed r e (may_end_closed text placed r lexes e)) }
  read_in text placed (Fails number at) blocks lexes (Ok r) e f = cc

  -- what is read is what the text says
  pub reads_says : (text : List ℕ) (blocks : Blocks) → outcome_of text ≡ Reads blocks → Says text blocks
  reads_says text blocks e = read_in text (lexed text).placed (lexed text).end blocks (lexes_lexed text) (run beginning (lexed text).placed) refl e

  nothing_meant : (placed : List Placed) (r : Reader) → run beginning placed ≡ Ok r → may_end r.open_part ≡ false → (blocks : Blocks) → Means placed blocks → ⊥
  nothing_meant placed r e open_still blocks means =
      let read = laws.meant placed blocks means in
      let same : r ≡ read.0 = let both : ◌≡◌ {A = Result Reader Stopped} (Ok r) (Ok read.0) = sym e ∙ read.1 in cc in
      both_ways (may_end r.open_part) open_still (ap (λ r. may_end r.open_part) same ∙ read.2)

  -- with this number and mark
  fault_as : (text : List ℕ) (number other : ℕ) (at place : Mark) → Refuses number at ≡ Refuses other place → FaultAt text number at → FaultAt text other place
  fault_as text number other at place e fault =
      let numbers : number ≡ other = cc in
      let places : at ≡ place = cc in
      subst (FaultAt text other) places (subst (λ n. FaultAt text n at) numbers fault)

  refused_at_end : (text : List ℕ) (placed : List Placed) (r : Reader) (number : ℕ) (at : Mark) → Tokens text placed → run beginning placed ≡ Ok r
      → at_text_end text r ≡ Refuses number at → FaultAt text number at
  refused_at_end text placed r number at tokens e f =
      elim (cases_Bool (may_end r.open_part)) [
        | inl ends ↦ let other : Reads (drafted r.draft) ≡ Refuses number at = sym (cond-true (may_end r.open_part) _ _ ends) ∙ f in absurd (cc)
        | inr open_still ↦
            fault_as text end_too_soon number (place_after text) at (sym (cond-false (may_end r.open_part) _ _ open_still) ∙ f)
            (too_soon placed tokens (record { good = laws.good placed r e; means_nothing = nothing_meant placed r e open_still }))
      ]

  refused_in : (text : List ℕ) (placed : List Placed) (end : LexingEnd) (number : ℕ) (at : Mark) → Lexes text placed end
      → (result : Result Reader Stopped) → run beginning placed ≡ result → outcome_at text end result ≡ Refuses number at → FaultAt text number at
  refused_in text placed end number at lexes (Err stopped) e f =
      fault_as text stopped.number number stopped.at at f (at_token placed end lexes (laws.fault placed stopped e))
  refused_in text placed TextEnds number at lexes (Ok r) e f = refused_at_end text placed r number at (inl lexes) e f
  refused_in text placed Closes number at lexes (Ok r) e f = cc
  refused_in text placed (Fails other place) number at lexes (Ok r) e f = fault_as text other number place at f (lexical placed lexes (laws.good placed r e))

  -- what it is refused with is its fault
  pub refuses_fault : (text : List ℕ) (number : ℕ) (at : Mark) → outcome_of text ≡ Refuses number at → FaultAt text number at
  refuses_fault text number at e = refused_in text (lexed text).placed (lexed text).end number at (lexes_lexed text) (run beginning (lexed text).placed) refl e

  read_tokens : (text : List ℕ) (placed : List Placed) (blocks : Blocks) → Means placed blocks → Tokens text placed → outcome_of text ≡ Reads blocks
  read_tokens text placed blocks means (inl lexes) =
      let read = laws.meant placed blocks means in
      outcome_lexed text placed TextEnds lexes ∙ ap (outcome_at text TextEnds) read.1 ∙ cond-true (may_end read.0.open_part) _ _ read.2 ∙ ap Reads read.3
  read_tokens text placed blocks means (inr lexes) =
      let read = laws.meant placed blocks means in
      outcome_lexed text placed Closes lexes ∙ ap (outcome_at text Closes) read.1 ∙ ap Reads read.3

  -- what a text says is read
  pub says_reads : (text : List ℕ) (blocks : Blocks) → Says text blocks → outcome_of text ≡ Reads blocks
  says_reads text blocks says = read_tokens text says.placed blocks says.means says.tokens

  open_at_end : (placed : List Placed) (r : Reader) → EndsTooSoon placed → run beginning placed ≡ Ok r → may_end r.open_part ≡ false
  open_at_end placed r soon e = false_from_ne_true (may_end r.open_part) (λ ends. soon.means_nothing (drafted r.draft) (laws.means placed r e ends))

  refused_too_soon : (text : List ℕ) (placed : List Placed) → EndsTooSoon placed → Tokens text placed → outcome_of text ≡ Refuses end_too_soon (place_after text)
  refused_too_soon text placed soon (inl lexes) =
      let gone = laws.goes placed soon.good in
      outcome_lexed text placed TextEnds lexes ∙ ap (outcome_at text TextEnds) gone.1 ∙ cond-false (may_end gone.0.open_part) _ _ (open_at_end placed gone.0 soon gone.1)
  refused_too_soon text placed soon (inr lexes) =
      let gone = laws.goes placed soon.good in
      absurd (both_ways (may_end gone.0.open_part) (open_at_end placed gone.0 soon gone.1) (may_end_closed text placed gone.0 lexes gone.1))

  -- its fault is what it is refused with
  pub fault_refuses : (text : List ℕ) (number : ℕ) (at : Mark) → FaultAt text number at → outcome_of text ≡ Refuses number at
  fault_refuses text number at (at_token placed end lexes fault) = outcome_lexed text placed end lexes ∙ ap (outcome_at text end) (laws.stops placed number at fault)
  fault_refuses text number at (lexical placed lexes good) =
      let gone = laws.goes placed good in
      outcome_lexed text placed (Fails number at) lexes ∙ ap (outcome_at text (Fails number at)) gone.1
  fault_refuses text number at (too_soon placed tokens soon) = refused_too_soon text placed soon tokens

  -- a text says one thing at most, has one fault at most, and never both
  pub one_meaning : (text : List ℕ) (a b : Blocks) → Says text a → Says text b → a ≡ b
  one_meaning text a b h k = let both : Reads a ≡ Reads b = sym (says_reads text a h) ∙ says_reads text b k in cc

  pub one_fault : (text : List ℕ) (number other : ℕ) (at place : Mark) → FaultAt text number at → FaultAt text other place → (number ≡ other) × (at ≡ place)
  one_fault text number other at place h k =
      let both : Refuses number at ≡ Refuses other place = sym (fault_refuses text number at h) ∙ fault_refuses text other place k in
      let numbers : number ≡ other = cc in
      let places : at ≡ place = cc in
      (numbers, places)

  pub not_both : (text : List ℕ) (blocks : Blocks) (number : ℕ) (at : Mark) → Says text blocks → FaultAt text number at → ⊥
  not_both text blocks number at h k = let both : Reads blocks ≡ Refuses number at = sym (says_reads text blocks h) ∙ fault_refuses text number at k in cc

  -- each text says something, or has a fault
  pub some_verdict : (text : List ℕ) → ((blocks : Blocks) × Says text blocks) ⊎ ((number : ℕ) × (at : Mark) × FaultAt text number at)
  some_verdict text = by_outcome (outcome_of text) refl
    where
      by_outcome : (outcome : Outcome) → outcome_of text ≡ outcome → ((blocks : Blocks) × Says text blocks) ⊎ ((number : ℕ) × (at : Mark) × FaultAt text number at)
      by_outcome (Reads blocks) e = inl (blocks, reads_says text blocks e)
      by_outcome (Refuses number at) e = inr (number, at, refuses_fault text number at e)
