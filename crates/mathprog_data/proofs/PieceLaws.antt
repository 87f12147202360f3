-- What a reader stands for, from one piece of the text to the next.
use Rattle.std.proofs.Common.{◌≡◌, ℕ, ◌+◌, ◌-◌, ◌<◌, ◌≤◌, List, [], ◌++◌, length, take, drop, slice_range, Option, None, Some, refl, sym, ap, subst, ◌∙◌, arith, append_assoc, append-nil, length-append, length-drop}
use Rattle.mathprog_data.proofs.Common.{take_at, drop_at, take-append-le, drop-append-le, IfSome, DataFault, ReadFail, Fault, Memory, Closing, State, GoesOn, token_from, run, lexed_run, Reader, standing_of, Going, Settled, IsKnownOf, place_after, Outcome, Refuses, outcome_from, outcome_of}
use Rattle.mathprog_data.specs.declared.pieces.Stage.TheVariants as stages
use Rattle.mathprog_data.specs.declared.span_reader.SpanReader.{SpanReader}
use Rattle.mathprog_data.specs.declared.span_reader.TextPiece.{TextPiece}
use Rattle.mathprog_data.specs.PieceRuns.{IsKept, AreKept, IsShown}
use Rattle.mathprog_data.proofs.PieceLemmas.{earlier_on}

-- ---- what is kept, and what the piece shows

-- bytes that are kept of a text are kept of any longer one
slice_longer : (text more : List ℕ) (from : ℕ) → from ≤ length text → slice_range (text ++ more) from (length text) ≡ slice_range text from (length text)
slice_longer text more from within =
    let left : length text - from ≤ length (drop from text) = omega (arith, length-drop from text) in
    ap (take (length text - from)) (drop-append-le from text more within)
    ∙ take-append-le (length text - from) (drop from text) more left

pub kept_longer : (text more kept : List ℕ) (began : Option ℕ) → AreKept text (length text) kept began → AreKept (text ++ more) (length text) kept began
kept_longer text more kept None are = tt
kept_longer text more kept (Some from) are = λ h. slice_longer text more from (omega arith) ∙ are h

piece_shown : (text piece rest : List ℕ) → slice_range (text ++ (piece ++ rest)) (length text) (length text + length piece) ≡ piece
piece_shown text piece rest =
    let long : length text + length piece - length text ≡ length piece = omega arith in
    ap (λ n. take n (drop (length text) (text ++ (piece ++ rest)))) long
    ∙ ap (take (length piece)) (drop_at text (piece ++ rest) (length text) refl)
    ∙ take_at piece rest (length piece) refl

-- the piece that follows a text is shown in any longer one
pub is_shown : (text rest kept : List ℕ) (piece : TextPiece) (began : Option ℕ) → length text ≡ piece.start → AreKept text (length text) kept began
    → IsShown (text ++ (piece.bytes.now ++ rest)) piece kept began
is_shown text rest kept piece began e are = (
  subst (λ n. slice_range (text ++ (piece.bytes.now ++ rest)) n (n + length piece.bytes.now) ≡ piece.bytes.now) e (piece_shown text piece.bytes.now rest),
  subst (λ n. AreKept (text ++ (piece.bytes.now ++ rest)) n kept began) e (kept_longer text (piece.bytes.now ++ rest) kept began are),
)

pub is_shown_last : (text kept : List ℕ) (piece : TextPiece) (began : Option ℕ) → length text ≡ piece.start → AreKept text (length text) kept began
    → IsShown (text ++ piece.bytes.now) piece kept began
is_shown_last text kept piece began e are =
    subst (λ bytes. IsShown (text ++ bytes) piece kept began) (append-nil piece.bytes.now) (is_shown text [] kept piece began e are)

-- where the lexer goes on
pub kept_on : (start : ℕ) (kept later : List ℕ) (s next : State) → later ≡ kept → start ≤ s.place → GoesOn s next → IsKept start kept (token_from s) → IsKept start later (token_from next)
kept_on start kept later s next same order goes_on is =
    subst (λ bytes. IsKept start bytes (token_from next)) (sym same)
    (earlier_on (λ from. from + length kept ≡ start) start s.place (token_from s) (token_from next) order is goes_on)

pub shown_on : (text kept later : List ℕ) (piece : TextPiece) (s next : State) → later ≡ kept → piece.start ≤ s.place → GoesOn s next
    → IsShown text piece kept (token_from s) → IsShown text piece later (token_from next)
shown_on text kept later piece s next same order goes_on is = (
  is.0,
  subst (λ bytes. AreKept text piece.start bytes (token_from next)) (sym same)
      (earlier_on (λ from. slice_range text from piece.start ≡ kept) piece.start s.place (token_from s) (token_from next) order is.1 goes_on),
)

pub goes_on_on : (s middle next : State) → s.place ≤ middle.place → GoesOn s middle → GoesOn middle next → GoesOn s next
goes_on_on s middle next order before after =
    earlier_on (λ from. token_from s ≡ Some from) s.place middle.place (token_from middle) (token_from next) order before after

pub goes_on_same : (s next : State) (later : Option ℕ) → later ≡ token_from next → GoesOn s next → IfSome later (λ from. from < s.place → token_from s ≡ Some from)
goes_on_same s next later same goes_on = subst (λ began. IfSome began (λ from. from < s.place → token_from s ≡ Some from)) (sym same) goes_on

goes_on_at_once : (s : State) (began : Option ℕ) → IfSome began (λ from. from < s.place → began ≡ Some from)
goes_on_at_once s None = tt
goes_on_at_once s (Some from) = λ h. refl

-- it has gone on to where it is
pub goes_on_from : (s : State) → GoesOn s s
goes_on_from s = goes_on_at_once s (token_from s)

-- ---- what a reader stands for

-- where the text goes on after the piece
pub known_on : (text piece kept : List ℕ) (s : State) (closing : Closing) (r : Reader) → s.place ≡ length text + length piece → s.mark ≡ place_after (text ++ piece)
    → AreKept (text ++ piece) s.place kept (token_from s)
    → ((rest : List ℕ) → outcome_from (text ++ (piece ++ rest)) r (lexed_run (text ++ (piece ++ rest)) closing (run s rest)) ≡ outcome_of (text ++ (piece ++ rest)))
    → IsKnownOf (Going s closing r kept) (text ++ piece)
known_on text piece kept s closing r place mark are outcomes =
    let size : s.place ≡ length (text ++ piece) = omega (arith, length-append text piece) in (
      size,
      mark,
      subst (λ n. AreKept (text ++ piece) n kept (token_from s)) size are,
      λ rest. subst (λ all. outcome_from all r (lexed_run all closing (run s rest)) ≡ outcome_of all) (sym (append_assoc text piece rest)) (outcomes rest),
    )

-- where it is settled what is made of the text
pub settled_on : (text piece : List ℕ) (outcome : Outcome) → ((rest : List ℕ) → outcome_of (text ++ (piece ++ rest)) ≡ outcome) → IsKnownOf (Settled outcome) (text ++ piece)
settled_on text piece outcome outcomes rest = ap outcome_of (append_assoc text piece rest) ∙ outcomes rest

-- where the text has a fault, or memory ran out
pub failed_on : (text piece : List ℕ) (fail : ReadFail) (s : State) (spans : SpanReader)
    → ((fault : DataFault) → fail ≡ Fault fault → (rest : List ℕ) → outcome_of (text ++ (piece ++ rest)) ≡ Refuses fault.no fault.at)
    → IsKnownOf (standing_of (stages.Failed fail) s spans) (text ++ piece)
failed_on text piece (Fault fault) s spans outcomes = settled_on text piece (Refuses fault.no fault.at) (outcomes fault refl)
failed_on text piece Memory s spans outcomes = tt

-- at the end of the text
pub settled_at_end : (text : List ℕ) (outcome : Outcome) → IsKnownOf (Settled outcome) text → outcome_of text ≡ outcome
settled_at_end text outcome known = ap outcome_of (sym (append-nil text)) ∙ known []

pub going_at_end : (text kept : List ℕ) (s : State) (closing : Closing) (r : Reader) → IsKnownOf (Going s closing r kept) text
    → outcome_from text r (lexed_run text closing (run s [])) ≡ outcome_of text
going_at_end text kept s closing r known =
    subst (λ all. outcome_from all r (lexed_run all closing (run s [])) ≡ outcome_of all) (append-nil text) (known.3 [])
