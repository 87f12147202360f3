use Rattle.std.proofs.Common.{◌≡◌, ◌+◌, ◌≤◌, ◌∷◌, ◌++◌, [], drop, take, length, get_or, Ok, Err, refl, ap, sym, subst, ◌∙◌, arith, append_assoc, append-nil, take-add, drop-drop, length-drop}
use Rattle.std.proofs.lemmas.List.{take_more, take_all}
use Rattle.mathprog_data.proofs.Common.{Fault, token_from, next_mark, run, outcome_after, place_after}
use Rattle.mathprog_data.proofs.LexingPlaces.{place_after_byte}
use Rattle.mathprog_data.proofs.PieceLaws.{kept_on, shown_on, goes_on_on, goes_on_same, goes_on_from}
use Rattle.mathprog_data.proofs.TokenRunLemmas.{drop_byte, drop_end, rest_of}
use Rattle.mathprog_data.proofs.byte_reader.take_piece.Goals as goal

pub loop-taken-init : goal.loop-taken-init
loop-taken-init c = (
  omega arith,
  omega (arith, c.requires.place),
  λ front e. e ∙ ap place_after (sym (append-nil front)),
  goes_on_from c.args.lexer.now,
  omega (arith, c.requires.rounded),
  refl,
  λ text is rest. refl,
)

pub take_byte-requires-clause-kept : goal.take_byte-requires-clause-kept
take_byte-requires-clause-kept c =
    kept_on c.args.piece.start c.args.spans.now.kept.items c.loop-taken.spans.kept.items c.args.lexer.now c.loop-taken.lexer
    c.loop-taken.invariant.5 (omega (arith, c.requires.place)) c.loop-taken.invariant.3 c.requires.kept

pub loop-taken-preserved : goal.loop-taken-preserved
loop-taken-preserved c =
    let piece = c.args.piece.bytes.now in
    let i = c.loop-taken.taken in
    let n = c.pass_symbol-taken.result in
    let byte = get_or piece i 0 in
    let tokens = c.take_byte.new.spans.tokens in
    let went_on = c.in-Ok-false.is ∙ ap Ok c.in-Ok-false.field-0-test in
    let before = c.loop-taken.invariant in
    let rest_is = rest_of piece (i + 1) in
    let rest_long = length-drop (i + 1) piece in
    let counted : n ≤ length (drop (i + 1) piece) = subst (λ r. n ≤ length r) rest_is c.pass_symbol-taken.ensures.count in
    let order : c.args.lexer.now.place ≤ c.loop-taken.lexer.place = omega (arith, c.requires.place, before.1) in (
      omega (arith, counted, rest_long, c.loop-taken-test.true),
      omega (arith, c.pass_symbol-taken.ensures.place, c.take_byte.ensures.place went_on, before.1),
      λ front e.
          c.pass_symbol-taken.ensures.mark (front ++ take (i + 1) piece)
          (c.take_byte.ensures.mark went_on ∙ ap (λ m. next_mark m byte) (before.2 front e)
          ∙ sym (place_after_byte (front ++ take i piece) byte)
          ∙ ap place_after (append_assoc front (take i piece) (byte ∷ []) ∙ ap (λ t. front ++ t) (sym (take_more piece i 0 c.loop-taken-test.true))))
          ∙ ap (λ r. place_after ((front ++ take (i + 1) piece) ++ take n r)) rest_is
          ∙ ap place_after (append_assoc front (take (i + 1) piece) (take n (drop (i + 1) piece)) ∙ ap (λ t. front ++ t) (sym (take-add (i + 1) n piece))),
      goes_on_same c.args.lexer.now c.take_byte.new.lexer (token_from c.pass_symbol-taken.new.self) c.pass_symbol-taken.ensures.goes_on
          (goes_on_on c.args.lexer.now c.loop-taken.lexer c.take_byte.new.lexer order before.3 (c.take_byte.ensures.goes_on went_on)),
      omega (arith, c.in-Ok-false.ensures.rounded, before.4),
      c.take_byte.ensures.same_kept ∙ before.5,
      λ text is rest.
          before.6 text is rest
          ∙ ap (λ t. outcome_after text c.loop-taken.spans.tokens (run c.loop-taken.lexer (t ++ rest))) (drop_byte piece i c.loop-taken-test.true)
          ∙ c.take_byte.ensures.open went_on text
          (shown_on text c.args.spans.now.kept.items c.loop-taken.spans.kept.items c.args.piece c.args.lexer.now c.loop-taken.lexer before.5 (omega (arith, c.requires.place)) before.3 is)
          (drop (i + 1) piece ++ rest)
          ∙ ap (λ r. outcome_after text tokens (run c.take_byte.new.lexer (r ++ rest))) (sym rest_is)
          ∙ ap (outcome_after text tokens) (c.pass_symbol-taken.ensures.passes rest)
          ∙ ap (λ r. outcome_after text tokens (run c.pass_symbol-taken.new.self (drop n r ++ rest))) rest_is
          ∙ ap (λ t. outcome_after text tokens (run c.pass_symbol-taken.new.self (t ++ rest))) (drop-drop n (i + 1) piece),
    )

-- what comes of the text from the next byte on
pub returns-in-Ok-true-clause-closed : goal.returns-in-Ok-true-clause-closed
returns-in-Ok-true-clause-closed c r text is rest =
    let piece = c.args.piece.bytes.now in
    let i = c.loop-taken.taken in
    let before = c.loop-taken.invariant in
    before.6 text is rest
    ∙ ap (λ t. outcome_after text c.loop-taken.spans.tokens (run c.loop-taken.lexer (t ++ rest))) (drop_byte piece i c.loop-taken-test.true)
    ∙ c.take_byte.ensures.closed (c.in-Ok-true.is ∙ ap Ok c.in-Ok-true.field-0-test) text
    (shown_on text c.args.spans.now.kept.items c.loop-taken.spans.kept.items c.args.piece c.args.lexer.now c.loop-taken.lexer before.5 (omega (arith, c.requires.place)) before.3 is)
    (drop (i + 1) piece ++ rest)

pub returns-in-Err-clause-fault : goal.returns-in-Err-clause-fault
returns-in-Err-clause-fault c fault r text is rest =
    let e : c.in-Err.fail ≡ Fault fault = cc in
    let piece = c.args.piece.bytes.now in
    let i = c.loop-taken.taken in
    let before = c.loop-taken.invariant in
    before.6 text is rest
    ∙ ap (λ t. outcome_after text c.loop-taken.spans.tokens (run c.loop-taken.lexer (t ++ rest))) (drop_byte piece i c.loop-taken-test.true)
    ∙ c.in-Err.ensures.fault fault (ap Err e) text
    (shown_on text c.args.spans.now.kept.items c.loop-taken.spans.kept.items c.args.piece c.args.lexer.now c.loop-taken.lexer before.5 (omega (arith, c.requires.place)) before.3 is)
    (drop (i + 1) piece ++ rest)

pub returns-clause-open : goal.returns-clause-open
returns-clause-open c r text is rest =
    c.loop-taken.invariant.6 text is rest
    ∙ ap (λ t. outcome_after text c.loop-taken.spans.tokens (run c.loop-taken.lexer (t ++ rest))) (drop_end c.args.piece.bytes.now c.loop-taken.taken c.loop-taken-test.false)

pub returns-clause-mark : goal.returns-clause-mark
returns-clause-mark c r front e =
    c.loop-taken.invariant.2 front e
    ∙ ap (λ t. place_after (front ++ t)) (take_all c.loop-taken.taken c.args.piece.bytes.now c.loop-taken-test.false)

pub returns-clause-goes_on : goal.returns-clause-goes_on
returns-clause-goes_on c r = c.loop-taken.invariant.3
