use Rattle.mathprog_data.proofs.Common.{◌≡◌, ◌+◌, ◌≤◌, ◌++◌, Ok, Err, length, sym, ap, subst, ◌∙◌, arith, draft_view, token_from, run, drafted, reader_view, outcome_after, Reads, outcome_of}
use Rattle.mathprog_data.proofs.PieceLaws.{is_shown, is_shown_last, shown_on, known_on, settled_on, failed_on}
use Rattle.mathprog_data.proofs.pieces.read_piece.Goals as goal

pub returns-in-Ok-true-clause-known : goal.returns-in-Ok-true-clause-known
returns-in-Ok-true-clause-known c text e known =
    let piece = c.args.piece.bytes.now in
    settled_on text piece (Reads (drafted (draft_view c.take_piece.new.spans.tokens.statements.draft)))
    (λ rest. sym (known.3 (piece ++ rest))
    ∙ c.take_piece.ensures.closed (c.in-Ok-true.is ∙ ap Ok c.in-Ok-true.field-0-test) (text ++ (piece ++ rest))
    (is_shown text rest c.args.spans.now.kept.items c.args.piece (token_from c.args.lexer.now) e known.2) rest)

pub returns-in-Err-clause-known : goal.returns-in-Err-clause-known
returns-in-Err-clause-known c text e known =
    let piece = c.args.piece.bytes.now in
    failed_on text piece c.in-Err.fail c.take_piece.new.lexer c.take_piece.new.spans
    (λ fault f rest. sym (known.3 (piece ++ rest))
    ∙ c.in-Err.ensures.fault fault (ap Err f) (text ++ (piece ++ rest))
    (is_shown text rest c.args.spans.now.kept.items c.args.piece (token_from c.args.lexer.now) e known.2) rest)

pub returns-in-Ok-clause-known : goal.returns-in-Ok-clause-known
returns-in-Ok-clause-known c text e known =
    let piece = c.args.piece.bytes.now in
    let kept = c.args.spans.now.kept.items in
    let s = c.args.lexer.now in
    let next = c.take_piece.new.lexer in
    let tokens = c.keep_open.new.self.tokens in
    let went_on = c.in-Ok-false.is ∙ ap Ok c.in-Ok-false.field-0-test in
    let order : c.args.piece.start ≤ s.place = omega (arith, known.0, e) in
    known_on text piece c.keep_open.new.self.kept.items next tokens.closing (reader_view tokens.statements)
    (c.take_piece.ensures.place went_on ∙ ap (λ n. n + length piece) (sym e))
    (c.take_piece.ensures.mark went_on text known.1)
    (c.in-Ok.ensures.bytes_kept (text ++ piece)
    (shown_on (text ++ piece) kept c.take_piece.new.spans.kept.items c.args.piece s next c.take_piece.ensures.same_kept order (c.take_piece.ensures.goes_on went_on)
    (is_shown_last text kept c.args.piece (token_from s) e known.2)))
    (λ rest.
    subst (λ t. outcome_after (text ++ (piece ++ rest)) t (run next rest) ≡ outcome_of (text ++ (piece ++ rest))) (sym c.keep_open.ensures.tokens)
    (sym (c.take_piece.ensures.open went_on (text ++ (piece ++ rest)) (is_shown text rest kept c.args.piece (token_from s) e known.2) rest)
    ∙ known.3 (piece ++ rest)))
