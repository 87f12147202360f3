use Rattle.mathprog_data.proofs.Common.{◌≡◌, ◌-◌, ◌++◌, length, slice_range, sym, ap, subst, ◌∙◌, arith, on_ok_weaker, IfEarlier}
use Rattle.mathprog_data.proofs.PieceLemmas.{appended, rest_shown}
use Rattle.mathprog_data.proofs.span_reader.SpanReader.keep_open.Goals as goal

pub returns-in-Some-2-clause-bytes_kept : goal.returns-in-Some-2-clause-bytes_kept
returns-in-Some-2-clause-bytes_kept c =
    let piece = c.args.piece.bytes.now in
    let start = c.args.piece.start in
    let from = c.in-Some.from in
    let place = c.args.lexer.now.place in
    let after = c.extend_from_slice-in-Some-2.new.self.items in
    let rest = slice_range piece (from - start) (length piece) in
    let cleared : c.clear-in-Some-2.new.self.items ++ rest ≡ rest = ap (λ items. items ++ rest) c.clear-in-Some-2.ensures.items in
    on_ok_weaker c.extend_from_slice-in-Some-2.result
    (λ added. λ text shown.
    subst (IfEarlier place (λ from. slice_range text from place ≡ after)) c.in-Some.ensures.value
    (λ earlier.
    ap (slice_range text from) c.requires.whole
    ∙ rest_shown text piece start from shown.0 c.if-from-piece.false (omega (arith, earlier, c.requires.whole))
    ∙ sym cleared ∙ sym added))
    (appended c.extend_from_slice-in-Some-2.result c.clear-in-Some-2.new.self.items rest after c.extend_from_slice-in-Some-2.ensures.items)
