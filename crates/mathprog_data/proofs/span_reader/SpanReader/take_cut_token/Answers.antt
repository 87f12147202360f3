use Rattle.mathprog_data.proofs.Common.{◌≡◌, ◌+◌, ◌-◌, ◌++◌, ℕ, List, Some, length, take, slice_range, sym, ap, ◌∙◌, arith, IsShown}
use Rattle.mathprog_data.proofs.PieceLemmas.{kept_and_piece, length_both}
use Rattle.mathprog_data.proofs.span_reader.SpanReader.take_cut_token.Goals as goal
use Rattle.mathprog_data.proofs.span_reader.SpanReader.take_cut_token.Goals.{After-as_slice}

-- how many bytes are kept then
long : (c : After-as_slice) → c.args.span.now.from + length c.as_slice.result.now ≡ c.args.span.now.to
long c =
    let piece = c.args.piece in
    let span = c.args.span.now in
    let kept = c.args.self.now.kept.items in
    let all : c.as_slice.result.now ≡ kept ++ take (span.to - piece.start) piece.bytes.now = c.as_slice.ensures.value ∙ c.in_ok-extend_from_slice.ensures.items in
    let both : length c.as_slice.result.now ≡ length kept + (span.to - piece.start) =
    ap length all ∙ length_both kept piece.bytes.now (span.to - piece.start) (omega (arith, c.requires.within)) in
    omega (arith, both, c.requires.kept, c.requires.past)

-- they are the token's
shown : (c : After-as_slice) (text : List ℕ) → IsShown text c.args.piece c.args.self.now.kept.items (Some c.args.span.now.from)
    → slice_range text c.args.span.now.from (c.args.span.now.from + length c.as_slice.result.now) ≡ c.as_slice.result.now
shown c text is =
    let piece = c.args.piece in
    let span = c.args.span.now in
    let kept = c.args.self.now.kept.items in
    let all : c.as_slice.result.now ≡ kept ++ take (span.to - piece.start) piece.bytes.now = c.as_slice.ensures.value ∙ c.in_ok-extend_from_slice.ensures.items in
    ap (slice_range text span.from) (long c)
    ∙ kept_and_piece text kept piece.bytes.now span.from piece.start (length piece.bytes.now) span.to (is.1 c.requires.cut) is.0 (omega (arith, c.requires.cut)) c.requires.past c.requires.within
    ∙ sym all

pub take-taken-requires-clause-within : goal.take-taken-requires-clause-within
take-taken-requires-clause-within c = omega (arith, long (goal.at.take-taken-requires-clause-within c).After-as_slice)

pub returns-clause-open : goal.returns-clause-open
returns-clause-open c r text is = c.take-taken.ensures.open r text (shown (goal.at.returns-clause-open c).After-as_slice text is)

pub returns-clause-closed : goal.returns-clause-closed
returns-clause-closed c r text is = c.take-taken.ensures.closed r text (shown (goal.at.returns-clause-closed c).After-as_slice text is)

pub returns-clause-fault : goal.returns-clause-fault
returns-clause-fault c fault r text is = c.take-taken.ensures.fault fault r text (shown (goal.at.returns-clause-fault c).After-as_slice text is)
