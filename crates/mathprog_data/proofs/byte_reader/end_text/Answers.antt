use Rattle.mathprog_data.proofs.Common.{◌≡◌, ◌+◌, ◌-◌, [], ℕ, List, drop, take, length, slice_range, true, Ok, Err, ap, sym, subst, ◌∙◌, arith, cond-true, cond-false, IfOk-weaker, Fault, blocks_told, draft_view, end_too_soon, token_from, run, and_then, nothing_more, drafted, may_end, open_view, place_after, Reads, Refuses}
use Rattle.mathprog_data.specs.PieceRuns.{IfEarlier, AreKept, outcome_after, seen_from}
use Rattle.mathprog_data.proofs.PieceSteps.{end_from}
use Rattle.mathprog_data.proofs.TokenRunLemmas.{run_end}
use Rattle.mathprog_data.proofs.byte_reader.end_text.Goals as goal
use Rattle.mathprog_data.proofs.byte_reader.end_text.Goals.{After-end-last}

-- what holds of an open token holds of the one that the end ends
last_holds : (c : After-end-last) (P : ℕ → Type 0) → IfEarlier c.args.size P (token_from c.args.lexer.now) → IfEarlier c.args.size P (seen_from c.end-last.result)
last_holds c P holds =
    subst (λ seen. IfEarlier c.args.size P (seen_from seen)) (sym c.end-last.ensures.seen) (end_from P c.args.size c.args.lexer.now holds)

pub take_seen-requires-clause-kept : goal.take_seen-requires-clause-kept
take_seen-requires-clause-kept c = last_holds (goal.at.take_seen-requires-clause-kept c).After-end-last (λ from. from + length c.args.spans.kept.items ≡ c.args.size) c.requires.kept

-- what is shown by no bytes and by those that are kept
no_bytes : (text : List ℕ) (size : ℕ) → slice_range text size (size + 0) ≡ []
no_bytes text size = let none : size + 0 - size ≡ 0 = omega arith in ap (λ n. take n (drop size text)) none

last_kept : (c : After-end-last) (text : List ℕ) → AreKept text c.args.size c.args.spans.kept.items (token_from c.args.lexer.now)
    → AreKept text c.args.size c.args.spans.kept.items (seen_from c.end-last.result)
last_kept c text are = last_holds c (λ from. slice_range text from c.args.size ≡ c.args.spans.kept.items) are

-- what comes of the end of the text, by what it ends
at_last : (c : After-end-last) (text : List ℕ)
    → outcome_after text c.args.spans.tokens (run c.args.lexer.now []) ≡ outcome_after text c.args.spans.tokens (and_then c.end-last.result nothing_more)
at_last c text = ap (outcome_after text c.args.spans.tokens) (run_end c.args.lexer.now c.end-last.result c.end-last.ensures.seen)

pub returns-in-Ok-true-clause-blocks : goal.returns-in-Ok-true-clause-blocks
returns-in-Ok-true-clause-blocks c text mark are =
    let at = (goal.at.returns-in-Ok-true-clause-blocks c).After-end-last in
    at_last at text
    ∙ c.take_seen.ensures.closed (c.in-Ok-true.is ∙ ap Ok c.in-Ok-true.field-0-test) text (no_bytes text c.args.size, last_kept at text are) nothing_more
    ∙ ap Reads (sym c.into_blocks.ensures)

pub returns-in-Ok-false-clause-blocks : goal.returns-in-Ok-false-clause-blocks
returns-in-Ok-false-clause-blocks c =
    let at = (goal.at.returns-in-Ok-false-clause-blocks c).After-end-last in
    let reader = c.take_seen.new.self.tokens.statements in
    IfOk-weaker c.finish.result (λ blocks. (may_end (open_view reader) ≡ true) × (blocks_told blocks ≡ drafted (draft_view reader.draft)))
    (λ blocks. (text : List ℕ) → c.args.lexer.now.mark ≡ place_after text → AreKept text c.args.size c.args.spans.kept.items (token_from c.args.lexer.now)
    → outcome_after text c.args.spans.tokens (run c.args.lexer.now []) ≡ Reads (blocks_told blocks))
    (λ blocks h. λ text mark are.
    at_last at text
    ∙ c.take_seen.ensures.open (c.in-Ok-false.is ∙ ap Ok c.in-Ok-false.field-0-test) text (no_bytes text c.args.size, last_kept at text are) nothing_more
    ∙ cond-true (may_end (open_view reader)) _ _ h.0 ∙ ap Reads (sym h.1))
    c.finish.ensures.blocks

pub returns-in-Ok-false-clause-fault : goal.returns-in-Ok-false-clause-fault
returns-in-Ok-false-clause-fault c fault r text mark are =
    let at = (goal.at.returns-in-Ok-false-clause-fault c).After-end-last in
    let reader = c.take_seen.new.self.tokens.statements in
    let refused = c.finish.ensures.fault fault r in
    at_last at text
    ∙ c.take_seen.ensures.open (c.in-Ok-false.is ∙ ap Ok c.in-Ok-false.field-0-test) text (no_bytes text c.args.size, last_kept at text are) nothing_more
    ∙ cond-false (may_end (open_view reader)) _ _ refused.0
    ∙ ap (Refuses end_too_soon) (sym mark)
    ∙ ap (λ f. Refuses f.no f.at) (sym refused.1)

pub returns-clause-fault : goal.returns-clause-fault
returns-clause-fault c fault r text mark are =
    let at = (goal.at.returns-clause-fault c).After-end-last in
    let e : c.in-Err.fail ≡ Fault fault = cc in
    at_last at text
    ∙ c.in-Err.ensures.fault fault (ap Err e) text (no_bytes text c.args.size, last_kept at text are) nothing_more
