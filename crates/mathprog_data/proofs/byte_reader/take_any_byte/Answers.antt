use Rattle.mathprog_data.proofs.Common.{◌≡◌, ◌+◌, ◌≤◌, ◌∷◌, ℕ, List, false, Ok, length, slice_range, sym, subst, ap, ◌∙◌, arith, token_from, GoesOn, taken, run, and_then}
use Rattle.mathprog_data.specs.PieceRuns.{IfEarlier, outcome_after, seen_from, IsKept, AreKept, IsShown}
use Rattle.mathprog_data.proofs.LexingSteps.{follow}
use Rattle.mathprog_data.proofs.PieceSteps.{before_from, middle_from, taken_from, step_goes_on}
use Rattle.mathprog_data.proofs.TokenRunLemmas.{run_first, run_both}
use Rattle.mathprog_data.proofs.byte_reader.take_any_byte.Goals as goal
use Rattle.mathprog_data.proofs.byte_reader.take_any_byte.Goals.{After-before-ended, After-take_seen, After-take-taken, After-take_seen-in-Ok-false}

-- what holds of an open token holds of the one that the byte ends
ended_holds : (c : After-before-ended) (P : ℕ → Type 0) → IfEarlier c.args.piece.start P (token_from c.args.lexer.now) → IfEarlier c.args.piece.start P (seen_from c.before-ended.result)
ended_holds c P holds =
    subst (λ seen. IfEarlier c.args.piece.start P (seen_from seen)) (sym c.before-ended.ensures.seen)
    (before_from P c.args.piece.start c.args.lexer.now c.args.byte holds)

pub take_seen-requires-clause-kept : goal.take_seen-requires-clause-kept
take_seen-requires-clause-kept c = ended_holds (goal.at.take_seen-requires-clause-kept c).After-before-ended (λ from. from + length c.args.spans.now.kept.items ≡ c.args.piece.start) c.requires.kept

-- and of the one that the byte makes whole
taken_holds : (c : After-take-taken) (P : ℕ → Type 0) → IfEarlier c.args.piece.start P (token_from c.args.lexer.now) → IfEarlier c.args.piece.start P (seen_from c.take-taken.result)
taken_holds c P holds =
    let middle = c.before-ended.new.self in
    let order : c.args.piece.start ≤ middle.place = omega (arith, c.before-ended.ensures.place, c.requires.begun) in
    subst (λ seen. IfEarlier c.args.piece.start P (seen_from seen)) (sym c.take-taken.ensures.seen)
    (taken_from P c.args.piece.start middle c.args.byte order
    (subst (λ s. IfEarlier c.args.piece.start P (token_from s)) (sym c.before-ended.ensures.state) (middle_from P c.args.piece.start c.args.lexer.now c.args.byte holds)))

pub take_seen-requires-in-Ok-false-clause-kept : goal.take_seen-requires-in-Ok-false-clause-kept
take_seen-requires-in-Ok-false-clause-kept c =
    subst (λ kept. IsKept c.args.piece.start kept (seen_from c.take-taken.result)) (sym c.take_seen.ensures.same_kept)
    (taken_holds (goal.at.take_seen-requires-in-Ok-false-clause-kept c).After-take-taken (λ from. from + length c.args.spans.now.kept.items ≡ c.args.piece.start) c.requires.kept)

-- what is shown of an open token is shown of them
ended_shown : (c : After-before-ended) (text : List ℕ) → IsShown text c.args.piece c.args.spans.now.kept.items (token_from c.args.lexer.now)
    → IsShown text c.args.piece c.args.spans.now.kept.items (seen_from c.before-ended.result)
ended_shown c text is = (is.0, ended_holds c (λ from. slice_range text from c.args.piece.start ≡ c.args.spans.now.kept.items) is.1)

taken_shown : (c : After-take-taken) (text : List ℕ) → IsShown text c.args.piece c.args.spans.now.kept.items (token_from c.args.lexer.now)
    → IsShown text c.args.piece c.take_seen.new.self.kept.items (seen_from c.take-taken.result)
taken_shown c text is = (
  is.0,
  subst (λ kept. AreKept text c.args.piece.start kept (seen_from c.take-taken.result)) (sym c.take_seen.ensures.same_kept)
      (taken_holds c (λ from. slice_range text from c.args.piece.start ≡ c.args.spans.now.kept.items) is.1),
)

pub returns-in-Ok-false-clause-goes_on : goal.returns-in-Ok-false-clause-goes_on
returns-in-Ok-false-clause-goes_on c r =
    let step = c.take-taken.ensures.state ∙ ap (λ s. (taken s c.args.byte).state) c.before-ended.ensures.state in
    subst (λ next. GoesOn c.args.lexer.now next) (sym step) (step_goes_on c.args.lexer.now c.args.byte)

-- what comes of the text, by what was seen of the byte
ended_first : (c : After-before-ended) (text bytes : List ℕ)
    → outcome_after text c.args.spans.now.tokens (run c.args.lexer.now (c.args.byte ∷ bytes))
    ≡ outcome_after text c.args.spans.now.tokens (and_then c.before-ended.result (follow bytes (taken c.before-ended.new.self c.args.byte)))
ended_first c text bytes =
    ap (outcome_after text c.args.spans.now.tokens)
    (run_first c.args.lexer.now c.before-ended.new.self c.args.byte bytes c.before-ended.result c.before-ended.ensures.state c.before-ended.ensures.seen)

pub returns-in-Ok-true-clause-closed : goal.returns-in-Ok-true-clause-closed
returns-in-Ok-true-clause-closed c r text is bytes =
    let at = (goal.at.returns-in-Ok-true-clause-closed c).After-before-ended in
    ended_first at text bytes
    ∙ c.take_seen.ensures.closed (c.in-Ok-true.is ∙ ap Ok c.in-Ok-true.field-0-test) text (ended_shown at text is) (follow bytes (taken c.before-ended.new.self c.args.byte))

pub returns-in-Err-clause-fault : goal.returns-in-Err-clause-fault
returns-in-Err-clause-fault c fault r text is bytes =
    let at = (goal.at.returns-in-Err-clause-fault c).After-before-ended in
    ended_first at text bytes
    ∙ c.take_seen.ensures.fault fault (c.in-Err.is ∙ r) text (ended_shown at text is) (follow bytes (taken c.before-ended.new.self c.args.byte))

-- what comes of the text after what the byte ended, by what the byte made whole
taken_both : (c : After-take-taken) (text bytes : List ℕ) → IsShown text c.args.piece c.args.spans.now.kept.items (token_from c.args.lexer.now)
    → c.take_seen.result ≡ Ok false
    → outcome_after text c.args.spans.now.tokens (run c.args.lexer.now (c.args.byte ∷ bytes))
    ≡ outcome_after text c.take_seen.new.self.tokens (and_then c.take-taken.result (run c.take-taken.new.self bytes))
taken_both c text bytes is went_on =
    ap (outcome_after text c.args.spans.now.tokens)
    (run_both c.args.lexer.now c.before-ended.new.self c.take-taken.new.self c.args.byte bytes c.before-ended.result c.take-taken.result
    c.before-ended.ensures.state c.before-ended.ensures.seen c.take-taken.ensures.state c.take-taken.ensures.seen)
    ∙ c.take_seen.ensures.open went_on text (
      is.0,
      subst (λ seen. AreKept text c.args.piece.start c.args.spans.now.kept.items (seen_from seen)) (sym c.before-ended.ensures.seen)
          (before_from (λ from. slice_range text from c.args.piece.start ≡ c.args.spans.now.kept.items) c.args.piece.start c.args.lexer.now c.args.byte is.1),
    )
    (and_then c.take-taken.result (run c.take-taken.new.self bytes))

pub returns-in-Ok-false-clause-open : goal.returns-in-Ok-false-clause-open
returns-in-Ok-false-clause-open c r text is bytes =
    let at = (goal.at.returns-in-Ok-false-clause-open c).After-take-taken in
    taken_both at text bytes is (c.in-Ok-false.is ∙ ap Ok c.in-Ok-false.field-0-test)
    ∙ c.take_seen-in-Ok-false.ensures.open r text (taken_shown at text is) (run c.take-taken.new.self bytes)

pub returns-in-Ok-false-clause-closed : goal.returns-in-Ok-false-clause-closed
returns-in-Ok-false-clause-closed c r text is bytes =
    let at = (goal.at.returns-in-Ok-false-clause-closed c).After-take-taken in
    taken_both at text bytes is (c.in-Ok-false.is ∙ ap Ok c.in-Ok-false.field-0-test)
    ∙ c.take_seen-in-Ok-false.ensures.closed r text (taken_shown at text is) (run c.take-taken.new.self bytes)

pub returns-in-Ok-false-clause-fault : goal.returns-in-Ok-false-clause-fault
returns-in-Ok-false-clause-fault c fault r text is bytes =
    let at = (goal.at.returns-in-Ok-false-clause-fault c).After-take-taken in
    taken_both at text bytes is (c.in-Ok-false.is ∙ ap Ok c.in-Ok-false.field-0-test)
    ∙ c.take_seen-in-Ok-false.ensures.fault fault r text (taken_shown at text is) (run c.take-taken.new.self bytes)
