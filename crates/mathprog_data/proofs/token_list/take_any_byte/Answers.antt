use Rattle.mathprog_data.proofs.Common.{Ok, ap, ◌∙◌, taken, lexed_run, slices_of, preceded_by}
use Rattle.mathprog_data.proofs.LexingSteps.{follow}
use Rattle.mathprog_data.proofs.TokenRunLemmas.{run_first, run_both}
use Rattle.mathprog_data.proofs.token_list.take_any_byte.Goals as goal

pub returns-in-Ok-false-clause-open : goal.returns-in-Ok-false-clause-open
returns-in-Ok-false-clause-open c r bytes =
    ap (λ x. preceded_by c.args.found.now.items (slices_of c.args.text.now (lexed_run c.args.text.now c.args.closing.now x)))
    (run_both c.args.lexer.now c.before-ended.new.self c.take-taken.new.self c.args.byte bytes c.before-ended.result c.take-taken.result
    c.before-ended.ensures.state c.before-ended.ensures.seen c.take-taken.ensures.state c.take-taken.ensures.seen)
    ∙ c.add_seen.ensures.open (c.in-Ok-false.is ∙ ap Ok c.in-Ok-false.field-0-test) _
    ∙ c.add_seen-in-Ok-false.ensures.open r _

pub returns-in-Ok-false-clause-closed : goal.returns-in-Ok-false-clause-closed
returns-in-Ok-false-clause-closed c r bytes =
    ap (λ x. preceded_by c.args.found.now.items (slices_of c.args.text.now (lexed_run c.args.text.now c.args.closing.now x)))
    (run_both c.args.lexer.now c.before-ended.new.self c.take-taken.new.self c.args.byte bytes c.before-ended.result c.take-taken.result
    c.before-ended.ensures.state c.before-ended.ensures.seen c.take-taken.ensures.state c.take-taken.ensures.seen)
    ∙ c.add_seen.ensures.open (c.in-Ok-false.is ∙ ap Ok c.in-Ok-false.field-0-test) _
    ∙ c.add_seen-in-Ok-false.ensures.closed r _

pub returns-in-Ok-false-clause-fault : goal.returns-in-Ok-false-clause-fault
returns-in-Ok-false-clause-fault c fault r bytes =
    ap (λ x. (lexed_run c.args.text.now c.args.closing.now x).end)
    (run_both c.args.lexer.now c.before-ended.new.self c.take-taken.new.self c.args.byte bytes c.before-ended.result c.take-taken.result
    c.before-ended.ensures.state c.before-ended.ensures.seen c.take-taken.ensures.state c.take-taken.ensures.seen)
    ∙ ap (λ s. s.end) (c.add_seen.ensures.open (c.in-Ok-false.is ∙ ap Ok c.in-Ok-false.field-0-test) _)
    ∙ ap (λ s. s.end) (c.add_seen-in-Ok-false.ensures.fault fault r _)

pub returns-in-Ok-true-clause-closed : goal.returns-in-Ok-true-clause-closed
returns-in-Ok-true-clause-closed c r bytes =
    ap (λ x. preceded_by c.args.found.now.items (slices_of c.args.text.now (lexed_run c.args.text.now c.args.closing.now x)))
    (run_first c.args.lexer.now c.before-ended.new.self c.args.byte bytes c.before-ended.result c.before-ended.ensures.state c.before-ended.ensures.seen)
    ∙ c.add_seen.ensures.closed (c.in-Ok-true.is ∙ ap Ok c.in-Ok-true.field-0-test) (follow bytes (taken c.before-ended.new.self c.args.byte))

pub returns-in-Err-clause-fault : goal.returns-in-Err-clause-fault
returns-in-Err-clause-fault c fault r bytes =
    ap (λ x. (lexed_run c.args.text.now c.args.closing.now x).end)
    (run_first c.args.lexer.now c.before-ended.new.self c.args.byte bytes c.before-ended.result c.before-ended.ensures.state c.before-ended.ensures.seen)
    ∙ ap (λ s. s.end) (c.add_seen.ensures.fault fault (c.in-Err.is ∙ r) (follow bytes (taken c.before-ended.new.self c.args.byte)))
