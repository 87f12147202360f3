use Rattle.check_command.proofs.Common.{option_map, IfOk-weaker}
use Rattle.check_command.proofs.DueOfPlans.{due-from_outcome}
use Rattle.check_command.proofs.files.answer_values.Goals as goal

pub answer_outcome-requires : goal.answer_outcome-requires
answer_outcome-requires c = c.in_ok-outcome.ensures.within c.args.sets.now c.requires

pub returns : goal.returns
returns c = λ places d same book.
    IfOk-weaker c.answer_outcome.result _ _
    (λ answer told.
    due-from_outcome places d c.args.book.now.rows c.args.plan.now (option_map (λ m. m.now) c.args.multipliers) c.args.gap c.args.sets.now c.in_ok-outcome.outcome answer.status answer.text.items same
    (c.in_ok-outcome.ensures.outcome places d book) told)
    c.answer_outcome.ensures
