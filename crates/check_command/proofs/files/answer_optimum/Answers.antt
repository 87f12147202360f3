use Rattle.check_command.proofs.Common.{Some, subst, sym, Optimum, HasWorth}
use Rattle.check_command.proofs.DueOfPlans.{due-from_outcome, worth-from_outcome}
use Rattle.check_command.proofs.files.answer_optimum.Goals as goal

pub answer_outcome-requires : goal.answer_outcome-requires
answer_outcome-requires c = c.in_ok-outcome.ensures.within c.args.sets.now c.requires

pub returns-clause-due : goal.returns-clause-due
returns-clause-due c = λ places d same book.
    due-from_outcome places d c.args.book.now.rows c.args.plan.now (Some c.args.multipliers.now) c.args.gap c.args.sets.now c.in_ok-outcome.outcome c.in_ok-answer.answer.status c.in_ok-answer.answer.text.items same
    (c.in_ok-outcome.ensures.outcome places d book) c.in_ok-answer.ensures

pub returns-clause-worth : goal.returns-clause-worth
returns-clause-worth c = λ places d book done.
    subst (HasWorth d c.args.book.now.rows (Optimum c.args.plan.now c.args.multipliers.now)) (sym c.worth_of.ensures)
    (worth-from_outcome places d c.args.book.now.rows c.args.plan.now c.args.multipliers.now c.args.gap c.args.sets.now c.in_ok-outcome.outcome c.in_ok-answer.answer.status c.in_ok-answer.answer.text.items
    (c.in_ok-outcome.ensures.outcome places d book) c.in_ok-answer.ensures done)
