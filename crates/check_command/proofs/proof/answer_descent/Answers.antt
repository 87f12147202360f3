use Rattle.check_command.proofs.Common.{IfOk-weaker, codes}
use Rattle.check_command.proofs.ProofLaws.{due-from_verdict}
use Rattle.check_command.proofs.proof.answer_descent.Goals as goal

pub answer_verdict-requires : goal.answer_verdict-requires
answer_verdict-requires c = c.judge_descent-verdict.ensures.within c.args.sets.now c.requires

pub returns : goal.returns
returns c = λ places d same book.
    IfOk-weaker c.answer_verdict.result _ _
    (λ answer told. due-from_verdict d _ _ (codes "accepted unbounded") c.args.sets.now c.judge_descent-verdict.result answer.status answer.text.items same (c.judge_descent-verdict.ensures.judged places d book) told)
    c.answer_verdict.ensures
