use Rattle.command_answers.proofs.Common.{inr, IfOk-weaker, MatchResult-weaker}
use Rattle.command_answers.proofs.accepting.accept_blocks.Goals as goal

pub returns-in-Ok : goal.returns-in-Ok
returns-in-Ok c =
    IfOk-weaker c.accept_data.result _ _
    (λ verdict due. MatchResult-weaker verdict due (λ model same. (c.in-Ok.ensures.accepted, same.0, same.1, same.2)) (λ answer refused. inr refused))
    c.accept_data.ensures
