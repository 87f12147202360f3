use Rattle.command_answers.proofs.Common.{MatchResult-at_err, MatchResult-at_ok}
use Rattle.command_answers.proofs.accepting.accept_file.Goals as goal

pub returns-in-Ok : goal.returns-in-Ok
returns-in-Ok c = λ text stands short.
    let found = MatchResult-at_ok _ _ c.in-Ok.whole c.in-Ok.is (c.in_ok-whole.ensures text stands short) in
    (found.0, found.1)

pub returns-in-Err : goal.returns-in-Err
returns-in-Err c = λ text stands short. MatchResult-at_err _ _ c.in-Err.answer c.in-Err.is (c.in_ok-whole.ensures text stands short)
