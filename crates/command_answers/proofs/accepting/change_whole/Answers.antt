use Rattle.command_answers.proofs.Common.{refl, MatchResult-at_err, MatchResult-at_ok}
use Rattle.command_answers.proofs.accepting.change_whole.Goals as goal

pub returns-in-Ok : goal.returns-in-Ok
returns-in-Ok c = (MatchResult-at_ok _ _ c.in-Ok.model c.in-Ok.is c.in_ok-model.ensures, refl)

pub returns-in-Err : goal.returns-in-Err
returns-in-Err c = MatchResult-at_err _ _ c.in-Err.answer c.in-Err.is c.in_ok-model.ensures
