use Rattle.command_answers.proofs.Common.{◌≡◌, ap₂, refl, MatchResult-at_err, MatchResult-at_ok, blocks_told}
use Rattle.command_answers.proofs.accepting.whole_of.Goals as goal

pub returns-in-Ok : goal.returns-in-Ok
returns-in-Ok c =
    let same = MatchResult-at_ok _ _ c.in-Ok.model c.in-Ok.is c.in_ok-model.ensures in
    (same.0, same.1, ap₂ (λ facts rounded. record { facts = facts; rounded = rounded }) same.2 same.3, refl)

pub returns-in-Err : goal.returns-in-Err
returns-in-Err c = MatchResult-at_err _ _ c.in-Err.answer c.in-Err.is c.in_ok-model.ensures
