use Rattle.command_answers.proofs.Common.{inl, IfOk-weaker, MatchResult-at_err, MatchResult-at_ok, MatchResult-weaker}
use Rattle.std.specs.Option.{option_map}
use Rattle.command_answers.proofs.Acceptance.{accepted_so, refused_so}
use Rattle.command_answers.proofs.accepting.accept_read.Goals as goal

pub returns-in-Ok : goal.returns-in-Ok
returns-in-Ok c = λ text stands short.
    let found = MatchResult-at_ok _ _ c.in-Ok.model c.in-Ok.is (c.in_ok-model.ensures text stands short) in
    let changes = option_map (λ bytes. bytes.now) c.args.changes in
    IfOk-weaker c.accept_changes.result _ _
    (λ verdict due. MatchResult-weaker verdict due
    (λ changed same. accepted_so text changes found.0 c.in-Ok.model changed found.1 same)
    (λ answer refused. refused_so text changes found.0 c.in-Ok.model answer.status answer.text.items found.1 refused))
    c.accept_changes.ensures

pub returns-in-Err : goal.returns-in-Err
returns-in-Err c = λ text stands short. inl (MatchResult-at_err _ _ c.in-Err.answer c.in-Err.is (c.in_ok-model.ensures text stands short))
