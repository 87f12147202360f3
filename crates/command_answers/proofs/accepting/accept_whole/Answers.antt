use Rattle.command_answers.proofs.Common.{inl, subst, ap, sym, IfOk-weaker, MatchResult-at_err, MatchResult-at_ok, MatchResult-weaker, Blocks, Says, blocks_told}
use Rattle.std.specs.Option.{option_map}
use Rattle.command_answers.proofs.Acceptance.{accepted_so, refused_so}
use Rattle.command_answers.proofs.accepting.accept_whole.Goals as goal

pub returns-in-Ok : goal.returns-in-Ok
returns-in-Ok c = λ text stands short.
    let found = MatchResult-at_ok _ _ c.in-Ok.whole c.in-Ok.is (c.in_ok-whole.ensures text stands short) in
    let changes = option_map (λ bytes. bytes.now) c.args.changes in
    let model = c.in-Ok.whole.model in
    let says : Says text (blocks_told c.in-Ok.whole.blocks) = subst (λ (blocks : Blocks). Says text blocks) found.2 found.0.says in
    IfOk-weaker c.change_whole.result _ _
    (λ verdict due. MatchResult-weaker verdict due
    (λ changed same.
    let accepted = accepted_so text changes found.0 model changed.model found.1 same.0 in
    (accepted.0, accepted.1, subst (λ kept. Says text (blocks_told kept)) (sym same.1) says))
    (λ answer refused. refused_so text changes found.0 model answer.status answer.text.items found.1 refused))
    c.change_whole.ensures

pub returns-in-Err : goal.returns-in-Err
returns-in-Err c = λ text stands short. inl (MatchResult-at_err _ _ c.in-Err.answer c.in-Err.is (c.in_ok-whole.ensures text stands short))
