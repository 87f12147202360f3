use Rattle.osemosys_run.proofs.Common.{inl, IfOk-weaker, MatchResult-at_err, MatchResult-at_ok, First}
use Rattle.osemosys_run.specs.Scenarios.{first_source}
use Rattle.osemosys_run.proofs.JudgedScenarios.{refused}
use Rattle.osemosys_run.proofs.compared.answer_pairs.Goals as goal

pub judge-requires-clause-stands : goal.judge-requires-clause-stands
judge-requires-clause-stands c = (c.requires.first.0, c.requires.first.1)

pub answer_second-requires-clause-first : goal.answer_second-requires-clause-first
answer_second-requires-clause-first c =
    let own = c.requires.first in
    let kept = MatchResult-at_ok _ _ c.in-Ok.one c.in-Ok.is (c.in_ok-one.ensures own.0 own.1 own.2) in
    (kept.judged, kept.of)

pub returns-in-Ok : goal.returns-in-Ok
returns-in-Ok c = λ text text2 stands short stands2 short2.
    let kept = MatchResult-at_ok _ _ c.in-Ok.one c.in-Ok.is (c.in_ok-one.ensures text stands short) in
    c.answer_second.ensures text c.args.first.proof.now text2 kept stands2 short2

pub returns-in-Err : goal.returns-in-Err
returns-in-Err c = λ text text2 stands short stands2 short2.
    let unkept = MatchResult-at_err _ _ c.in-Err.said c.in-Err.is (c.in_ok-one.ensures text stands short) in
    IfOk-weaker c.refuse_scenario.result _ _
    (λ answer told. inl (refused c.args.asked.places c.args.asked.gap (first_source text c.args.asked) c.args.first.proof.now First c.in-Err.said.status c.in-Err.said.text.items answer.status answer.text.items unkept told.0 told.1))
    c.refuse_scenario.ensures
