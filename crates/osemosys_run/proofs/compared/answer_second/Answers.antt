use Rattle.osemosys_run.proofs.Common.{inl, inr, sym, subst, IfOk-weaker, MatchResult-at_err, MatchResult-at_ok, SetLists, AreTablesFor, IsOf, Second}
use Rattle.osemosys_run.specs.Scenarios.{second_source}
use Rattle.osemosys_run.proofs.JudgedScenarios.{refused}
use Rattle.osemosys_run.proofs.compared.answer_second.Goals as goal

pub judge-requires-clause-stands : goal.judge-requires-clause-stands
judge-requires-clause-stands c = (c.requires.second.0, c.requires.second.1)

pub answer_compare-requires-clause-first : goal.answer_compare-requires-clause-first
answer_compare-requires-clause-first c =
    let own = c.requires.first in
    (own.0.data_of, own.0.rows, own.1.worth)

pub answer_compare-requires-clause-second : goal.answer_compare-requires-clause-second
answer_compare-requires-clause-second c =
    let own = c.requires.second in
    let kept = MatchResult-at_ok _ _ c.in-Ok.two c.in-Ok.is (c.in_ok-two.ensures own.0 own.1 own.2) in
    (kept.judged.data_of, kept.judged.rows, kept.of.worth)

pub returns-in-Ok : goal.returns-in-Ok
returns-in-Ok c = λ text proof text2 kept stands2 short2.
    let kept2 = MatchResult-at_ok _ _ c.in-Ok.two c.in-Ok.is (c.in_ok-two.ensures text2 stands2 short2) in
    let asked = c.args.asked in
    let of = subst (λ (sets : SetLists). IsOf kept.judged sets c.args.one.now.kept.accepted) (sym c.sets.ensures.sets) kept.of in
    let of2 = subst (λ (sets : SetLists). IsOf kept2.judged sets c.in-Ok.two.kept.accepted) (sym c.sets-in-Ok.ensures.sets) kept2.of in
    let tabled = subst (AreTablesFor asked.show asked.places kept.judged.data_of kept.judged.rows kept.judged.proof) (sym c.as_slice.ensures.value) kept.tabled in
    let tabled2 = subst (AreTablesFor asked.show asked.places kept2.judged.data_of kept2.judged.rows kept2.judged.proof) (sym c.as_slice-in-Ok.ensures.value) kept2.tabled in
    IfOk-weaker c.answer_compare.result _ _
    (λ answer compares.
    inr (inr (record {
      one = kept.judged;
      two = kept2.judged;
      first = kept.is;
      second = kept2.is;
      compares = compares;
    })))
    (c.answer_compare.ensures asked.places kept.judged kept2.judged of tabled of2 tabled2)

pub returns-in-Err : goal.returns-in-Err
returns-in-Err c = λ text proof text2 kept stands2 short2.
    let unkept = MatchResult-at_err _ _ c.in-Err.said c.in-Err.is (c.in_ok-two.ensures text2 stands2 short2) in
    IfOk-weaker c.refuse_scenario.result _ _
    (λ answer told.
    inr (inl (record {
      one = kept.judged;
      first = kept.is;
      refused = refused c.args.asked.places c.args.asked.gap (second_source text2 c.args.asked) c.args.second.proof.now Second c.in-Err.said.status c.in-Err.said.text.items answer.status answer.text.items unkept told.0 told.1;
    })))
    c.refuse_scenario.ensures
