use Rattle.osemosys_run.proofs.Common.{◌≡◌, inl, inr, refl, MatchResult-at_err, MatchResult-at_ok, Accepted, source_of}
use Rattle.osemosys_run.proofs.JudgedScenarios.{kept, refused-not_done}
use Rattle.osemosys_run.proofs.compared.judge.Goals as goal

pub returns-in-Ok-2 : goal.returns-in-Ok-2
returns-in-Ok-2 c = λ text stands short.
    let d = c.in-Ok.model.facts in
    let found : (accepted : Accepted (source_of text c.args.changes) d) × (c.in-Ok.model.rounded ≡ accepted.rounded) =
    MatchResult-at_ok _ _ c.in-Ok.model c.in-Ok.is (c.in_ok-model.ensures text stands short) in
    let over = MatchResult-at_ok _ _ c.in-Ok-2.kept c.in-Ok-2.is c.in_ok-kept-in-Ok.ensures in
    kept c.args.asked.show c.args.asked.places c.args.asked.gap (source_of text c.args.changes) c.args.pair.proof.now d d.sets c.in-Ok-2.kept.accepted c.in-Ok-2.kept.tables.items found.0 refl over

pub returns-in-Err-2 : goal.returns-in-Err-2
returns-in-Err-2 c = λ text stands short.
    let d = c.in-Ok.model.facts in
    let found : (accepted : Accepted (source_of text c.args.changes) d) × (c.in-Ok.model.rounded ≡ accepted.rounded) =
    MatchResult-at_ok _ _ c.in-Ok.model c.in-Ok.is (c.in_ok-model.ensures text stands short) in
    let over = MatchResult-at_err _ _ c.in-Err-2.said c.in-Err-2.is c.in_ok-kept-in-Ok.ensures in
    record { due = inr (d, found.0, over.due); not_done = over.not_done }

pub returns-in-Err : goal.returns-in-Err
returns-in-Err c = λ text stands short.
    let none = MatchResult-at_err _ _ c.in-Err.said c.in-Err.is (c.in_ok-model.ensures text stands short) in
    record { due = inl none; not_done = refused-not_done (source_of text c.args.changes) c.in-Err.said.status c.in-Err.said.text.items none }
