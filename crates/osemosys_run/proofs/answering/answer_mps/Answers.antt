use Rattle.osemosys_run.proofs.Common.{◌≡◌, inl, inr, IfOk-weaker, MatchResult-at_err, MatchResult-at_ok, Accepted, source_of}
use Rattle.osemosys_run.proofs.ReplyLaws.{equations_own, told_equations}
use Rattle.osemosys_run.proofs.answering.answer_mps.Goals as goal

pub returns-in-Ok : goal.returns-in-Ok
returns-in-Ok c = λ text stands short.
    let d = c.in-Ok.model.facts in
    let found : (accepted : Accepted (source_of text c.args.changes) d) × (c.in-Ok.model.rounded ≡ accepted.rounded) =
    MatchResult-at_ok _ _ c.in-Ok.model c.in-Ok.is (c.in_ok-model.ensures text stands short) in
    record {
      due = λ status line said. inr (d, found.0, said);
      own = λ status line said. equations_own c.args.places d status line said;
      can_be_sent = c.requires.places;
    }

pub returns-in-Err : goal.returns-in-Err
returns-in-Err c = λ text stands short.
    IfOk-weaker c.told.result _ _
    (λ reply is. told_equations (source_of text c.args.changes) c.args.places c.in-Err.answer reply is (inl (MatchResult-at_err _ _ c.in-Err.answer c.in-Err.is (c.in_ok-model.ensures text stands short))))
    c.told.ensures
