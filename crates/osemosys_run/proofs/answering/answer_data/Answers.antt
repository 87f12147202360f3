use Rattle.osemosys_run.proofs.Common.{◌≡◌, ◌∷◌, ℕ, inl, inr, map, subst, IfOk-weaker, MatchResult-at_err, MatchResult-at_ok, Accepted, source_of, question_of, DueOverData}
use Rattle.osemosys_run.proofs.answering.answer_data.Goals as goal

pub returns-in-Ok : goal.returns-in-Ok
returns-in-Ok g c = λ text stands short.
    let d = c.in-Ok.model.facts in
    let found : (accepted : Accepted (source_of text c.args.changes) d) × (c.in-Ok.model.rounded ≡ accepted.rounded) =
    MatchResult-at_ok _ _ c.in-Ok.model c.in-Ok.is (c.in_ok-model.ensures text stands short) in
    IfOk-weaker c.answer_over.result _ _
    (λ answer due.
    inr (
      d,
      found.0,
      subst (λ (rounded : ℕ). DueOverData (question_of c.args.command) (source_of text c.args.changes).changes (text ∷ map (λ bytes. bytes.items) c.args.others.now) rounded d answer.status answer.text.items) found.1 due,
    ))
    (c.answer_over.ensures text)

pub returns-in-Err : goal.returns-in-Err
returns-in-Err g c = λ text stands short. inl (MatchResult-at_err _ _ c.in-Err.answer c.in-Err.is (c.in_ok-model.ensures text stands short))
