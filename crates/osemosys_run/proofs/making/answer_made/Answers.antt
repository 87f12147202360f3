use Rattle.osemosys_run.proofs.Common.{◌≡◌, inr, subst, IfOk-weaker, MatchResult-at_ok, Accepted, plain, DueForSummary, default_places}
use Rattle.osemosys_run.proofs.making.answer_made.Goals as goal

pub returns-in-Ok : goal.returns-in-Ok
returns-in-Ok g c =
    let d = c.in-Ok.model.facts in
    let found : (accepted : Accepted (plain c.args.made.items) d) × (c.in-Ok.model.rounded ≡ accepted.rounded) =
    MatchResult-at_ok _ _ c.in-Ok.model c.in-Ok.is c.in_ok-model.ensures in
    IfOk-weaker c.answer_summary.result _ _
    (λ answer due. inr (d, found.0, subst (λ rounded. DueForSummary default_places rounded d answer.status answer.text.items) found.1 due))
    c.answer_summary.ensures
