use Rattle.osemosys_run.proofs.Common.{◌≡◌, ◌∷◌, ℕ, List, inl, inr, subst, IfOk-weaker, MatchResult-at_err, MatchResult-at_ok, Accepted, source_of}
use Rattle.mathprog_data.specs.BlocksView.{blocks_told}
use Rattle.mathprog_data.specs.Verdicts.{Says}
use Rattle.osemosys_run.specs.Warned.{IsWarned}
use Rattle.osemosys_run.proofs.warned.answer_warned.Goals as goal

pub returns-in-Ok : goal.returns-in-Ok
returns-in-Ok c = λ text stands short.
    let whole = c.in-Ok.whole in
    let d = whole.model.facts in
    let found : (accepted : Accepted (source_of text c.args.changes) d) × (whole.model.rounded ≡ accepted.rounded) × Says text (blocks_told whole.blocks) =
    MatchResult-at_ok _ _ whole c.in-Ok.is (c.in_ok-whole.ensures text stands short) in
    IfOk-weaker c.warned.result _ _
    (λ answer due. inr (d, found.0, subst (λ (rounded : ℕ). IsWarned text rounded d answer.status answer.text.items) found.1 due))
    (c.warned.ensures text found.2)

pub returns-in-Err : goal.returns-in-Err
returns-in-Err c = λ text stands short. inl (MatchResult-at_err _ _ c.in-Err.answer c.in-Err.is (c.in_ok-whole.ensures text stands short))
