use Rattle.osemosys_run.proofs.Common.{◌≡◌, ◌++◌, List, ℕ, sym, subst, IfOk-weaker, MakeShow, DueForMake, DueForText, plain, DueForSummary, default_places, made_line}
use Rattle.osemosys_run.proofs.making.perform_make.Goals as goal

pub returns-in-Summary : goal.returns-in-Summary
returns-in-Summary g c =
    IfOk-weaker c.summarize.result _ _
    (λ answer told. subst (λ (show : MakeShow). DueForMake c.args.size show answer.status answer.text.items) (sym c.in-Summary.is)
    (subst (λ (made : List ℕ). (rest : List ℕ) × DueForText (DueForSummary default_places) (plain made) answer.status rest × (answer.text.items ≡ made_line c.args.size ++ rest)) c.in_ok-text.ensures.text told))
    c.summarize.ensures
