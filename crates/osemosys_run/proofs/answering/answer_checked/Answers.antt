use Rattle.osemosys_run.proofs.Common.{◌≡◌, ◌∙◌, ◌∷◌, List, ℕ, Option, ap, map, subst, option_map, IfOk, DueForCheck, DueForProof, DueForProofFile, DueForPage, DueForTable, form_of, bytes_at}
use Rattle.result_pages.specs.FileNames.{last_segment}
use Rattle.result_pages.specs.Pages.{Title}
use Rattle.osemosys_run.proofs.RequestLaws.{as_asked}
use Rattle.osemosys_run.proofs.answering.answer_checked.Goals as goal

pub returns-in-Check : goal.returns-in-Check
returns-in-Check c = λ text.
    let d = c.args.model.now.facts in
    let check = c.in-Check in
    let plan : List ℕ = bytes_at (map (λ bytes. bytes.items) c.args.others.now) 0 in
    as_asked c.args.command _ _ (text ∷ _) _ d c.answer_check.result check.is
    (subst (λ (multipliers : Option (List ℕ)). IfOk c.answer_check.result (λ answer. DueForCheck check.places plan multipliers check.gap d answer.status answer.text.items)) c.bytes_if.ensures
    (subst (λ (bytes : List ℕ). IfOk c.answer_check.result (λ answer. DueForCheck check.places bytes (option_map (λ bytes. bytes.now) c.bytes_if.result) check.gap d answer.status answer.text.items)) c.bytes_at-first.ensures
    c.answer_check.ensures))

pub returns-in-CheckProof : goal.returns-in-CheckProof
returns-in-CheckProof c = λ text.
    let d = c.args.model.now.facts in
    as_asked c.args.command _ _ (text ∷ _) _ d c.answer_proof.result c.in-CheckProof.is
    (subst (λ (proof : List ℕ). IfOk c.answer_proof.result (λ answer. DueForProof c.in-CheckProof.places proof c.in-CheckProof.gap d answer.status answer.text.items)) c.bytes_at-first.ensures c.answer_proof.ensures)

pub returns-in-Table : goal.returns-in-Table
returns-in-Table c = λ text.
    let d = c.args.model.now.facts in
    let table = c.in-Table in
    as_asked c.args.command _ _ (text ∷ _) _ d c.answer_table.result table.is
    (subst
    (λ (proof : List ℕ). IfOk c.answer_table.result (λ answer. DueForTable table.places (λ rows. DueForProofFile table.places d rows proof table.gap) proof table.name.now (form_of table.exact) d answer.status answer.text.items))
    c.bytes_at-first.ensures c.answer_table.ensures)

pub returns-in-Page : goal.returns-in-Page
returns-in-Page c = λ text.
    let d = c.args.model.now.facts in
    let page = c.in-Page in
    let title : Title = record { name = c.last_segment-name.result.now; changes = option_map (λ bytes. bytes.now) c.args.changes } in
    let name : c.last_segment-name.result.now ≡ last_segment page.file.now = c.last_segment-name.ensures ∙ ap last_segment c.as_bytes.ensures.value in
    as_asked c.args.command _ _ (text ∷ _) _ d c.answer_paged.result page.is
    (subst
    (λ (n : List ℕ). IfOk c.answer_paged.result (λ answer. DueForPage (record { name = n; changes = title.changes }) c.args.model.now.rounded page.places (λ rows. DueForProofFile page.places d rows (bytes_at (map (λ bytes. bytes.items) c.args.others.now) 0) page.gap) (bytes_at (map (λ bytes. bytes.items) c.args.others.now) 0) d answer.status answer.text.items))
    name
    (subst (λ (proof : List ℕ). IfOk c.answer_paged.result (λ answer. DueForPage title c.args.model.now.rounded page.places (λ rows. DueForProofFile page.places d rows proof page.gap) proof d answer.status answer.text.items)) c.bytes_at-first.ensures
    c.answer_paged.ensures))
