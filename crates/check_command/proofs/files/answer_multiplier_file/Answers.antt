use Rattle.check_command.proofs.Common.{◌≡◌, inl, inr, Some, refl, sym, ◌∙◌, ap, subst, option_map, map, IfOk, IfOk-weaker, instances, AreMultipliers, IsFailOf, IsMultiplierFault, records_of, name_of_row, DueForMultiplierFile, multiplier_fault_line}
use Rattle.check_command.proofs.CheckFiles.{names-are}
use Rattle.check_command.proofs.files.answer_multiplier_file.Goals as goal

pub returns-in-Ok : goal.returns-in-Ok
returns-in-Ok c = λ places d same book.
    let rows = c.args.book.now.rows in
    let plan = c.args.plan.now in
    let text = c.in-Some.text.now in
    let found = c.in-Ok.multipliers in
    let names : map name_of_row c.rows.result.now ≡ instances d = ap (map name_of_row) c.rows.ensures.rows ∙ names-are places d (instances d) rows book.are_rows in
    let told : AreMultipliers d.sets (instances d) (records_of text) found =
    subst (λ sets. AreMultipliers sets (instances d) (records_of text) found) same
    (subst (λ ns. AreMultipliers c.args.sets.now ns (records_of text) found) names c.in-Ok.ensures.multipliers) in
    subst (λ bytes. IfOk c.answer_values-in-Ok.result (λ answer. DueForMultiplierFile places d rows plan bytes c.args.claim.gap answer.status answer.text.items)) (sym (ap (option_map (λ text. text.now)) c.in-Some.is))
    (IfOk-weaker c.answer_values-in-Ok.result _ _ (λ answer due. inr (Some found, (found, refl, told), due)) (c.answer_values-in-Ok.ensures places d same book))

pub returns-in-Err-Fault : goal.returns-in-Err-Fault
returns-in-Err-Fault c = λ places d same book.
    let rows = c.args.book.now.rows in
    let plan = c.args.plan.now in
    let text = c.in-Some.text.now in
    let fault = c.in-Err-Fault.fault in
    let names : map name_of_row c.rows.result.now ≡ instances d = ap (map name_of_row) c.rows.ensures.rows ∙ names-are places d (instances d) rows book.are_rows in
    let first : IsMultiplierFault d.sets (instances d) (records_of text) fault =
    subst (λ sets. IsMultiplierFault sets (instances d) (records_of text) fault) same
    (subst (λ ns. IsMultiplierFault c.args.sets.now ns (records_of text) fault) names (subst (IsFailOf (IsMultiplierFault c.args.sets.now (map name_of_row c.rows.result.now) (records_of text))) c.in-Err-Fault.field-0-is c.in-Err-Fault.ensures.fault)) in
    subst (λ bytes. IfOk c.refuse_multipliers.result (λ answer. DueForMultiplierFile places d rows plan bytes c.args.claim.gap answer.status answer.text.items)) (sym (ap (option_map (λ text. text.now)) c.in-Some.is))
    (IfOk-weaker c.refuse_multipliers.result _ _ (λ answer told. inl (text, refl, record { fault = fault; first = first; status_is = told.0; line_is = told.1 ∙ ap (λ sets. multiplier_fault_line sets fault) same })) c.refuse_multipliers.ensures)
