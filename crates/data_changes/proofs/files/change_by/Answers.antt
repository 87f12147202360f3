use Rattle.data_changes.proofs.Common.{◌≡◌, ◌∙◌, ◌+◌, Ok, ap, map, subst, sym, ℕ}
use Rattle.std.proofs.lemmas.Result.{err_from_is_err_and}
use Rattle.csv.specs.Records.{fields_of}
use Rattle.model_sets.specs.Members.{SetLists}
use Rattle.param_tables.specs.Built.{Built}
use Rattle.param_tables.specs.ChangeTold.{change_told}
use Rattle.param_tables.specs.Changes.{rounded_by}
use Rattle.plan_files.specs.Files.{Fields}
use Rattle.data_changes.specs.Records.{change_in}
use Rattle.data_changes.specs.Told.{IsRecordStopDue, told_of}
use Rattle.data_changes.proofs.StepLaws.{fail_after, none_rounded, one_rounded, record_made, stop_after}
use Rattle.data_changes.proofs.files.change_by.Goals as goal
use Rattle.data_changes.proofs.files.change_by.Goals.{then-told+in_ok-count_rounded, else-told}

pub returns-in_err-told-clause-refused : goal.returns-in_err-told-clause-refused
returns-in_err-told-clause-refused c =
    let old = c.args.opened.now in
    let names = map (λ name. name.now) c.args.header.now in
    let fields : map (λ field. field.now) c.as_slice.result.now ≡ fields_of c.args.record.now = ap (λ fs. map (λ field. field.now) fs) c.as_slice.ensures.value ∙ c.in_ok-fields.ensures in
    let stop = c.in_err-told.field-0.0 in
    let p = err_from_is_err_and c.from_residual-in_err-told.result c.from_residual-in_err-told.ensures.1 in
    rw (p.1, p.2)
    (stop_after old names (fields_of c.args.record.now) old.facts.sets stop
    (subst (λ (lists : SetLists). IsRecordStopDue (change_in old.facts names (fields_of c.args.record.now)) lists stop) c.sets.ensures.sets
    (subst (λ (r : Fields). IsRecordStopDue (change_in old.facts names r) c.sets.result.now stop) fields
    (c.in_err-told.ensures.refused old.facts (sym c.sets.ensures.sets) (sym c.second.ensures)))))

pub apply-requires : goal.apply-requires
apply-requires c = c.in_ok-told.ensures.of c.args.opened.now.facts (sym c.sets.ensures.sets) (sym c.second.ensures)

pub returns-in_err-apply-clause-refused : goal.returns-in_err-apply-clause-refused
returns-in_err-apply-clause-refused c =
    let old = c.args.opened.now in
    let told = c.in_ok-told.told in
    let names = map (λ name. name.now) c.args.header.now in
    let fields : map (λ field. field.now) c.as_slice.result.now ≡ fields_of c.args.record.now = ap (λ fs. map (λ field. field.now) fs) c.as_slice.ensures.value ∙ c.in_ok-fields.ensures in
    let read =
    ap (λ (r : Fields). change_in old.facts names r) (sym fields)
    ∙ c.in_ok-told.ensures.change old.facts (sym c.sets.ensures.sets) (sym c.second.ensures)
    ∙ ap (λ (lists : SetLists). Ok (told_of lists told)) c.sets.ensures.sets in
    let p = err_from_is_err_and c.from_residual-in_err-apply.result c.from_residual-in_err-apply.ensures.1 in
    rw (p.1, p.2) (fail_after old names (fields_of c.args.record.now) (told_of old.facts.sets told) read old.facts.sets c.in_err-apply.field-0.0 c.in_err-apply.ensures.refused)

pub returns-clause-changed : goal.returns-clause-changed
returns-clause-changed c =
    let old = c.args.opened.now in
    let told = c.in_ok-told.told in
    let names = map (λ name. name.now) c.args.header.now in
    let fields : map (λ field. field.now) c.as_slice.result.now ≡ fields_of c.args.record.now = ap (λ fs. map (λ field. field.now) fs) c.as_slice.ensures.value ∙ c.in_ok-fields.ensures in
    let read =
    ap (λ (r : Fields). change_in old.facts names r) (sym fields)
    ∙ c.in_ok-told.ensures.change old.facts (sym c.sets.ensures.sets) (sym c.second.ensures)
    ∙ ap (λ (lists : SetLists). Ok (told_of lists told)) c.sets.ensures.sets in
    let built = c.in_ok-apply.ensures.changed in
    let more = rounded_by old.facts (change_told old.facts.sets told.change) in
    record_made old names (fields_of c.args.record.now) (told_of old.facts.sets told) read c.if-told.opened c.in_ok-apply.ensures.accepted
    (elim c.if-told.branch [
      | then-told+in_ok-count_rounded w ↦ ap (λ (b : Built). b.facts) w.opened-is ∙ w.in_ok-count_rounded.ensures.facts ∙ built.facts
      | else-told w ↦ ap (λ (b : Built). b.facts) w.opened-is ∙ built.facts
    ])
    (elim c.if-told.branch [
      | then-told+in_ok-count_rounded w ↦
          ap (λ (b : Built). b.rounded) w.opened-is
          ∙ w.in_ok-count_rounded.ensures.counted
          ∙ ap (λ (n : ℕ). n + 1) built.rounded
          ∙ one_rounded old.rounded more told.rounded w.if-told.true
      | else-told w ↦ ap (λ (b : Built). b.rounded) w.opened-is ∙ built.rounded ∙ none_rounded old.rounded more told.rounded w.if-told.false
    ])
