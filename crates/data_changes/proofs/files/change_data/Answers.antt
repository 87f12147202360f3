use Rattle.data_changes.proofs.Common.{◌≡◌, ◌∙◌, Err, Result, ap, map, refl, subst, sym, false, true}
use Rattle.csv.specs.Records.{fields_of}
use Rattle.plan_files.specs.Files.{Fields, records_of}
use Rattle.plan_files.specs.Reading.{IsNext}
use Rattle.data_changes.specs.Columns.{is_header}
use Rattle.data_changes.specs.Files.{after_file, after_record}
use Rattle.data_changes.specs.Told.{IsChangesFailDue, IsRecordStopDue, fail_of}
use Rattle.data_changes.specs.declared.fault.ChangesFail.{ChangesFail}
use Rattle.data_changes.specs.declared.fault.RecordStop.{RecordStop}
use Rattle.data_changes.specs.declared.fault.RecordStop.TheVariants as stops
use Rattle.data_changes.proofs.FileLaws.{all_made, bad_header, begun, made_more, no_header, stopped}
use Rattle.data_changes.proofs.files.change_data.Goals as goal

pub returns-then-not-branch-clause-refused : goal.returns-then-not-branch-clause-refused
returns-then-not-branch-clause-refused c =
    let old = c.args.opened.now in
    let text = c.args.text.now in
    let next : IsNext c.next_record.new.reader (records_of text) false (fields_of c.next_record.new.fields) = rw c.if-not-branch.true at (c.in_ok-next_record.ensures (records_of text) c.reader_of-reader.ensures) in
    subst (λ (fail : ChangesFail). IsChangesFailDue (after_file old text) old.facts.sets fail) (sym c.fault_at.ensures) (no_header old text next, tt)

pub returns-then-not-is_header-clause-refused : goal.returns-then-not-is_header-clause-refused
returns-then-not-is_header-clause-refused c =
    let old = c.args.opened.now in
    let text = c.args.text.now in
    let r : Fields = fields_of c.next_record.new.fields in
    let next : IsNext c.next_record.new.reader (records_of text) true r = rw c.if-not-branch.false at (c.in_ok-next_record.ensures (records_of text) c.reader_of-reader.ensures) in
    let is : is_header r ≡ false = ap is_header (sym c.in_ok-header.ensures) ∙ ap (λ fs. is_header (map (λ field. field.now) fs)) (sym c.as_slice.ensures.value) ∙ sym c.is_header.ensures ∙ c.if-not-is_header.true in
    subst (λ (fail : ChangesFail). IsChangesFailDue (after_file old text) old.facts.sets fail) (sym c.fault_at-then-not-is_header.ensures) (bad_header old text r next.0 next.1 is, tt)

pub loop-number-init : goal.loop-number-init
loop-number-init c =
    let text = c.args.text.now in
    let r : Fields = fields_of c.next_record.new.fields in
    let next : IsNext c.next_record.new.reader (records_of text) true r = rw c.if-not-branch.false at (c.in_ok-next_record.ensures (records_of text) c.reader_of-reader.ensures) in
    let is : is_header (map (λ name. name.now) c.in_ok-header.header.items) ≡ true = ap (λ fs. is_header (map (λ field. field.now) fs)) (sym c.as_slice.ensures.value) ∙ sym c.is_header.ensures ∙ c.if-not-is_header.false in
    begun c.args.opened.now text (map (λ name. name.now) c.in_ok-header.header.items) r c.next_record.new.reader c.in_ok-header.ensures is next

-- the stop that a result is
one_err : (left right : Result (Unit {0}) RecordStop) (a b : RecordStop) → left ≡ Err a → right ≡ Err b → left ≡ right → a ≡ b
one_err left right a b is other same = cc (is, other, same)

pub returns-in_err-next_record-2-clause-sets : goal.returns-in_err-next_record-2-clause-sets
returns-in_err-next_record-2-clause-sets c other = c.loop-number.invariant.sets

pub returns-then-not-branch-2-clause-changed : goal.returns-then-not-branch-2-clause-changed
returns-then-not-branch-2-clause-changed c =
    let far = c.loop-number.invariant in
    let r : Fields = fields_of c.next_record-in-loop-number.new.fields in
    let next : IsNext c.next_record-in-loop-number.new.reader far.later false r = rw c.if-not-branch-2.true at (c.in_ok-next_record-2.ensures far.later far.left) in
    all_made c.args.opened.now c.args.text.now (map (λ name. name.now) c.in_ok-header.header.items) c.loop-number.number c.loop-number.opened c.loop-number.reader c.next_record-in-loop-number.new.reader far r next

pub returns-then-not-branch-2-clause-sets : goal.returns-then-not-branch-2-clause-sets
returns-then-not-branch-2-clause-sets c other = c.loop-number.invariant.sets

pub returns-in-Err-clause-sets : goal.returns-in-Err-clause-sets
returns-in-Err-clause-sets c other =
    c.in-Err.ensures.sets (λ is. other (ap Err (c.fail_at.ensures ∙ ap (fail_of c.loop-number.number) (one_err (Err c.in-Err.stop) (Err stops.Memory) c.in-Err.stop stops.Memory refl refl is))))
    ∙ c.loop-number.invariant.sets

pub returns-in-Err-clause-refused : goal.returns-in-Err-clause-refused
returns-in-Err-clause-refused c =
    let old = c.args.opened.now in
    let text = c.args.text.now in
    let now = c.loop-number.opened in
    let far = c.loop-number.invariant in
    let names = map (λ name. name.now) c.in_ok-header.header.items in
    let r : Fields = fields_of c.next_record-in-loop-number.new.fields in
    let next : IsNext c.next_record-in-loop-number.new.reader far.later true r = rw c.if-not-branch-2.false at (c.in_ok-next_record-2.ensures far.later far.left) in
    let here : IsRecordStopDue (after_record now names r) now.facts.sets c.in-Err.stop = subst (λ fs. IsRecordStopDue (after_record now (map (λ name. name.now) fs) r) now.facts.sets c.in-Err.stop) c.as_slice-in-loop-number.ensures.value c.in-Err.ensures.refused in
    subst (λ (fail : ChangesFail). IsChangesFailDue (after_file old text) old.facts.sets fail) (sym c.fail_at.ensures)
    (stopped old text names c.loop-number.number now c.loop-number.reader c.next_record-in-loop-number.new.reader far r next c.in-Err.stop here)

pub loop-number-preserved : goal.loop-number-preserved
loop-number-preserved c =
    let far = c.loop-number.invariant in
    let names = map (λ name. name.now) c.in_ok-header.header.items in
    let r : Fields = fields_of c.next_record-in-loop-number.new.fields in
    let next : IsNext c.next_record-in-loop-number.new.reader far.later true r = rw c.if-not-branch-2.false at (c.in_ok-next_record-2.ensures far.later far.left) in
    made_more c.args.opened.now c.args.text.now names c.loop-number.number c.loop-number.opened c.loop-number.reader c.next_record-in-loop-number.new.reader far r next c.change_by.new.opened
    (ap (λ fs. after_record c.loop-number.opened (map (λ name. name.now) fs) r) (sym c.as_slice-in-loop-number.ensures.value) ∙ c.in-Ok.ensures.changed) (c.in-Ok.ensures.sets (λ is. absurd (cc is)))

pub returns-clause-sets : goal.returns-clause-sets
returns-clause-sets c other = c.loop-number.invariant.sets
