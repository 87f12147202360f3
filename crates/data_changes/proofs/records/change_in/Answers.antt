use Rattle.data_changes.proofs.Common.{◌≡◌, ◌∙◌, IfErr, IfOk, Ok, Result, ap, codes, length, length-map, map, subst, sym}
use Rattle.model_sets.specs.Members.{SetLists}
use Rattle.data_changes.specs.Columns.{columns_of, field_in, names_in_others, subscript_columns}
use Rattle.data_changes.specs.Faults.{RecordFault}
use Rattle.data_changes.specs.Records.{ToldChange, change_in, change_of, used_number}
use Rattle.data_changes.specs.Told.{IsRecordStopDue, told_of}
use Rattle.data_changes.proofs.ChangeLaws.{change_long, change_named, change_stray, change_unnamed}
use Rattle.data_changes.proofs.records.change_in.Goals as goal

pub returns-then-record-header-clause-refused : goal.returns-then-record-header-clause-refused
returns-then-record-header-clause-refused c =
    λ d sets second.
    let names = map (λ name. name.now) c.args.header.now in
    let fields = map (λ field. field.now) c.args.record.now in
    (change_long d names fields (λ same. c.if-record-header.true (sym (length-map c.args.record.now (λ field. field.now)) ∙ same ∙ length-map c.args.header.now (λ name. name.now))), tt)

pub returns-in_default-clause-refused : goal.returns-in_default-clause-refused
returns-in_default-clause-refused c =
    λ d sets second.
    let names = map (λ name. name.now) c.args.header.now in
    let fields = map (λ field. field.now) c.args.record.now in
    let same : length fields ≡ length names = length-map c.args.record.now (λ field. field.now) ∙ c.if-record-header.false ∙ sym (length-map c.args.header.now (λ name. name.now)) in
    (change_unnamed d names fields same (ap (λ s. used_number s (field_in names fields (codes "NAME"))) second ∙ ap (used_number c.args.second) (sym c.field_in.ensures) ∙ sym c.used_number.ensures.number ∙ c.in_default.is), tt)

pub returns-then-has_stray-clause-refused : goal.returns-then-has_stray-clause-refused
returns-then-has_stray-clause-refused c =
    λ d sets second.
    let names = map (λ name. name.now) c.args.header.now in
    let fields = map (λ field. field.now) c.args.record.now in
    let same : length fields ≡ length names = length-map c.args.record.now (λ field. field.now) ∙ c.if-record-header.false ∙ sym (length-map c.args.header.now (λ name. name.now)) in
    let named = ap (λ s. used_number s (field_in names fields (codes "NAME"))) second ∙ ap (used_number c.args.second) (sym c.field_in.ensures) ∙ sym c.used_number.ensures.number ∙ c.in-Some.is in
    let own : map (λ column. column.now) c.as_slice.result.now ≡ columns_of c.in-Some.param = ap (λ columns. map (λ column. column.now) columns) c.as_slice.ensures.value ∙ c.in_ok-columns.ensures in
    (change_stray d names fields same c.in-Some.param named (ap (λ columns. names_in_others names fields columns subscript_columns) (sym own) ∙ sym c.has_stray.ensures ∙ c.if-has_stray.true), tt)

pub returns-clause-change : goal.returns-clause-change
returns-clause-change c =
    λ d sets second.
    let names = map (λ name. name.now) c.args.header.now in
    let fields = map (λ field. field.now) c.args.record.now in
    let same : length fields ≡ length names = length-map c.args.record.now (λ field. field.now) ∙ c.if-record-header.false ∙ sym (length-map c.args.header.now (λ name. name.now)) in
    let named = ap (λ s. used_number s (field_in names fields (codes "NAME"))) second ∙ ap (used_number c.args.second) (sym c.field_in.ensures) ∙ sym c.used_number.ensures.number ∙ c.in-Some.is in
    let own : map (λ column. column.now) c.as_slice.result.now ≡ columns_of c.in-Some.param = ap (λ columns. map (λ column. column.now) columns) c.as_slice.ensures.value ∙ c.in_ok-columns.ensures in
    let change = change_named d names fields same c.in-Some.param named (ap (λ columns. names_in_others names fields columns subscript_columns) (sym own) ∙ sym c.has_stray.ensures ∙ c.if-has_stray.false) in
    let here : change_of c.args.sets.now names fields c.in-Some.param ≡ change_in d names fields = sym (change ∙ ap (λ (lists : SetLists). change_of lists names fields c.in-Some.param) sets) in
    subst (λ (due : Result ToldChange RecordFault). IfOk c.change_of.result (λ told. due ≡ Ok (told_of c.args.sets.now told))) here c.change_of.ensures.change

pub returns-clause-refused : goal.returns-clause-refused
returns-clause-refused c =
    λ d sets second.
    let names = map (λ name. name.now) c.args.header.now in
    let fields = map (λ field. field.now) c.args.record.now in
    let same : length fields ≡ length names = length-map c.args.record.now (λ field. field.now) ∙ c.if-record-header.false ∙ sym (length-map c.args.header.now (λ name. name.now)) in
    let named = ap (λ s. used_number s (field_in names fields (codes "NAME"))) second ∙ ap (used_number c.args.second) (sym c.field_in.ensures) ∙ sym c.used_number.ensures.number ∙ c.in-Some.is in
    let own : map (λ column. column.now) c.as_slice.result.now ≡ columns_of c.in-Some.param = ap (λ columns. map (λ column. column.now) columns) c.as_slice.ensures.value ∙ c.in_ok-columns.ensures in
    let change = change_named d names fields same c.in-Some.param named (ap (λ columns. names_in_others names fields columns subscript_columns) (sym own) ∙ sym c.has_stray.ensures ∙ c.if-has_stray.false) in
    let here : change_of c.args.sets.now names fields c.in-Some.param ≡ change_in d names fields = sym (change ∙ ap (λ (lists : SetLists). change_of lists names fields c.in-Some.param) sets) in
    subst (λ (due : Result ToldChange RecordFault). IfErr c.change_of.result (IsRecordStopDue due c.args.sets.now)) here c.change_of.ensures.refused
