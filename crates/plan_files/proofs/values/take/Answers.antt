-- The record has no known name, or is right and gives its value.
use Rattle.plan_files.proofs.Common.{◌≡◌, ℕ, ◌<◌, Some, None, length, get_or, sym, subst, ◌∙◌, arith, fields_of, value_of, Frac, name_of, field, HasValue, IsEntry}
use Rattle.plan_files.proofs.TakenLaws.{no_entry, nothing_there, right_more, taken_more}
use Rattle.plan_files.proofs.values.take.Goals as goal

pub returns-in_default-clause-fault : goal.returns-in_default-clause-fault
returns-in_default-clause-fault c names earlier entry taken number =
    let none : IsEntry names (name_of (fields_of c.args.fields.now)) None = rw c.in_default.is at entry in
    (number, sym c.len.ensures ∙ c.if-len-ne-FIELD_COUNT.false, no_entry names (name_of (fields_of c.args.fields.now)) none)

pub returns-clause-taken : goal.returns-clause-taken
returns-clause-taken c names earlier entry taken =
    let r = fields_of c.args.fields.now in
    let i : ℕ = c.in-Some.place in
    let v : Frac = c.in-Some-value_in_field.value in
    let here : IsEntry names (name_of r) (Some i) = rw c.in-Some.is at entry in
    let ten : length r ≡ 10 = sym c.len.ensures ∙ c.if-len-ne-FIELD_COUNT.false in
    let inside : i < length c.args.values.now = omega (arith, here.0, taken.many) in
    let none : get_or c.args.values.now i None ≡ None = nothing_there c.args.values.now i c.index-values-place.result inside (sym c.if-is_some.ensures) in
    let told : HasValue (field r 9) (value_of v) = subst (λ text. HasValue text (value_of v)) c.field_at.ensures c.in-Some-value_in_field.ensures in
    (right_more names earlier r c.args.values.now i taken here ten none v told, taken_more names earlier r c.args.values.now i taken here none v told)
