-- Ten fields, a value, and the place of the name or none.
use Rattle.solver_answers.proofs.Common.{◌≡◌, ◌∙◌, List, ℕ, length, subst, sym, fields_of, Rational, Fields, HasValue}
use Rattle.exact_num.specs.Value.{value_of}
use Rattle.solver_answers.proofs.tables.found_in_record.Goals as goal

pub returns-in-Some : goal.returns-in-Some
returns-in-Some c =
    let r : Fields = fields_of c.args.fields.now in
    let ten : length r ≡ 10 = sym c.len.ensures ∙ c.if-len-ne10.false in
    let value : Rational = value_of c.in-Ok.value in
    (ten, c.in-Some.ensures, (value, subst (λ (text : List ℕ). HasValue text value) c.field_at.ensures c.in-Ok.ensures.answer, c.float_of_frac.ensures))

pub returns-in-None : goal.returns-in-None
returns-in-None c =
    let r : Fields = fields_of c.args.fields.now in
    let ten : length r ≡ 10 = sym c.len.ensures ∙ c.if-len-ne10.false in
    let value : Rational = value_of c.in-Ok.value in
    (ten, c.in-None.ensures, (value, subst (λ (text : List ℕ). HasValue text value) c.field_at.ensures c.in-Ok.ensures.answer))
