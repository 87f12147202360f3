-- A row of the sets that has the record's fields has the word and the subscripts that they name.
use Rattle.plan_files.proofs.Common.{◌≡◌, None, Some, sym, ap, ap₂, ◌∙◌, fields_of, Index, word_of_equation, subscript_fields, equation_has}
use Rattle.plan_files.proofs.KeyLaws.{or_key, or_number}
use Rattle.plan_files.proofs.NamedLaws.{row_index, word_field}
use Rattle.plan_files.proofs.names.row_named.Goals as goal

pub returns-in_err-index-clause-alone : goal.returns-in_err-index-clause-alone
returns-in_err-index-clause-alone c v listed same =
    let r = fields_of c.args.fields.now in
    let word : word_of_equation v.eq ≡ c.field_at.result.now = word_field (word_of_equation v.eq) (subscript_fields c.args.sets.now (equation_has v.eq) v.index) r same ∙ sym c.field_at.ensures in
    let is : c.in_ok-eq.eq ≡ v.eq = ap (or_number c.in_ok-eq.eq) (c.in_ok-eq.ensures.alone v.eq listed.0 word) in
    let none : None ≡ Some v.index = c.in_err-index.ensures.alone v.index (row_index c.args.sets.now v r c.in_ok-eq.eq c.places_of_equation.result listed same is c.places_of_equation.ensures) in
    absurd (cc none)

pub returns-clause-alone : goal.returns-clause-alone
returns-clause-alone c v listed same =
    let r = fields_of c.args.fields.now in
    let word : word_of_equation v.eq ≡ c.field_at.result.now = word_field (word_of_equation v.eq) (subscript_fields c.args.sets.now (equation_has v.eq) v.index) r same ∙ sym c.field_at.ensures in
    let is : c.in_ok-eq.eq ≡ v.eq = ap (or_number c.in_ok-eq.eq) (c.in_ok-eq.ensures.alone v.eq listed.0 word) in
    let at : c.in_ok-index.index ≡ v.index = ap (or_key c.in_ok-index.index) (c.in_ok-index.ensures.alone v.index (row_index c.args.sets.now v r c.in_ok-eq.eq c.places_of_equation.result listed same is c.places_of_equation.ensures)) in
    ap₂ (λ k (i : Index). Some (record { eq = k; index = i })) is at
