-- A variable of the sets that has the record's fields has the word and the subscripts that they name.
use Rattle.plan_files.proofs.Common.{◌≡◌, [], None, Some, get_or, ap, ap₂, fields_of, Index, word_of_kind}
use Rattle.plan_files.proofs.KeyLaws.{or_key, or_number}
use Rattle.plan_files.proofs.NamedLaws.{variable_index}
use Rattle.plan_files.proofs.names.variable_named.Goals as goal

pub returns-in_err-index-clause-alone : goal.returns-in_err-index-clause-alone
returns-in_err-index-clause-alone c v listed same =
    let r = fields_of c.args.fields.now in
    let word : word_of_kind v.kind ≡ c.args.word.now = ap (λ fs. get_or fs 0 []) same in
    let is : c.in_ok-kind.kind ≡ v.kind = ap (or_number c.in_ok-kind.kind) (c.in_ok-kind.ensures.alone v.kind listed.0 word) in
    let none : None ≡ Some v.index = c.in_err-index.ensures.alone v.index (variable_index c.args.sets.now v c.args.word.now r c.in_ok-kind.kind c.places_of_kind.result listed same is c.places_of_kind.ensures) in
    absurd (cc none)

pub returns-clause-alone : goal.returns-clause-alone
returns-clause-alone c v listed same =
    let r = fields_of c.args.fields.now in
    let word : word_of_kind v.kind ≡ c.args.word.now = ap (λ fs. get_or fs 0 []) same in
    let is : c.in_ok-kind.kind ≡ v.kind = ap (or_number c.in_ok-kind.kind) (c.in_ok-kind.ensures.alone v.kind listed.0 word) in
    let at : c.in_ok-index.index ≡ v.index = ap (or_key c.in_ok-index.index) (c.in_ok-index.ensures.alone v.index (variable_index c.args.sets.now v c.args.word.now r c.in_ok-kind.kind c.places_of_kind.result listed same is c.places_of_kind.ensures)) in
    ap₂ (λ k (i : Index). Some (record { kind = k; index = i })) is at
