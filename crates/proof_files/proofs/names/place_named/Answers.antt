-- The name is one of a direction, of a variable, of a row, or none.
use Rattle.std.proofs.Common.{◌≡◌, ◌∷◌, ◌++◌, ◌+◌, List, ℕ, None, Some, codes, length, sym, subst, ◌∙◌}
use Rattle.csv.specs.Records.{fields_of}
use Rattle.proof_files.proofs.Common.{Fields, field, name_of, subscripts_in, IsEntry, proof_names}
use Rattle.proof_files.proofs.NameLaws.{direction_none, direction_some, named_none, row_some, variable_some}
use Rattle.proof_files.proofs.names.place_named.Goals as goal

pub returns-in_err-place : goal.returns-in_err-place
returns-in_err-place c =
    let all = proof_names c.args.sets.now c.args.vars.now c.args.names.now in
    let r : Fields = fields_of c.args.fields.now in
    let word : field r 0 ≡ codes "Direction." ++ c.in-Some.word.now = sym c.field_at.ensures ∙ c.in-Some.ensures in
    subst (λ place. IsEntry all (name_of r) place) (sym c.from_residual.ensures)
    (subst (λ (w : List ℕ). IsEntry all (w ∷ subscripts_in r) None) (sym word)
    (direction_none c.args.sets.now c.args.vars.now c.args.names.now c.requires.listed_vars c.requires.listed_rows c.in-Some.word.now (subscripts_in r) c.in_err-place.ensures))

pub returns-in-Some : goal.returns-in-Some
returns-in-Some c =
    let all = proof_names c.args.sets.now c.args.vars.now c.args.names.now in
    let r : Fields = fields_of c.args.fields.now in
    let word : field r 0 ≡ codes "Direction." ++ c.in-Some.word.now = sym c.field_at.ensures ∙ c.in-Some.ensures in
    subst (λ (w : List ℕ). IsEntry all (w ∷ subscripts_in r) (Some (length c.args.vars.now + length c.args.names.now + c.in_ok-place.place))) (sym word)
    (direction_some c.args.sets.now c.args.vars.now c.args.names.now c.requires.listed_vars c.requires.listed_rows c.in-Some.word.now (subscripts_in r) c.in_ok-place.place c.in_ok-place.ensures)

pub returns-in-Some-place_of_variable : goal.returns-in-Some-place_of_variable
returns-in-Some-place_of_variable c =
    let r : Fields = fields_of c.args.fields.now in
    variable_some c.args.sets.now c.args.vars.now c.args.names.now c.requires.listed_vars c.requires.listed_rows (name_of r) c.in-Some-place_of_variable.place
    (λ rest same. c.in_default.ensures rest (c.field_at.ensures ∙ same)) c.in-Some-place_of_variable.ensures

pub returns-in_err-place-2 : goal.returns-in_err-place-2
returns-in_err-place-2 c =
    let r : Fields = fields_of c.args.fields.now in
    subst (λ place. IsEntry (proof_names c.args.sets.now c.args.vars.now c.args.names.now) (name_of r) place) (sym c.from_residual-in_err-place-2.ensures)
    (named_none c.args.sets.now c.args.vars.now c.args.names.now c.requires.listed_vars c.requires.listed_rows (name_of r)
    (λ rest same. c.in_default.ensures rest (c.field_at.ensures ∙ same)) c.in_default-place_of_variable.ensures c.in_err-place-2.ensures)

pub returns : goal.returns
returns c =
    let r : Fields = fields_of c.args.fields.now in
    row_some c.args.sets.now c.args.vars.now c.args.names.now c.requires.listed_vars c.requires.listed_rows (name_of r) c.in_ok-place-2.place
    (λ rest same. c.in_default.ensures rest (c.field_at.ensures ∙ same)) c.in_default-place_of_variable.ensures c.in_ok-place-2.ensures
