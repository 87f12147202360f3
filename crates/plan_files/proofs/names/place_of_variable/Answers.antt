-- The word is the first field.
use Rattle.plan_files.proofs.Common.{◌∷◌, subst, fields_of, variable_names, subscripts_in, IsEntry}
use Rattle.plan_files.proofs.names.place_of_variable.Goals as goal

pub returns : goal.returns
returns c =
    subst (λ word. IsEntry (variable_names c.args.sets.now c.args.vars.now) (word ∷ subscripts_in (fields_of c.args.fields.now)) c.place_of_word.result) c.field_at.ensures c.place_of_word.ensures
