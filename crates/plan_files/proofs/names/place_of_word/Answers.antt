-- The search ends at the variable, or none of the list is named.
use Rattle.plan_files.proofs.Common.{◌∷◌, sym, subst, fields_of, Var, var_cmp, var_cmp_exact, var_cmp_total, subscripts_in, IsListedVariable, IsEntry, variable_names, variable_fields}
use Rattle.plan_files.proofs.KeyLaws.{entry_of, no_entry_of}
use Rattle.plan_files.proofs.names.place_of_word.Goals as goal

abbrev nothing : Var
nothing = record { kind = 0; index = record { region = 0; other = 0; slice = 0; tech = 0; fuel = 0; emission = 0; mode = 0; year = 0 } }

pub returns-in_err-variable_named : goal.returns-in_err-variable_named
returns-in_err-variable_named c =
    let sets = c.args.sets.now in
    let name = c.args.word.now ∷ subscripts_in (fields_of c.args.fields.now) in
    subst (IsEntry (variable_names sets c.args.vars.now) name) (sym c.from_residual.ensures)
    (no_entry_of (variable_fields sets) c.args.vars.now name nothing (IsListedVariable sets) c.requires.listed c.in_err-variable_named.ensures.alone)

pub returns : goal.returns
returns c =
    let sets = c.args.sets.now in
    let found = c.in_ok-variable_named.ensures in
    entry_of var_cmp var_cmp_total var_cmp_exact (variable_fields sets) c.args.vars.now (c.args.word.now ∷ subscripts_in (fields_of c.args.fields.now)) c.in_ok-variable_named.field-0 (IsListedVariable sets) c.requires.listed found.named found.alone c.place_of.result c.place_of.ensures.here
    c.place_of.ensures.alone
