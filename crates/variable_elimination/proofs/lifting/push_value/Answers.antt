-- The value is put at its variable.
use Rattle.variable_elimination.proofs.Common.{List, map, ap, ◌∙◌, insert_entry, Frac, Var, var_cmp, var_cmp_total, valued}
use Rattle.variable_elimination.proofs.ValueSteps.{insert-valued}
use Rattle.variable_elimination.proofs.lifting.push_value.Goals as goal

pub returns-clause-pushed : goal.returns-clause-pushed
returns-clause-pushed c =
    let old = c.args.values.now.entries in
    ap (λ (es : List (Var × Frac)). map valued es) c.in_ok-insert.ensures.entries ∙ insert-valued var_cmp var_cmp_total old c.args.variable c.in-Ok.value ∙ ap (insert_entry var_cmp (map valued old) c.args.variable) c.in-Ok.ensures.value
