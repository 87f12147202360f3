-- The product is put at the row's name.
use Rattle.variable_elimination.proofs.Common.{List, map, ap, ◌∙◌, insert_entry, Frac, RowName, row_name_cmp, valued, row_name_cmp_total}
use Rattle.variable_elimination.proofs.ValueSteps.{insert-valued}
use Rattle.variable_elimination.proofs.multiplying.push_scaled.Goals as goal

pub returns-clause-pushed : goal.returns-clause-pushed
returns-clause-pushed c =
    let old = c.args.made.now.entries in
    ap (λ (es : List (RowName × Frac)). map valued es) c.in_ok-insert.ensures.entries ∙ insert-valued row_name_cmp row_name_cmp_total old c.args.name c.in-Ok.value
    ∙ ap (insert_entry row_name_cmp (map valued old) c.args.name) c.in-Ok.ensures.value
