use Rattle.proof_files.proofs.Common.{List, ap, ◌∙◌, Frac, RowName, ascends, keys_of, row_name_cmp, row_name_cmp_total}
use Rattle.proof_files.proofs.SubLists.{ascends_with}
use Rattle.proof_files.proofs.reading.multipliers_with.Goals as goal

pub of-requires : goal.of-requires
of-requires c = ap (λ (es : List (RowName × Frac)). ascends row_name_cmp (keys_of es)) c.in_ok-with_values.ensures ∙ ascends_with row_name_cmp row_name_cmp_total c.args.names.now c.args.values.now c.requires.ascending
