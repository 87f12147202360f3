use Rattle.proof_files.proofs.Common.{List, ap, ◌∙◌, Frac, Var, ascends, keys_of, var_cmp, var_cmp_total}
use Rattle.proof_files.proofs.SubLists.{ascends_with}
use Rattle.proof_files.proofs.reading.plan_with.Goals as goal

pub of-requires : goal.of-requires
of-requires c = ap (λ (es : List (Var × Frac)). ascends var_cmp (keys_of es)) c.in_ok-with_values.ensures ∙ ascends_with var_cmp var_cmp_total c.args.vars.now c.args.values.now c.requires.ascending
