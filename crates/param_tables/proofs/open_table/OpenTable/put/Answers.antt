use Rattle.param_tables.proofs.Common.{ℕ, ℤ, List, ap₂, nat_cmp, option_or, zip, given_in}
use Rattle.std.specs.BTreeMap.{is_at}
use Rattle.std.specs.Map.{lookup}
use Rattle.std.proofs.lemmas.Result.{on_err_weaker}
use Rattle.param_tables.proofs.open_table.OpenTable.put.Goals as goal

pub returns-clause-unchanged : goal.returns-clause-unchanged
returns-clause-unchanged c =
    on_err_weaker c.keep.result
    (λ same q.
    ap₂ (λ given (added : List (ℕ × ℤ)). option_or given (lookup (is_at (nat_cmp q)) added))
    (ap₂ (λ places values. given_in (zip places values) q) c.if-replace.ensures.places c.if-replace.ensures.none)
    same)
    c.keep.ensures.unchanged
