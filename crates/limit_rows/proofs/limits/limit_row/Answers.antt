-- The row is that of the limit.
use Rattle.limit_rows.proofs.Common.{sym, subst, IsWritten}
use Rattle.limit_rows.proofs.limits.limit_row.Goals as goal

pub returns : goal.returns
returns c =
    let (z, is, has) = c.limit_of-sense.ensures in
    subst (λ e. IsWritten c.args.name e c.is_limited.result) (sym is) (c.is_limited.ensures z has)
