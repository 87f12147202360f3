-- Each number has its equation.
use Rattle.limit_rows.proofs.Common.{◌≡◌, sym, subst, rules, RE5, IsWritten}
use Rattle.limit_rows.proofs.Meaning.{terms-at}
use Rattle.limit_rows.proofs.rows.row_of.Goals as goal

pub returns-in_default : goal.returns-in_default
returns-in_default c =
    let is : c.args.name.eq ≡ RE5 = search rules in
    subst (λ e. IsWritten c.args.name e c.re5.result) (sym (terms-at c.args.model.now.facts c.args.name RE5 is)) c.re5.ensures
