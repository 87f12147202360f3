-- The row is that of the named equation.
use Rattle.limit_rows.proofs.Common.{◌≡◌, true, not, ◌||◌, sym, subst, equation_formed, name_at, stands_at, named_row, terms_at}
use Rattle.exact_num.specs.Range.{all_fit}
use Rattle.row_core.specs.declared.place.Place.{Place}
use Rattle.row_core.specs.Stops.{IsStop}
use Rattle.limit_rows.proofs.Meaning.{named}
use Rattle.limit_rows.proofs.rows.rows_of.Goals as goal

pub returns-in-Ok-clause-row : goal.returns-in-Ok-clause-row
returns-in-Ok-clause-row c places =
    let d = c.args.model.now.facts in
    let name = name_at c.args.eq c.args.at in
    named_row places d name (terms_at d name) c.in-Ok.row (named places d c.args.eq c.args.at c.requires.equation) c.in-Ok.ensures.0 c.in-Ok.ensures.1

pub returns-in-Err-clause-stopped : goal.returns-in-Err-clause-stopped
returns-in-Err-clause-stopped c =
    let d = c.args.model.now.facts in
    let name = name_at c.args.eq c.args.at in
    let stands : stands_at d c.args.eq c.args.at ≡ true = cc in
    subst (λ b. IsStop (Place.Row name) (not b || all_fit (equation_formed (terms_at d name))) c.in-Err.stopped) (sym stands) c.in-Err.ensures
