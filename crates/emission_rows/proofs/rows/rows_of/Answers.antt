-- The row is that of the named equation.
use Rattle.std.proofs.Common.{◌≡◌, ℕ, true, not, ◌||◌, sym, subst}
use Rattle.exact_num.specs.Range.{all_fit}
use Rattle.row_core.specs.declared.place.Place.{Place}
use Rattle.row_core.specs.EquationTerms.{equation_formed}
use Rattle.row_core.specs.Stops.{IsStop}
use Rattle.named_equations.specs.Instances.{name_at, stands_at}
use Rattle.named_equations.specs.RegionFactors.{places_of}
use Rattle.named_equations.proofs.TermMeaning.{named_row}
use Rattle.emission_rows.specs.Rows.{terms_at}
use Rattle.emission_rows.proofs.Meaning.{named}
use Rattle.emission_rows.proofs.rows.rows_of.Goals as goal

pub returns-in-Ok-clause-row : goal.returns-in-Ok-clause-row
returns-in-Ok-clause-row c =
    let places : ℕ = places_of c.args.factors.now in
    let d = c.args.model.now.facts in
    let name = name_at c.args.eq c.args.at in
    named_row places d name (terms_at places d name) c.in-Ok.row (named places d c.args.eq c.args.at c.requires.equation) c.in-Ok.ensures.0 c.in-Ok.ensures.1

pub returns-in-Err-clause-stopped : goal.returns-in-Err-clause-stopped
returns-in-Err-clause-stopped c =
    let d = c.args.model.now.facts in
    let name = name_at c.args.eq c.args.at in
    let stands : stands_at d c.args.eq c.args.at ≡ true = cc in
    subst (λ b. IsStop (Place.Row name) (not b || all_fit (equation_formed (terms_at (places_of c.args.factors.now) d name))) c.in-Err.stopped) (sym stands) c.in-Err.ensures
