-- Each number has its equation, whose subscripts lie in their sets.
use Rattle.std.proofs.Common.{◌≡◌, sym, subst, refl, rules}
use Rattle.row_core.specs.declared.equation_numbers.TheConstants.{E2, E7, E9}
use Rattle.row_core.specs.EquationTerms.{IsWritten}
use Rattle.named_equations.specs.RegionFactors.{places_of}
use Rattle.named_equations.proofs.PositionsInSets.{of_number}
use Rattle.emission_rows.proofs.Meaning.{terms-at}
use Rattle.emission_rows.proofs.rows.row_of.Goals as goal

pub returns-in-36 : goal.returns-in-36
returns-in-36 c = subst (λ e. IsWritten c.args.name e c.e2.result) (sym (terms-at (places_of c.args.factors.now) c.args.model.now.facts c.args.name E2 c.in-36.is)) c.e2.ensures

pub returns-in-62 : goal.returns-in-62
returns-in-62 c = subst (λ e. IsWritten c.args.name e c.e7.result) (sym (terms-at (places_of c.args.factors.now) c.args.model.now.facts c.args.name E7 c.in-62.is)) c.e7.ensures

pub e9-requires : goal.e9-requires
e9-requires c =
    let is : c.args.name.eq ≡ E9 = search rules in
    let at = of_number c.args.model.now.facts c.args.name.eq E9 c.args.name.index is c.requires.index in
    record { region = at.region refl; emission = at.emission refl }

pub returns-in_default : goal.returns-in_default
returns-in_default c =
    let is : c.args.name.eq ≡ E9 = search rules in
    subst (λ e. IsWritten c.args.name e c.e9.result) (sym (terms-at (places_of c.args.factors.now) c.args.model.now.facts c.args.name E9 is)) c.e9.ensures
