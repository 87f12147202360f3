-- Each number has its equation.
use Rattle.std.proofs.Common.{◌≡◌, sym, subst, refl, rules}
use Rattle.row_core.specs.declared.equation_numbers.TheConstants.{CAA2, CAB1}
use Rattle.row_core.specs.EquationTerms.{IsWritten}
use Rattle.named_equations.proofs.PositionsInSets.{of_number}
use Rattle.capacity_rows.proofs.Meaning.{terms-at}
use Rattle.capacity_rows.proofs.rows.row_of.Goals as goal

pub returns-in-3 : goal.returns-in-3
returns-in-3 c = subst (λ e. IsWritten c.args.name e c.caa2.result) (sym (terms-at c.args.model.now.facts c.args.name CAA2 c.in-3.is)) c.caa2.ensures

pub cab1-requires : goal.cab1-requires
cab1-requires c =
    let is : c.args.name.eq ≡ CAB1 = search rules in
    let at = of_number c.args.model.now.facts c.args.name.eq CAB1 c.args.name.index is c.requires.index in
    record { region = at.region refl; technology = at.technology refl; year = at.year refl }

pub returns-in_default : goal.returns-in_default
returns-in_default c =
    let is : c.args.name.eq ≡ CAB1 = search rules in
    subst (λ e. IsWritten c.args.name e c.cab1.result) (sym (terms-at c.args.model.now.facts c.args.name CAB1 is)) c.cab1.ensures
