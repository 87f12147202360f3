-- Each number has its equation, whose subscripts lie in their sets.
use Rattle.std.proofs.Common.{◌≡◌, sym, subst, refl, rules}
use Rattle.row_core.specs.declared.equation_numbers.TheConstants.{EBA1, ACC3}
use Rattle.row_core.specs.EquationTerms.{IsWritten}
use Rattle.balance_rows.proofs.Meaning.{terms-at}
use Rattle.named_equations.proofs.PositionsInSets.{of_number}
use Rattle.balance_rows.proofs.rows.row_of.Goals as goal

pub returns-in-7-clause-written : goal.returns-in-7-clause-written
returns-in-7-clause-written c =
    subst (λ e. IsWritten c.args.name e c.mode_flow.result) (sym (terms-at c.args.model.now.facts c.args.name EBA1 c.in-7.is)) c.mode_flow.ensures

pub acc3-requires : goal.acc3-requires
acc3-requires c =
    let is : c.args.name.eq ≡ ACC3 = search rules in
    let at = of_number c.args.model.now.facts c.args.name.eq ACC3 c.args.name.index is c.requires.index in
    record { year = at.year refl }

pub returns-in_default-clause-written : goal.returns-in_default-clause-written
returns-in_default-clause-written c =
    let is : c.args.name.eq ≡ ACC3 = search rules in
    subst (λ e. IsWritten c.args.name e c.acc3.result) (sym (terms-at c.args.model.now.facts c.args.name ACC3 is)) c.acc3.ensures
