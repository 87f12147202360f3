-- Each number has its equation.
use Rattle.std.proofs.Common.{◌≡◌, sym, subst, rules}
use Rattle.row_core.specs.declared.equation_numbers.TheConstants.{CC2, TDC2, ACC4}
use Rattle.row_core.specs.EquationTerms.{IsWritten}
use Rattle.named_equations.specs.RegionFactors.{places_of}
use Rattle.cost_rows.proofs.Meaning.{terms-at}
use Rattle.cost_rows.proofs.rows.row_of.Goals as goal

pub returns-in-26 : goal.returns-in-26
returns-in-26 c = subst (λ e. IsWritten c.args.name e c.cc2.result) (sym (terms-at (places_of c.args.factors.now) c.args.model.now.facts c.args.name CC2 c.in-26.is)) c.cc2.ensures

pub returns-in-41 : goal.returns-in-41
returns-in-41 c = subst (λ e. IsWritten c.args.name e c.tdc2.result) (sym (terms-at (places_of c.args.factors.now) c.args.model.now.facts c.args.name TDC2 c.in-41.is)) c.tdc2.ensures

pub returns-in_default : goal.returns-in_default
returns-in_default c =
    let is : c.args.name.eq ≡ ACC4 = search rules in
    subst (λ e. IsWritten c.args.name e c.acc4.result) (sym (terms-at (places_of c.args.factors.now) c.args.model.now.facts c.args.name ACC4 is)) c.acc4.ensures
