use Rattle.int_tableau.proofs.Common.{◌≡◌, ◌-◌, Some, sym, ◌∙◌, subst, InRange, back_in_range, at, AreLast}
use Rattle.int_tableau.proofs.LastLaws.{last_column}
use Rattle.int_tableau.proofs.NarrowLaws.{back_widened, narrow_fits}
use Rattle.int_tableau.proofs.line.SparseLine.last_entry.Goals as goal
use Rattle.int_tableau.proofs.line.SparseLine.last_entry.Goals.{In-Some}

-- the number that is known
known : (c : In-Some) → AreLast (Some c.in-Some.last) c.self.inside.entries c.self.inside.columns
known c = subst (λ o. AreLast o c.self.inside.entries c.self.inside.columns) c.in-Some.is c.self.invariant.last_is

pub returns-in-Some-clause-value : goal.returns-in-Some-clause-value
returns-in-Some-clause-value c =
    let k : AreLast (Some c.in-Some.last) c.self.inside.entries c.self.inside.columns = known c in
    back_widened c.in-Some.last k.1
    ∙ k.0
    ∙ last_column c.args.self.now c.self.inside.columns c.self.inside.entries c.self.inside.right c.self.inside.own c.self.view_is c.requires

pub returns-in-Some-clause-range : goal.returns-in-Some-clause-range
returns-in-Some-clause-range c =
    let k : AreLast (Some c.in-Some.last) c.self.inside.entries c.self.inside.columns = known c in
    subst InRange (k.0 ∙ last_column c.args.self.now c.self.inside.columns c.self.inside.entries c.self.inside.right c.self.inside.own c.self.view_is c.requires) (narrow_fits c.in-Some.last k.1)

pub returns-in-None-clause-value : goal.returns-in-None-clause-value
returns-in-None-clause-value c =
    let e : c.last_in.result ≡ at c.self.inside.entries (c.self.inside.columns - 1) = c.last_in.ensures.value in
    back_in_range c.last_in.result (subst InRange (sym e) c.last_in.ensures.range)
    ∙ e
    ∙ last_column c.args.self.now c.self.inside.columns c.self.inside.entries c.self.inside.right c.self.inside.own c.self.view_is c.requires

pub returns-in-None-clause-range : goal.returns-in-None-clause-range
returns-in-None-clause-range c = subst InRange (last_column c.args.self.now c.self.inside.columns c.self.inside.entries c.self.inside.right c.self.inside.own c.self.view_is c.requires) c.last_in.ensures.range
