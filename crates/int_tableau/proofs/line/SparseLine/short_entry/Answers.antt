use Rattle.int_tableau.proofs.Common.{◌≡◌, sym, ◌∙◌, subst, IfSome}
use Rattle.int_tableau.proofs.MarkLaws.{unmarked}
use Rattle.int_tableau.proofs.LastLaws.{in_column}
use Rattle.int_tableau.proofs.line.SparseLine.short_entry.Goals as goal

-- a column without a mark has none
pub returns-then-not-is_marked-clause-value : goal.returns-then-not-is_marked-clause-value
returns-then-not-is_marked-clause-value c =
    sym (unmarked c.self.inside.marks c.self.inside.entries c.args.column c.self.invariant.marked (sym c.is_marked.ensures ∙ c.if-not-is_marked.true))
    ∙ in_column c.args.self.now c.self.inside.columns c.self.inside.entries c.self.inside.right c.self.inside.own c.args.column c.self.view_is c.requires

pub returns-clause-value : goal.returns-clause-value
returns-clause-value c =
    subst (λ z. IfSome c.short_in.result (λ s. s ≡ z))
    (in_column c.args.self.now c.self.inside.columns c.self.inside.entries c.self.inside.right c.self.inside.own c.args.column c.self.view_is c.requires)
    c.short_in.ensures.value
