-- The left side is made of the term, and the right side of two data values.
use Rattle.std.proofs.Common.{refl, ap₂, ◌∙◌}
use Rattle.named_equations.specs.Indices.{by_rlfy}
use Rattle.row_core.specs.Calculated.{product_of}
use Rattle.row_core.proofs.AmountLaws.{added}
use Rattle.balance_rows.specs.Balance.{eq_specified_demand}
use Rattle.balance_rows.proofs.demand.eq_specified_demand.Goals as goal

pub returns-clause-written : goal.returns-clause-written
returns-clause-written c =
    c.write.ensures c.args.name (by_rlfy (eq_specified_demand c.args.model.now.facts) c.args.name.index)
    (added c.in_ok-add.ensures refl c.year_split.ensures.number c.new-left.ensures)
    refl
    (c.times-demand.ensures ∙ ap₂ product_of c.value.ensures c.value-2.ensures)
