-- The first row is reduced.
use Rattle.variable_elimination.specs.Expansions.{scale_value}
use Rattle.variable_elimination.proofs.ReductionLaws.{IsReducedBy-itself, IsReducedOver-by}
use Rattle.variable_elimination.proofs.costing.cost_row.Goals as goal

pub returns-clause-reduced : goal.returns-clause-reduced
returns-clause-reduced c named h = record {
  first = c.in_ok-first.first;
  form = c.in_ok-first.ensures.form;
  reduced = IsReducedOver-by named c.in_ok-first.first (scale_value c.in_ok-made.field-0-1) c.in_ok-made.made (c.in_ok-made.ensures.reduced named c.in_ok-first.first h (IsReducedBy-itself named c.in_ok-first.first));
}
