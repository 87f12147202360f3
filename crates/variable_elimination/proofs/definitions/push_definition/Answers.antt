-- The row is expanded, and kept at its variable.
use Rattle.variable_elimination.proofs.Common.{ap, Scaled, scale_value}
use Rattle.variable_elimination.proofs.ReductionLaws.{IsReducedBy-itself, IsReducedOver-by}
use Rattle.variable_elimination.proofs.definitions.push_definition.Goals as goal

pub returns-clause-pushed : goal.returns-clause-pushed
returns-clause-pushed c = record {
  made = c.in_ok-made.made;
  updates = λ w. c.in_ok-insert.ensures.updates.0 w;
  sense = c.in_ok-made.ensures.made.sense;
  form = ap (λ (s : Scaled). s.form) c.in_ok-made.ensures.made.scaled;
  reduced = λ named h. IsReducedOver-by named c.args.row.now (scale_value c.in_ok-made.field-0-1) c.in_ok-made.made
      (c.in_ok-made.ensures.reduced named c.args.row.now h (IsReducedBy-itself named c.args.row.now));
}
