-- What is removed so far, and what the other variables will remove and form.
use Rattle.variable_elimination.proofs.Common.{◌≡◌, List, drop, all_fit, Row, variables_of, without_all, without_all_formed, expanded, expanded_formed, scale_value, scaled_of, forms_in, AreReduced, IsReducedOver}
use Rattle.variable_elimination.proofs.expanding.expand.Given as goal

abbrev pub invariant-loop-entry : goal.invariant-loop-entry
invariant-loop-entry l = record {
  name : l.made.name ≡ l.row.name;
  sense : l.made.sense ≡ l.row.sense;
  made : without_all (forms_in l.definitions) (variables_of (drop l.entry-index l.row.entries.items)) (scaled_of l.made l.scale) ≡ expanded (forms_in l.definitions) (scaled_of l.row l.fn.scale);
  formed : all_fit (expanded_formed (forms_in l.definitions) (scaled_of l.row l.fn.scale)) ≡ all_fit (without_all_formed (forms_in l.definitions) (variables_of (drop l.entry-index l.row.entries.items)) (scaled_of l.made l.scale));
  reduced : (named : List Row) (first : Row) → AreReduced named l.definitions → IsReducedOver named first (scale_value l.fn.scale) l.row → IsReducedOver named first (scale_value l.scale) l.made;
}
