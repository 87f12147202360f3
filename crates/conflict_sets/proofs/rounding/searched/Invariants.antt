-- What is known between two trials.
use Rattle.std.proofs.Common.{◌≡◌, length, drop}
use Rattle.conflict_sets.specs.Searches.{SearchIs}
use Rattle.conflict_sets.proofs.rounding.searched.Given as goal

abbrev pub invariant-loop-name : goal.invariant-loop-name
invariant-loop-name g l = record {
  even : length l.search.names.items ≡ length l.search.plans.items;
  searched : SearchIs l.problem.rows.now l.problem.vars.now l.search (drop l.name-index l.names);
}
