-- What is left of the trials comes to what all of them come to.
use Rattle.std.proofs.Common.{◌≡◌, ◌≤◌, length, drop}
use Rattle.conflict_sets.specs.Searches.{SearchIs, walk_from}
use Rattle.conflict_sets.proofs.explaining.searched.Given as goal

abbrev pub invariant-loop-name : goal.invariant-loop-name
invariant-loop-name l = record {
  few : l.search.trials ≤ l.name-index;
  even : length l.search.names.items ≡ length l.search.plans.items;
  walks : walk_from l.problem.rows.now l.problem.defs.now l.problem.vars.now l.pivots l.search (drop l.name-index l.names) ≡ walk_from l.problem.rows.now l.problem.defs.now l.problem.vars.now l.pivots l.fn.search l.names;
  searched : SearchIs l.problem.rows.now l.problem.vars.now l.search (drop l.name-index l.names);
}
