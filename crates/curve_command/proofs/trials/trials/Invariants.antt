-- The limits so far have their trials, and the rows that are kept are those of one of them.
use Rattle.curve_command.proofs.Common.{◌≡◌, ◌++◌, drop, map, IfSome, AllByRecursion, limits_in, IsBookAtSome, IsFoundOf, found_seen}
use Rattle.curve_command.proofs.trials.trials.Given as goal

abbrev pub invariant-loop-most : goal.invariant-loop-most
invariant-loop-most g l = record {
  whole : limits_in (map found_seen l.all.items) ++ drop l.most-index l.limits ≡ l.limits;
  found : AllByRecursion (IsFoundOf l.places l.model.facts l.member l.wanted) l.all.items;
  kept : IfSome l.book (IsBookAtSome l.places l.model.facts l.member);
}
