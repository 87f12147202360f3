-- With the lines of the limits that are left, the lines so far are those of all limits.
use Rattle.curve_command.proofs.Common.{◌≡◌, ◌++◌, drop, map, flat_map, limit_line, found_seen}
use Rattle.curve_command.proofs.texts.push_limits.Given as goal

abbrev pub invariant-loop-found : goal.invariant-loop-found
invariant-loop-found l =
    l.out.items ++ flat_map (limit_line l.sets) (map found_seen (drop l.found-index l.all)) ≡ l.fn.out.items ++ flat_map (limit_line l.sets) (map found_seen l.all)
