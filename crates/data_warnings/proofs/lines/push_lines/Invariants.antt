-- The lines so far.
use Rattle.data_warnings.proofs.Common.{◌≡◌, ◌++◌, take, flat_map, line}
use Rattle.data_warnings.proofs.lines.push_lines.Given as goal

abbrev pub invariant-loop-finding : goal.invariant-loop-finding
invariant-loop-finding l = l.out.items ≡ l.fn.out.items ++ flat_map (line l.sets) (take l.finding-index l.found)
