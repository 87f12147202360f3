-- None of the trials so far stopped.
use Rattle.curve_command.proofs.Common.{◌≡◌, ◌+◌, drop, map, first_stop, found_seen}
use Rattle.curve_command.proofs.texts.first_stop.Given as goal

abbrev pub invariant-loop-found : goal.invariant-loop-found
invariant-loop-found l = (first_stop l.number (map found_seen (drop l.found-index l.all)) ≡ first_stop 1 (map found_seen l.all)) × (l.number ≡ l.found-index + 1)
