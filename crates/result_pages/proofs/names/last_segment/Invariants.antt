-- What follows has no '/'.
use Rattle.std.proofs.Common.{◌≡◌, ◌≤◌, drop, length, false}
use Rattle.std.specs.List.{list_any}
use Rattle.result_pages.specs.FileNames.{is_slash}
use Rattle.result_pages.proofs.names.last_segment.Given as goal

abbrev pub invariant-loop-start : goal.invariant-loop-start
invariant-loop-start l = record {
  none : list_any is_slash (drop l.start l.path) ≡ false;
  within : l.start ≤ length l.path;
}

abbrev pub decreases-loop-start : goal.decreases-loop-start
decreases-loop-start l = l.start
