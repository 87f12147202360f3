-- The digits that are left end the text.
use Rattle.data_warnings.proofs.Common.{◌≡◌, ◌<◌, ◌-◌, ◌++◌, billion, part_digits}
use Rattle.data_warnings.proofs.decimals.push_digits.Given as goal

abbrev pub invariant-loop-place : goal.invariant-loop-place
invariant-loop-place l = record {
  below : l.left < billion;
  text : l.out.items ++ part_digits (9 - l.place) l.left ≡ l.fn.out.items ++ part_digits 9 l.part;
}
