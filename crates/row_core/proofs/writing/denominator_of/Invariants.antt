-- The terms so far have this common denominator, and what is formed from here on is what is left.
use Rattle.row_core.proofs.Common.{◌≡◌, pos, map, drop, ◌<ℤ◌, InRange, all_fit, value_of, seen, kept, denominators, widened_by_each, widened_by_all}
use Rattle.row_core.proofs.writing.denominator_of.Given as goal

abbrev pub invariant-loop-term : goal.invariant-loop-term
invariant-loop-term l = record {
  range : InRange l.denominator;
  positive : pos 0 <ℤ l.denominator;
  fits : all_fit (widened_by_each (pos 1) (denominators (kept (map seen l.terms)) (value_of l.right)))
      ≡ all_fit (widened_by_each l.denominator (denominators (kept (map seen (drop l.term-index l.terms))) (value_of l.right)));
  value : widened_by_all (pos 1) (denominators (kept (map seen l.terms)) (value_of l.right))
      ≡ widened_by_all l.denominator (denominators (kept (map seen (drop l.term-index l.terms))) (value_of l.right));
}
