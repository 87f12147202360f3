-- What there is and what is told of the entries that are left are the whole.
use Rattle.plan_compare.proofs.Common.{◌≡◌, ◌++◌, Bool, Option, drop, Rational, value_of, Frac, Var, told_where, Change}
use Rattle.plan_compare.proofs.TextLaws.{of_entries}
use Rattle.plan_compare.proofs.change.push_told.Given as goal

abbrev pub invariant-loop-var : goal.invariant-loop-var
invariant-loop-var g l =
    (passes : Var × Rational → Bool) (of : Var × Rational → Change)
    → ((var : Var) (value : Frac) (change : Option Change) → goal.T-post g l.fn.told var value change → change ≡ told_where passes of (var, value_of value))
    → l.all.items ++ of_entries passes of (drop l.var-index l.entries) ≡ l.fn.all.items ++ of_entries passes of l.entries
