-- The loop goes back from the end past terms that are after the variable.
use Rattle.row_core.proofs.Common.{◌≡◌, ◌<◌, ◌≤◌, length, get_or, Greater, Term, var_cmp}
use Rattle.row_core.proofs.terms.position_of.Given as goal

abbrev pub invariant-loop-end : goal.invariant-loop-end
invariant-loop-end l = record {
  within : l.end ≤ length l.list;
  following : (d : Term) → l.end < length l.list → var_cmp (get_or l.list l.end d).variable l.variable ≡ Greater;
}

abbrev pub decreases-loop-end : goal.decreases-loop-end
decreases-loop-end l = l.end
