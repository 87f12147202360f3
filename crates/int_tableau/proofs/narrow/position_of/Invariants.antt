-- The column comes after what is before `low`, and not after what is from `high` on.
use Rattle.int_tableau.proofs.Common.{◌≡◌, ℕ, ◌-◌, ◌≤◌, length, take, drop, at, IsSparse}
use Rattle.int_tableau.proofs.narrow.position_of.Given as goal

abbrev pub invariant-loop-low : goal.invariant-loop-low
invariant-loop-low l = record {
  order : l.low ≤ l.high;
  within : l.high ≤ length l.entries;
  before : IsSparse 0 l.column (take l.low l.entries);
  rest : IsSparse l.column l.columns (drop l.high l.entries);
  same : (c : ℕ) → l.column ≤ c → at l.entries c ≡ at (drop l.low l.entries) c;
}

abbrev pub decreases-loop-low : goal.decreases-loop-low
decreases-loop-low l = l.high - l.low
