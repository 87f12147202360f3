use Rattle.data_changes.proofs.Common.{◌≡◌, drop, map}
unfoldable use Rattle.data_changes.specs.Columns.{has_twice}
use Rattle.data_changes.proofs.columns.has_twice.Given as goal

-- whether one stands twice is asked of those that are left
abbrev pub invariant-loop-i : goal.invariant-loop-i
invariant-loop-i l = has_twice (map (λ name. name.now) l.names) ≡ has_twice (map (λ name. name.now) (drop l.i l.names))
