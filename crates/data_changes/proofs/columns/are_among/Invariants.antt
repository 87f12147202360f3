use Rattle.data_changes.proofs.Common.{◌≡◌, drop, map}
use Rattle.data_changes.specs.Columns.{are_among}
use Rattle.data_changes.proofs.columns.are_among.Given as goal

-- it is asked of those that are left
abbrev pub invariant-loop-name : goal.invariant-loop-name
invariant-loop-name l = are_among (map (λ name. name.now) l.all) (map (λ name. name.now) l.names) ≡ are_among (map (λ name. name.now) l.all) (map (λ name. name.now) (drop l.name-index l.names))
