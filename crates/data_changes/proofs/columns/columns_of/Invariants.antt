use Rattle.data_changes.proofs.Common.{◌≡◌, ◌++◌, drop, map}
use Rattle.data_changes.specs.Columns.{columns_of, columns_over}
use Rattle.data_changes.proofs.columns.columns_of.Given as goal

-- those so far and those that are left are all
abbrev pub invariant-loop-set : goal.invariant-loop-set
invariant-loop-set l = map (λ column. column.now) l.columns.items ++ columns_over l.is_second (drop l.set-index l.subscripts) ≡ columns_of l.param
