-- The places so far that the kind has.
use Rattle.plan_tables.proofs.Common.{◌≡◌, filter, take, kind_has}
use Rattle.plan_tables.proofs.columns.columns_of.Given as goal

abbrev pub invariant-loop-place : goal.invariant-loop-place
invariant-loop-place l = l.columns.items ≡ filter (kind_has l.kind) (take l.place-index l.place-items)
