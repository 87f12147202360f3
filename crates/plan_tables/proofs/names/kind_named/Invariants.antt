-- The kind of the name is one of those that are left.
use Rattle.plan_tables.proofs.Common.{◌≡◌, find, has_name, kind_named}
use Rattle.plan_tables.proofs.KindLaws.{kinds_from}
use Rattle.plan_tables.proofs.names.kind_named.Given as goal

abbrev pub invariant-loop-kind : goal.invariant-loop-kind
invariant-loop-kind l = find (has_name l.name) (kinds_from l.kind) ≡ kind_named l.name
