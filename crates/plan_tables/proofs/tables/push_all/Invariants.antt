-- What is written and the tables of the kinds that are left are the whole.
use Rattle.plan_tables.proofs.Common.{◌≡◌, ◌++◌, flat_map, all_kinds, named_text}
use Rattle.plan_tables.proofs.KindLaws.{kinds_from}
use Rattle.plan_tables.proofs.tables.push_all.Given as goal

abbrev pub invariant-loop-kind : goal.invariant-loop-kind
invariant-loop-kind l =
    l.out.items ++ flat_map (named_text l.sets l.fn.form l.plan) (kinds_from l.kind) ≡ l.fn.out.items ++ flat_map (named_text l.sets l.fn.form l.plan) all_kinds
