-- What is written and the tables of the kinds that are left are the whole.
use Rattle.result_tables.proofs.Common.{◌≡◌, ◌++◌, drop, map, flat_map, kind_table, table_text}
use Rattle.result_tables.proofs.quantities.push_kind_tables.Given as goal

abbrev pub invariant-loop-kind : goal.invariant-loop-kind
invariant-loop-kind l =
    l.out.items ++ flat_map table_text (map (kind_table l.sets l.vars l.plan) (drop l.kind-index l.kind-items))
    ≡ l.fn.out.items ++ flat_map table_text (map (kind_table l.sets l.vars l.plan) l.kind-items)
