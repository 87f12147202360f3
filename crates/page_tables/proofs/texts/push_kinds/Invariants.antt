-- What is written and the tables that are left are the whole.
use Rattle.std.proofs.Common.{◌≡◌, ◌++◌, drop}
use Rattle.page_tables.specs.PageTables.{kinds_text}
use Rattle.page_tables.proofs.texts.push_kinds.Given as goal

abbrev pub invariant-loop-kind : goal.invariant-loop-kind
invariant-loop-kind l = l.out.items ++ kinds_text l.form l.sets l.plan (drop l.kind-index l.kinds) ≡ l.fn.out.items ++ kinds_text l.form l.sets l.plan l.kinds
