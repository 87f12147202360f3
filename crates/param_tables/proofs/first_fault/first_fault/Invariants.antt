use Rattle.param_tables.proofs.GapLaws.{IsWalked}
use Rattle.param_tables.proofs.first_fault.first_fault.Given as goal

abbrev pub invariant-loop-i : goal.invariant-loop-i
invariant-loop-i l = IsWalked l.range l.missing l.table.places.items l.table.values.items l.next l.i
