-- A value more, or a record more that is passed over.
use Rattle.std.proofs.Common.{refl}
use Rattle.solver_answers.proofs.StartLaws.{one_passed, one_taken, one_unheard}
use Rattle.solver_answers.proofs.start.StartValues.take.Goals as goal

pub returns-in-Value : goal.returns-in-Value
returns-in-Value c count before are = rw c.in-Value.is (one_taken count before c.args.self.now _ c.in-Value.place c.in-Value.value are c.put.ensures refl refl)

pub returns-in-Passed : goal.returns-in-Passed
returns-in-Passed c count before are = rw c.in-Passed.is (one_passed count before c.args.self.now _ are refl refl refl)

pub returns-in-Blank : goal.returns-in-Blank
returns-in-Blank c count before are = one_unheard count before c.args.found c.in-Blank.is c.args.self.now are
