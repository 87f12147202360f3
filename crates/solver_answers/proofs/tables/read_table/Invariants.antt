-- The records so far.
use Rattle.solver_answers.proofs.Common.{length, variable_names, records_of}
use Rattle.solver_answers.proofs.TableLaws.{IsSoFar}
use Rattle.solver_answers.proofs.tables.read_table.Given as goal

abbrev pub invariant-loop-number : goal.invariant-loop-number
invariant-loop-number l = IsSoFar (variable_names l.sets l.vars) (records_of l.text) (length l.vars) l.reader l.number l.start
