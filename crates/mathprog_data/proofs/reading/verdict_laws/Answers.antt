use Rattle.mathprog_data.proofs.StatementLawsHold.{statement_laws}
use Rattle.mathprog_data.proofs.VerdictLaws.{some_verdict, not_both, one_meaning, one_fault}
use Rattle.mathprog_data.proofs.reading.verdict_laws.Goals as goal

pub returns-clause-some : goal.returns-clause-some
returns-clause-some c = some_verdict statement_laws

pub returns-clause-not_both : goal.returns-clause-not_both
returns-clause-not_both c = not_both statement_laws

pub returns-clause-one_meaning : goal.returns-clause-one_meaning
returns-clause-one_meaning c = one_meaning statement_laws

pub returns-clause-one_fault : goal.returns-clause-one_fault
returns-clause-one_fault c = one_fault statement_laws
