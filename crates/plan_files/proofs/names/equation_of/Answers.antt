-- No equation has the word.
use Rattle.std.proofs.Common.{◌<◌, arith}
use Rattle.plan_files.proofs.names.equation_of.Goals as goal

pub returns-clause-alone : goal.returns-clause-alone
returns-clause-alone c other is word = let passed : other < c.loop-eq.eq = omega (arith, is.1, c.loop-eq-test.false) in absurd (c.loop-eq.invariant other is passed word)
