-- No kind has the word.
use Rattle.std.proofs.Common.{◌<◌, arith}
use Rattle.plan_files.proofs.names.kind_of.Goals as goal

pub returns-clause-alone : goal.returns-clause-alone
returns-clause-alone c other is word = let passed : other < c.loop-kind.kind = omega (arith, is.1, c.loop-kind-test.false) in absurd (c.loop-kind.invariant other is passed word)
