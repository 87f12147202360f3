use Rattle.std.proofs.Common.{arith}
use Rattle.mathprog_data.proofs.SymbolLemmas.{seen-quoted}
use Rattle.mathprog_data.proofs.statements.seen.quoted.Goals as goal

pub returns-then-inner-gt1 : goal.returns-then-inner-gt1
returns-then-inner-gt1 c = seen-quoted c.args.quote c.args.inner.now (omega arith) (λ one. absurd (omega arith))
