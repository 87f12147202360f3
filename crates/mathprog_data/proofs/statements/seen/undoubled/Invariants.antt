use Rattle.mathprog_data.proofs.Common.{◌≡◌, false, drop, ◌++◌, undoubled}
use Rattle.mathprog_data.proofs.statements.seen.undoubled.Given as goal

abbrev pub invariant-loop-c : goal.invariant-loop-c
invariant-loop-c l = l.bytes.items ++ undoubled l.quote l.second (drop l.c-index l.inner) ≡ undoubled l.quote false l.inner
