use Rattle.mathprog_data.proofs.Common.{◌≡◌, drop, all_ascii_digits}
use Rattle.mathprog_data.proofs.statements.seen.are_digits.Given as goal

abbrev pub invariant-loop-c : goal.invariant-loop-c
invariant-loop-c l = all_ascii_digits (drop l.c-index l.bytes) ≡ all_ascii_digits l.bytes
