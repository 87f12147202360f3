-- The rows so far are gone through.
use Rattle.command_answers.proofs.Common.{◌≡◌, take, definers}
use Rattle.command_answers.proofs.methods.definers.Given as goal

abbrev pub invariant-loop-i : goal.invariant-loop-i
invariant-loop-i l = l.defs.items ≡ definers (take l.i l.book.rows)
