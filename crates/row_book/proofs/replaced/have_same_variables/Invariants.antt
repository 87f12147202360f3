-- The entries from here on are at the same variables exactly where all of them are.
use Rattle.row_book.proofs.Common.{◌≡◌, drop, same_variables}
use Rattle.row_book.proofs.replaced.have_same_variables.Given as goal

abbrev pub invariant-loop-i : goal.invariant-loop-i
invariant-loop-i l = same_variables (drop l.i l.entries) (drop l.i l.others) ≡ same_variables l.entries l.others
