use Rattle.row_book.proofs.Common.{◌≤◌, ◌-◌, places_of, AreTallied}
use Rattle.row_book.proofs.tally.Tally.add_equations.Given as goal

-- the rows of the equations so far were looked at
abbrev pub invariant-loop-eq : goal.invariant-loop-eq
invariant-loop-eq l = (1 ≤ l.eq) × AreTallied (places_of l.factors) l.model.facts (l.eq - 1) l.self
