-- The terms from here on make of the left side what all of them make of the first.
use Rattle.row_core.proofs.Common.{◌≡◌, ℕ, Var, Amount, GivesTerms}
use Rattle.row_core.proofs.RepeatedLaws.{with_rest_of_all}
use Rattle.row_core.proofs.left_side.LeftSide.add_each.Given as goal

abbrev pub invariant-loop-i : goal.invariant-loop-i
invariant-loop-i g l =
    (term : ℕ → Var × Amount) → GivesTerms l.fn.count (goal.F-post g l.fn.term) term
    → with_rest_of_all term l.fn.count 0 l.fn.self ≡ with_rest_of_all term l.fn.count l.i l.self
