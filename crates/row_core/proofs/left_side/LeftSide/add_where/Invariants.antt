-- The chosen terms from here on make of the left side what all of them make of the first.
use Rattle.row_core.proofs.Common.{◌≡◌, ℕ, Bool, Var, Amount, GivesTermsWhere}
use Rattle.row_core.proofs.RepeatedLaws.{with_rest}
use Rattle.row_core.proofs.left_side.LeftSide.add_where.Given as goal

abbrev pub invariant-loop-i : goal.invariant-loop-i
invariant-loop-i g l =
    (chosen : ℕ → Bool) (term : ℕ → Var × Amount) → GivesTermsWhere l.fn.count (goal.F-post g l.fn.term) chosen term
    → with_rest chosen term l.fn.count 0 l.fn.self ≡ with_rest chosen term l.fn.count l.i l.self
