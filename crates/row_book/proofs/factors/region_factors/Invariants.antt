use Rattle.row_book.proofs.Common.{◌≡◌, ℕ, length, Some, slice_get, Discounting, AreFactorsOf}
use Rattle.row_book.proofs.factors.region_factors.Given as goal

-- those of the regions so far
abbrev pub invariant-loop-region : goal.invariant-loop-region
invariant-loop-region l =
    (length l.factors.items ≡ l.region)
    × ((r : ℕ) (one : Discounting) → slice_get l.factors.items r ≡ Some one → AreFactorsOf l.places l.model.facts r one)
