use Rattle.row_book.proofs.Common.{ℕ, ◌<◌, ◌≤◌, life_of}
use Rattle.row_book.proofs.factors.longest_life.Given as goal

-- the lives so far are no longer than the longest
abbrev pub invariant-loop-technology : goal.invariant-loop-technology
invariant-loop-technology l = (t : ℕ) → t < l.technology → life_of l.model.facts l.region t ≤ l.longest
