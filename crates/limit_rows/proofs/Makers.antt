-- The technologies that make a fuel are technologies.
use Rattle.std.proofs.Common.{◌≡◌, ℕ, zero, suc, ◌+◌, ◌<◌, ◌≤◌, Bool, List, filter, All, sym, subst, arith}
use Rattle.std.specs.List.{AllByRecursion, range_with_len}
use Rattle.std.proofs.lemmas.List.Elements.{All-filter, All-from_recursion}

below_end : (from count n : ℕ) → from + count ≤ n → AllByRecursion (λ i. i < n) (range_with_len from count)
below_end from zero n h = tt
below_end from (suc count) n h = (omega (arith, h), below_end (from + 1) count n (omega (arith, h)))

-- positions of a set that pass a test are positions of it
pub below_count : (test : ℕ → Bool) (count : ℕ) (kept : List ℕ) → kept ≡ filter test (range_with_len 0 count) → All (λ i. i < count) kept
below_count test count kept is =
    subst (All (λ i. i < count)) (sym is)
    (All-filter test (λ i. i < count) (range_with_len 0 count) (All-from_recursion (λ i. i < count) (range_with_len 0 count) (below_end 0 count count (omega arith))))
