-- The numbers of the equations and of the kinds: ranges of numbers, and tests that each of them passes.
use Rattle.row_book.proofs.Common.{◌≡◌, ℕ, zero, suc, ◌+◌, ◌<◌, ◌≤◌, Bool, true, false, ◌||◌, inl, inr, nat_eq, ap, sym, refl, subst, arith, eq-eqb, eqb-true, list_all, list_any, range_with_len, if◌then◌else◌, eq-or-lt_of_le, and_parts, or_cases, Has}

or_later : (a b : Bool) → b ≡ true → (a || b) ≡ true
or_later true b e = refl
or_later false b e = e

-- a number that is found in a range lies in it
pub in-range : (n a k : ℕ) → list_any (nat_eq n) (range_with_len a k) ≡ true → (a ≤ n) × (n < a + k)
in-range n a zero found = absurd (cc found)
in-range n a (suc k) found =
    elim (or_cases (nat_eq n a) (list_any (nat_eq n) (range_with_len (a + 1) k)) found) [
      | inl here ↦ let same : n ≡ a = eqb-true n a here in (omega (arith, same), omega (arith, same))
      | inr later ↦ let rest = in-range n (a + 1) k later in (omega (arith, rest.0), omega (arith, rest.1))
    ]

-- and one that lies in it is found
pub from-range : (n a k : ℕ) → a ≤ n → n < a + k → list_any (nat_eq n) (range_with_len a k) ≡ true
from-range n a zero from to = absurd (omega (arith, from, to))
from-range n a (suc k) from to =
    elim (eq-or-lt_of_le from) [
      | inl same ↦ ap (λ b. b || list_any (nat_eq n) (range_with_len (a + 1) k)) (eq-eqb n a (sym same))
      | inr above ↦ or_later (nat_eq n a) (list_any (nat_eq n) (range_with_len (a + 1) k)) (from-range n (a + 1) k (omega (arith, above)) (omega (arith, to)))
    ]

pub Has-range : (a k n : ℕ) → a ≤ n → n < a + k → Has (range_with_len a k) n
Has-range a zero n from to = absurd (omega (arith, from, to))
Has-range a (suc k) n from to =
    elim (eq-or-lt_of_le from) [ inl same ↦ inl same | inr above ↦ inr (Has-range (a + 1) k n (omega (arith, above)) (omega (arith, to))) ]

pub range-has : (a k n : ℕ) → Has (range_with_len a k) n → (a ≤ n) × (n < a + k)
range-has a zero n has = absurd has
range-has a (suc k) n (inl same) = (omega (arith, same), omega (arith, same))
range-has a (suc k) n (inr later) = let rest = range-has (a + 1) k n later in (omega (arith, rest.0), omega (arith, rest.1))

-- a test that all numbers of a range pass, at one of them
pub passes-at : (test : ℕ → Bool) (a k n : ℕ) → list_all test (range_with_len a k) ≡ true → a ≤ n → n < a + k → test n ≡ true
passes-at test a zero n passes from to = absurd (omega (arith, from, to))
passes-at test a (suc k) n passes from to =
    let parts = and_parts (test a) (list_all test (range_with_len (a + 1) k)) passes in
    elim (eq-or-lt_of_le from) [
      | inl same ↦ subst (λ m. test m ≡ true) same parts.0
      | inr above ↦ passes-at test (a + 1) k n parts.1 (omega (arith, above)) (omega (arith, to))
    ]

-- what a test asks where something else isn't so
pub unless-so : (so test : Bool) → so ≡ false → (if so then true else test) ≡ true → test ≡ true
unless-so true test e passes = absurd (cc e)
unless-so false test e passes = passes

-- what it asks where something is so
pub where-so : (so test : Bool) → so ≡ true → (if so then test else true) ≡ true → test ≡ true
where-so true test e passes = passes
where-so false test e passes = absurd (cc e)
