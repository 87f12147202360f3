-- The years of the model period and the lives of a region, as numbers.
use Rattle.row_book.proofs.Common.{◌≡◌, ℕ, ◌≤◌, ◌&&◌, ◌⊎◌, inl, inr, true, cond, zero, suc, length, List, [], ◌∷◌, ◌++◌, map, refl, nat_le, Some, leb-true, ap, sym, subst, arith, AllByRecursion, All, Contains, slice_get, bytes_eq, and_parts, recursion_from_All, is_lt, nat_cmp, ord_max, cases_order, nat_cmp-equal, nat_cmp-greater, nat_cmp-less, Has, Has-from_Contains}
use Rattle.std.specs.Fmt.{decimal}
use Rattle.model_sets.specs.Years.{is_year, number_of}

-- ---- years

-- no year is above 9999
year_short : (names : List (List ℕ)) (n : ℕ) → AllByRecursion (λ name. is_year name ≡ true) names → Has (map number_of names) n → n ≤ 9999
year_short [] n are has = absurd has
year_short (name ∷ names) n are (inl e) =
    let tests = and_parts (bytes_eq name (decimal (number_of name)) && nat_le 1 (number_of name)) (nat_le (number_of name) 9999) are.0 in
    subst (λ m. m ≤ 9999) e (leb-true (number_of name) 9999 tests.1)
year_short (name ∷ names) n are (inr has) = year_short names n are.1 has

pub year-short : (names : List (List ℕ)) (n : ℕ) → All (λ name. is_year name ≡ true) names → Contains (map number_of names) n → n ≤ 9999
year-short names n are has = year_short names n (recursion_from_All (λ name. is_year name ≡ true) names are) (Has-from_Contains (map number_of names) n has)

-- ---- the longest life

pub both-within : (a b : ℕ) → (a ≤ ord_max nat_cmp a b) × (b ≤ ord_max nat_cmp a b)
both-within a b =
    elim (cases_order a b) [
      | inl same ↦ let greatest : ord_max nat_cmp a b ≡ b = ap (λ o. cond (is_lt o) a b) (nat_cmp-equal b a (sym same)) in (omega (arith, greatest, same), omega (arith, greatest))
      | inr rest ↦
          elim rest [
            | inl less ↦ let greatest : ord_max nat_cmp a b ≡ b = ap (λ o. cond (is_lt o) a b) (nat_cmp-greater b a less) in (omega (arith, greatest, less), omega (arith, greatest))
            | inr more ↦ let greatest : ord_max nat_cmp a b ≡ a = ap (λ o. cond (is_lt o) a b) (nat_cmp-less b a more) in (omega (arith, greatest), omega (arith, greatest, more))
          ]
    ]

-- ---- one after others

-- what stands at a place of a list with one element more
pub place-of_more : {A : Type 0} (xs : List A) (x y : A) (i : ℕ) → slice_get (xs ++ x ∷ []) i ≡ Some y → (slice_get xs i ≡ Some y) ⊎ ((i ≡ length xs) × (x ≡ y))
place-of_more [] x y zero at = let same : x ≡ y = cc in inr (refl, same)
place-of_more [] x y (suc i) at = absurd (cc at)
place-of_more (z ∷ xs) x y zero at = inl at
place-of_more (z ∷ xs) x y (suc i) at =
    elim (place-of_more xs x y i at) [ inl before ↦ inl before | inr last ↦ inr (omega (arith, last.0), last.1) ]
