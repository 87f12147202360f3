-- The places of columns are those of subscripts, and the kind has each of them.
use Rattle.plan_tables.proofs.Common.{◌≡◌, ℕ, zero, suc, ◌<◌, Bool, true, false, cond, List, [], ◌∷◌, filter, get_or, length, refl, lit<, nat_eq, AllByRecursion, list_any, SetLists, Index, kind_at, IsWithin, by_mode, column_order, columns}
use Rattle.row_core.specs.declared.kind_numbers.TheConstants as k
use Rattle.plan_files.proofs.WithinLaws.{within_at}

-- each is a place of `Index`
pub order_below : (kind : ℕ) → AllByRecursion (λ place. place < 8) (column_order kind)
order_below kind = cases (by_mode kind) (nat_eq kind k.RATE_OF_TOTAL_ACTIVITY)
  where
    cases : (mode total : Bool) → AllByRecursion (λ place. place < 8) (cond mode (0 ∷ 1 ∷ 2 ∷ 3 ∷ 6 ∷ 4 ∷ 5 ∷ 7 ∷ []) (cond total (0 ∷ 1 ∷ 3 ∷ 2 ∷ 4 ∷ 5 ∷ 6 ∷ 7 ∷ []) (0 ∷ 1 ∷ 2 ∷ 3 ∷ 4 ∷ 5 ∷ 6 ∷ 7 ∷ [])))
    cases true total = (lit< tt, (lit< tt, (lit< tt, (lit< tt, (lit< tt, (lit< tt, (lit< tt, (lit< tt, tt))))))))
    cases false true = (lit< tt, (lit< tt, (lit< tt, (lit< tt, (lit< tt, (lit< tt, (lit< tt, (lit< tt, tt))))))))
    cases false false = (lit< tt, (lit< tt, (lit< tt, (lit< tt, (lit< tt, (lit< tt, (lit< tt, (lit< tt, tt))))))))

-- so is the one at whichever index, or 0
pub below_at : (places : List ℕ) (i : ℕ) → AllByRecursion (λ (place : ℕ). place < 8) places → get_or places i 0 < 8
below_at [] i all = lit< tt
below_at (place ∷ places) zero all = all.0
below_at (place ∷ places) (suc i) all = below_at places i all.1

-- there are eight
pub order_length : (kind : ℕ) → length (column_order kind) ≡ 8
order_length kind = cases (by_mode kind) (nat_eq kind k.RATE_OF_TOTAL_ACTIVITY)
  where
    cases : (mode total : Bool) → length {A = ℕ} (cond mode (0 ∷ 1 ∷ 2 ∷ 3 ∷ 6 ∷ 4 ∷ 5 ∷ 7 ∷ []) (cond total (0 ∷ 1 ∷ 3 ∷ 2 ∷ 4 ∷ 5 ∷ 6 ∷ 7 ∷ []) (0 ∷ 1 ∷ 2 ∷ 3 ∷ 4 ∷ 5 ∷ 6 ∷ 7 ∷ []))) ≡ 8
    cases true total = refl
    cases false true = refl
    cases false false = refl

-- of those places that are among others, each is within where the others are
among : (sets : SetLists) (i : Index) (subscripts order : List ℕ) → AllByRecursion (IsWithin sets i) subscripts → AllByRecursion (IsWithin sets i) (filter (λ place. list_any (nat_eq place) subscripts) order)
among sets i subscripts [] all = tt
among sets i subscripts (place ∷ order) all = cases (list_any (nat_eq place) subscripts) refl (among sets i subscripts order all)
  where
    cases : (has : Bool) → list_any (nat_eq place) subscripts ≡ has → AllByRecursion (IsWithin sets i) (filter (λ place. list_any (nat_eq place) subscripts) order)
        → AllByRecursion (IsWithin sets i) (cond has (place ∷ filter (λ place. list_any (nat_eq place) subscripts) order) (filter (λ place. list_any (nat_eq place) subscripts) order))
    cases true is rest = (within_at sets i subscripts all place is, rest)
    cases false is rest = rest

-- the subscripts of a kind's columns
pub columns_within : (sets : SetLists) (i : Index) (kind : ℕ) → AllByRecursion (IsWithin sets i) (kind_at kind).subscripts → AllByRecursion (IsWithin sets i) (columns kind)
columns_within sets i kind all = among sets i (kind_at kind).subscripts (column_order kind) all
