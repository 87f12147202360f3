-- The instances: what each of them keeps, and where it stands in their list.
use Rattle.row_book.proofs.Common.{◌≡◌, ℕ, zero, suc, ◌<◌, true, ◌&&◌, List, [], ◌∷◌, nat_eq, ap, ◌∙◌, arith, inl, inr, subst, Some, both_true, AllByRecursion, list_any, and_parts, cases_order, ordering_reverse, slice_get, Ordering, Less, Greater, Data, RowName, IsEquation, row_name_cmp, row_name_cmp_total, equation_numbers, instances, is_index, is_instance, stands_at, subscripts_of, Has, Has-instances, Every, Sorted}
use Rattle.row_book.proofs.Lists.{all-from}
use Rattle.row_book.proofs.Numbers.{from-range, in-range}

-- ---- what they keep

-- the equation of this name has an instance there
pub record IsInstance (d : Data) (name : RowName) : Type 0 where
  pub equation : IsEquation name.eq
  pub within : is_index d (subscripts_of name.eq) name.index ≡ true
  pub stands : stands_at d name.eq name.index ≡ true

pub instance-parts : (d : Data) (name : RowName) → is_instance d name ≡ true → IsInstance d name
instance-parts d name passes =
    let tests = and_parts (list_any (nat_eq name.eq) equation_numbers && is_index d (subscripts_of name.eq) name.index) (stands_at d name.eq name.index) passes in
    let first = and_parts (list_any (nat_eq name.eq) equation_numbers) (is_index d (subscripts_of name.eq) name.index) tests.0 in
    let range = in-range name.eq 1 64 first.0 in
    record { equation = (range.0, omega (arith, range.1)); within = first.1; stands = tests.1 }

-- each one of the list
pub all-instances : (d : Data) → AllByRecursion (IsInstance d) (instances d)
all-instances d = all-from (IsInstance d) (instances d) (λ name h. instance-parts d name ((Has-instances d name).0 h))

-- and no others
pub Has-instance : (d : Data) (name : RowName) → IsInstance d name → Has (instances d) name
Has-instance d name instance =
    (Has-instances d name).1
    (both_true (both_true (from-range name.eq 1 64 instance.equation.0 (omega (arith, instance.equation.1))) instance.within) instance.stands)

pub all-at : {A : Type 0} (P : A → Type 0) (xs : List A) (i : ℕ) (x : A) → AllByRecursion P xs → slice_get xs i ≡ Some x → P x
all-at P [] i x of_all at = absurd (cc at)
all-at P (y ∷ xs) zero x of_all at = let same : y ≡ x = cc in subst P same of_all.0
all-at P (y ∷ xs) (suc i) x of_all at = all-at P xs i x of_all.1 at

-- ---- places in a sorted list

every-at : {A : Type 0} (P : A → Type 0) (xs : List A) (i : ℕ) (x : A) → Every P xs → slice_get xs i ≡ Some x → P x
every-at P [] i x of_all at = absurd (cc at)
every-at P (y ∷ xs) zero x of_all at = let same : y ≡ x = cc in subst P same of_all.0
every-at P (y ∷ xs) (suc i) x of_all at = every-at P xs i x of_all.1 at

-- an earlier element is before a later one
pub sorted-at : (names : List RowName) (i j : ℕ) (a b : RowName) → Sorted row_name_cmp names → i < j → slice_get names i ≡ Some a → slice_get names j ≡ Some b → row_name_cmp a b ≡ Less
sorted-at [] i j a b sorted less at bt = absurd (cc at)
sorted-at (n ∷ names) zero zero a b sorted less at bt = absurd (omega (arith, less))
sorted-at (n ∷ names) zero (suc j) a b sorted less at bt =
    let same : n ≡ a = cc in
    subst (λ m. row_name_cmp m b ≡ Less) same (every-at (λ m. row_name_cmp n m ≡ Less) names j b sorted.0 bt)
sorted-at (n ∷ names) (suc i) zero a b sorted less at bt = absurd (omega (arith, less))
sorted-at (n ∷ names) (suc i) (suc j) a b sorted less at bt = sorted-at names i j a b sorted.1 (omega (arith, less)) at bt

-- a name isn't before itself
never_less : (o : Ordering) → o ≡ Less → o ≡ Greater → ⊥
never_less o less greater = cc

not_before_self : (a : RowName) → row_name_cmp a a ≡ Less → ⊥
not_before_self a less = never_less (row_name_cmp a a) less (row_name_cmp_total.antisymm a a ∙ ap ordering_reverse less)

-- so it stands once
pub sorted-once : (names : List RowName) (i j : ℕ) (a : RowName) → Sorted row_name_cmp names → slice_get names i ≡ Some a → slice_get names j ≡ Some a → i ≡ j
sorted-once names i j a sorted at bt =
    elim (cases_order i j) [
      | inl same ↦ same
      | inr rest ↦
          elim rest [
            | inl less ↦ absurd (not_before_self a (sorted-at names i j a a sorted less at bt))
            | inr more ↦ absurd (not_before_self a (sorted-at names j i a a sorted more bt at))
          ]
    ]
