-- Entries that ascend by key have at a key what stands where a binary search finds it.
use Rattle.row_core.proofs.Common.{◌≡◌, ℕ, zero, suc, ◌<◌, true, false, List, [], ◌∷◌, length, get_or, refl, sym, ap, ◌∙◌, arith, add-one, inl, inr, if◌then◌else◌, IsTotalOrder, is_lt, is_eq, ordering_index, ordering_reverse, Ordering, Less, Equal, Greater, cases_lt, searchable_from_sorted, value_at, keys_of, before_first, ascends}
use Rattle.std.specs.Prelude.{Some, None}
use Rattle.std.specs.List.Sorted.{IsNonDecreasingBy, IsPartitionPoint, IsSortedBy}
use Rattle.row_core.proofs.AscendingLaws.{both_passed, Less-from_test}

module _ {K A : Type 0} (cmp : K → K → Ordering) (total : IsTotalOrder cmp) where
  -- what is before the first key is before all
  before_all : (x : K) (es : List (K × A)) → ascends cmp (x ∷ keys_of es) ≡ true → (i : ℕ) (d : K × A) → i < length es → cmp x (get_or es i d).0 ≡ Less
  before_all x [] h i d k = absurd (omega arith)
  before_all x (e ∷ es) h zero d k = Less-from_test (cmp x e.0) (both_passed (is_lt (cmp x e.0)) (ascends cmp (e.0 ∷ keys_of es)) h).0
  before_all x (e ∷ es) h (suc i) d k =
      let parts = both_passed (is_lt (cmp x e.0)) (ascends cmp (e.0 ∷ keys_of es)) h in
      total.trans x e.0 (get_or es i d).0 (Less-from_test (cmp x e.0) parts.0) (before_all e.0 es parts.1 i d (omega arith))

  -- no key is less than the one before it
  next_not_less : (es : List (K × A)) → ascends cmp (keys_of es) ≡ true → (i : ℕ) (d : K × A) → suc i < length es → is_lt (cmp (get_or es (suc i) d).0 (get_or es i d).0) ≡ false
  next_not_less [] h i d k = absurd (omega arith)
  next_not_less (e ∷ es) h zero d k =
      ap is_lt (total.antisymm (get_or es 0 d).0 e.0 ∙ ap ordering_reverse (before_all e.0 es h zero d (omega arith)))
  next_not_less (e ∷ es) h (suc i) d k = next_not_less es (both_passed (before_first cmp e.0 (keys_of es)) (ascends cmp (keys_of es)) h).1 i d (omega arith)

  sorted : (es : List (K × A)) → ascends cmp (keys_of es) ≡ true → IsSortedBy (λ a b. is_lt (cmp a.0 b.0)) es
  sorted es h i d low k = rw (add-one i) (next_not_less es h i d (omega arith))

  pub ascends-searchable : (es : List (K × A)) (key : K) → ascends cmp (keys_of es) ≡ true → IsNonDecreasingBy (λ e. ordering_index (cmp e.0 key)) es
  ascends-searchable es key h = searchable_from_sorted total (λ e. e.0) es key (sorted es h)

  -- the entry whose key compares alike is the first that does
  pub value_at-found : (es : List (K × A)) (key : K) → ascends cmp (keys_of es) ≡ true → (i : ℕ) (d : K × A) → i < length es → cmp (get_or es i d).0 key ≡ Equal → value_at cmp es key ≡ Some (get_or es i d).1
  value_at-found [] key h i d k found = absurd (omega arith)
  value_at-found (e ∷ es) key h zero d k found = ap (λ o. if is_eq o then Some e.1 else value_at cmp es key) found
  value_at-found (e ∷ es) key h (suc i) d k found =
      let y : K = (get_or es i d).0 in
      let following : cmp y e.0 ≡ Greater = total.antisymm y e.0 ∙ ap ordering_reverse (before_all e.0 es h i d (omega arith)) in
      let before : cmp e.0 key ≡ Less = total.antisymm e.0 key ∙ ap ordering_reverse (sym (total.congr y key e.0 found) ∙ following) in
      ap (λ o. if is_eq o then Some e.1 else value_at cmp es key) before
      ∙ value_at-found es key (both_passed (before_first cmp e.0 (keys_of es)) (ascends cmp (keys_of es)) h).1 i d (omega arith) found

  -- where no key compares alike there is nothing
  pub value_at-missing : (es : List (K × A)) (key : K) → ((i : ℕ) (d : K × A) → i < length es → is_eq (cmp (get_or es i d).0 key) ≡ false) → value_at cmp es key ≡ None
  value_at-missing [] key h = refl
  value_at-missing (e ∷ es) key h =
      ap (λ b. if b then Some e.1 else value_at cmp es key) (h 0 e (omega arith))
      ∙ value_at-missing es key (λ i d k. h (suc i) d (omega arith))

  pub value_at-parted : (es : List (K × A)) (key : K) (at : ℕ) → IsPartitionPoint (λ e. cmp e.0 key ≡ Less) (λ e. cmp e.0 key ≡ Greater) es at → value_at cmp es key ≡ None
  value_at-parted es key at parted =
      value_at-missing es key (λ i d k. elim (cases_lt i at) [
        | inl below ↦ ap is_eq (parted.0 i d (omega arith) below)
        | inr above ↦ ap is_eq (parted.1 i d above k)
      ])
