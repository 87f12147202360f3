-- Keys that ascend, and where one of them stands.
use Rattle.plan_files.proofs.Common.{◌≡◌, ℕ, zero, suc, ◌<◌, true, false, List, [], ◌∷◌, length, map, get_or, Option, Some, None, inl, inr, refl, sym, ap, ◌∙◌, subst, arith, add-one, IsTotalOrder, AllByRecursion, IfSome, is_lt, ordering_index, ordering_reverse, Ordering, cases_lt, cases_order, get_or-map, length-map, ascends, before_first, ascends-first, both_passed, Fields, IsEntry}
use Rattle.std.specs.List.Sorted.{IsNonDecreasingBy, IsPartitionPoint, IsSortedBy}
use Rattle.std.specs.declared.cmp.Ordering.TheVariants.{Less, Equal as Alike, Greater}
use Rattle.std.proofs.lemmas.List.Sorted.{searchable_from_sorted}
use Rattle.std.proofs.lemmas.Map.Lookups.{CmpEqualImpliesEq}

pub all_at : {A : Type 0} (P : A → Type 0) (xs : List A) (i : ℕ) (d : A) → AllByRecursion P xs → i < length xs → P (get_or xs i d)
all_at P [] i d all h = absurd (omega arith)
all_at P (x ∷ xs) zero d all h = all.0
all_at P (x ∷ xs) (suc i) d all h = all_at P xs i d all.1 (omega arith)

pub not_less : Less ≡ Alike → ⊥
not_less e = cc

not_greater : Greater ≡ Alike → ⊥
not_greater e = cc

abbrev pub or_key : {K : Type 0} → K → Option K → K
or_key key None = key
or_key key (Some found) = found

abbrev pub or_number : ℕ → Option ℕ → ℕ
or_number n found = or_key n found

module _ {K : Type 0} (cmp : K → K → Ordering) (total : IsTotalOrder cmp) where
  less_at : (keys : List K) → ascends cmp keys ≡ true → (i j : ℕ) (d : K) → i < j → j < length keys → cmp (get_or keys i d) (get_or keys j d) ≡ Less
  less_at [] h i j d k l = absurd (omega arith)
  less_at (x ∷ xs) h zero zero d k l = absurd (omega arith)
  less_at (x ∷ xs) h zero (suc j) d k l = ascends-first cmp total x xs h j d (omega arith)
  less_at (x ∷ xs) h (suc i) zero d k l = absurd (omega arith)
  less_at (x ∷ xs) h (suc i) (suc j) d k l = less_at xs (both_passed (before_first cmp x xs) (ascends cmp xs) h).1 i j d (omega arith) (omega arith)

  next_not_less : (keys : List K) → ascends cmp keys ≡ true → (i : ℕ) (d : K) → suc i < length keys → is_lt (cmp (get_or keys (suc i) d) (get_or keys i d)) ≡ false
  next_not_less keys h i d k = ap is_lt (total.antisymm (get_or keys (suc i) d) (get_or keys i d) ∙ ap ordering_reverse (less_at keys h i (suc i) d (omega arith) k))

  sorted : (keys : List K) → ascends cmp keys ≡ true → IsSortedBy (λ a b. is_lt (cmp a b)) keys
  sorted keys h i d low k = rw (add-one i) (next_not_less keys h i d (omega arith))

  pub searchable : (keys : List K) (key : K) → ascends cmp keys ≡ true → IsNonDecreasingBy (λ x. ordering_index (cmp x key)) keys
  searchable keys key h = searchable_from_sorted total (λ x. x) keys key (sorted keys h)

  -- what is alike is alike the other way round
  turned : (x y : K) → cmp x y ≡ Alike → cmp y x ≡ Alike
  turned x y e = total.antisymm y x ∙ ap ordering_reverse e

  -- two keys that are alike a third are alike
  alike_both : (x y key : K) → cmp x key ≡ Alike → cmp y key ≡ Alike → cmp x y ≡ Alike
  alike_both x y key e f = total.congr x key y e ∙ turned y key f

  pub alike_itself : (x : K) → cmp x x ≡ Alike
  alike_itself x = itself (cmp x x) (total.antisymm x x)
    where
      itself : (o : Ordering) → o ≡ ordering_reverse o → o ≡ Alike
      itself Less e = absurd (cc e)
      itself Alike e = refl
      itself Greater e = absurd (cc e)

  -- no two places have keys that are alike
  pub alike_alone : (keys : List K) (key : K) → ascends cmp keys ≡ true → (i j : ℕ) (d : K) → i < length keys → j < length keys → cmp (get_or keys i d) key ≡ Alike → cmp (get_or keys j d) key ≡ Alike → i ≡ j
  alike_alone keys key h i j d k l e f = elim (cases_order i j) [
    | inl same ↦ same
    | inr apart ↦ elim apart [
      | inl below ↦ absurd (not_less (sym (less_at keys h i j d below l) ∙ alike_both (get_or keys i d) (get_or keys j d) key e f))
      | inr above ↦ absurd (not_less (sym (less_at keys h j i d above k) ∙ alike_both (get_or keys j d) (get_or keys i d) key f e))
    ]
  ]

  -- between the keys around it none is alike
  pub parted_none : (keys : List K) (key : K) (at : ℕ) → IsPartitionPoint (λ x. cmp x key ≡ Less) (λ x. cmp x key ≡ Greater) keys at → (j : ℕ) (d : K) → j < length keys → cmp (get_or keys j d) key ≡ Alike → ⊥
  parted_none keys key at parted j d l e = elim (cases_lt j at) [
    | inl below ↦ not_less (sym (parted.0 j d (omega arith) below) ∙ e)
    | inr above ↦ not_greater (sym (parted.1 j d above l) ∙ e)
  ]

  -- the place of a key is the entry of its name, where no other key that is listed has the name
  pub entry_of : CmpEqualImpliesEq cmp → (f : K → Fields) (keys : List K) (name : Fields) (key : K) (Listed : K → Type 0) → AllByRecursion Listed keys → f key ≡ name → ((k : K) → Listed k → f k ≡ name → Some key ≡ Some k)
      → (o : Option ℕ) → IfSome o (λ i. (i < length keys) × ((d : K) → cmp (get_or keys i d) key ≡ Alike)) → ((j : ℕ) (d : K) → j < length keys → cmp (get_or keys j d) key ≡ Alike → o ≡ Some j)
      → IsEntry (map f keys) name o
  entry_of exact f keys name key Listed listed named alone None here only =
      λ j l e. none_some j (only j key (inside l) (listed_alike j (inside l) e))
    where
      inside : {j : ℕ} → j < length (map f keys) → j < length keys
      inside {j} l = subst (λ n. j < n) (length-map keys f) l

      none_some : (j : ℕ) → None ≡ Some j → ⊥
      none_some j e = cc

      listed_alike : (j : ℕ) → j < length keys → get_or (map f keys) j [] ≡ name → cmp (get_or keys j key) key ≡ Alike
      listed_alike j l e = subst (λ x. cmp x key ≡ Alike) (ap (or_key key) (alone (get_or keys j key) (all_at Listed keys j key listed l) (sym (get_or-map f keys j key [] l) ∙ e))) (alike_itself key)
  entry_of exact f keys name key Listed listed named alone (Some i) here only = (
    subst (λ n. i < n) (sym (length-map keys f)) here.0,
    get_or-map f keys i key [] here.0 ∙ ap f (exact (get_or keys i key) key (here.1 key)) ∙ named,
    λ j l e. sym (ap (or_number i) (only j key (inside l) (listed_alike j (inside l) e))),
  )
    where
      inside : {j : ℕ} → j < length (map f keys) → j < length keys
      inside {j} l = subst (λ n. j < n) (length-map keys f) l

      listed_alike : (j : ℕ) → j < length keys → get_or (map f keys) j [] ≡ name → cmp (get_or keys j key) key ≡ Alike
      listed_alike j l e = subst (λ x. cmp x key ≡ Alike) (ap (or_key key) (alone (get_or keys j key) (all_at Listed keys j key listed l) (sym (get_or-map f keys j key [] l) ∙ e))) (alike_itself key)

-- where no key that is listed has the name, it has no entry
pub no_entry_of : {K : Type 0} (f : K → Fields) (keys : List K) (name : Fields) (d : K) (Listed : K → Type 0) → AllByRecursion Listed keys → ((k : K) → Listed k → f k ≡ name → None ≡ Some k) → IsEntry (map f keys) name None
no_entry_of {K} f keys name d Listed listed none =
    λ j l e. none_some (get_or keys j d) (none (get_or keys j d) (all_at Listed keys j d listed (inside l)) (sym (get_or-map f keys j d [] (inside l)) ∙ e))
  where
    inside : {j : ℕ} → j < length (map f keys) → j < length keys
    inside {j} l = subst (λ n. j < n) (length-map keys f) l

    none_some : (k : K) → None ≡ Some k → ⊥
    none_some k e = cc
