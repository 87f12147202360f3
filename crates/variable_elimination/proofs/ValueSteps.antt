-- Exact values by key: what a map has, what is put into it, and sums over the other keys.
use Rattle.variable_elimination.proofs.Common.{◌≡◌, ℕ, zero, suc, ◌+◌, ◌<◌, ◌≤◌, ℤ, pos, Bool, true, false, ◌&&◌, List, [], ◌∷◌, ◌++◌, cond, map, length, get_or, drop, take, refl, sym, ap, ap₂, ◌∙◌, if◌then◌else◌, Some, None, insert_entry, IsTotalOrder, both_true, AllByRecursion, IsStrictlySortedBy, is_eq, is_lt, match_ordering, ordering_reverse, Ordering, drop_more, at_drop_all, take_more, all_fit, Rational, whole, plus, times, value_of, Frac, all_fit-append, all_fit-nil, sum_from, sum_from_formed, term_formed, keys_of, ascends, before_first, or_zero, valued, value_in, both_passed, Less-from_test, ascends-skip, worth, other_entries}
use Rattle.std.specs.Map.{lookup, keys_of as map_keys}
use Rattle.std.specs.declared.cmp.Ordering.TheVariants.{Less, Equal as Alike, Greater}
use Rattle.row_core.specs.LookUps.{value_at}

-- ---- values by key

alike_by : (o : Ordering) → is_eq o ≡ true → o ≡ Alike
alike_by Less h = absurd (cc h)
alike_by Alike h = refl
alike_by Greater h = absurd (cc h)

module _ {K : Type 0} (cmp : K → K → Ordering) (total : IsTotalOrder cmp) where
  -- two keys compare alike either way
  turned_by : (a b : K) → is_eq (cmp a b) ≡ is_eq (cmp b a)
  turned_by a b = ap is_eq (total.antisymm a b) ∙ back (cmp b a)
    where
      back : (o : Ordering) → is_eq (ordering_reverse o) ≡ is_eq o
      back Less = refl
      back Alike = refl
      back Greater = refl

  -- what a map has at a variable
  pub value_in-get : (es : List (K × Frac)) (v : K) → value_in cmp (map valued es) v ≡ worth (lookup (λ k. is_eq (cmp v k)) es)
  value_in-get [] v = refl
  value_in-get (e ∷ es) v = cases (is_eq (cmp e.0 v)) (is_eq (cmp v e.0)) (turned_by e.0 v) (value_in-get es v)
    where
      cases : (t u : Bool) → t ≡ u → value_in cmp (map valued es) v ≡ worth (lookup (λ k. is_eq (cmp v k)) es)
          → or_zero (if t then Some (value_of e.1) else value_at cmp (map valued es) v) ≡ worth (cond u (Some e.1) (lookup (λ k. is_eq (cmp v k)) es))
      cases true true is rest = refl
      cases true false is rest = absurd (cc is)
      cases false true is rest = absurd (cc is)
      cases false false is rest = rest

  -- the value that was put in is found at its key, and any other at its own
  pub value_in-insert : (values : List (K × Rational)) (v : K) (r : Rational) (w : K) → value_in cmp (insert_entry cmp values v r) w ≡ (if is_eq (cmp w v) then r else value_in cmp values w)
  value_in-insert [] v r w = cases (is_eq (cmp v w)) (turned_by v w)
    where
      cases : (t : Bool) → t ≡ is_eq (cmp w v) → or_zero (if t then Some r else None) ≡ (if is_eq (cmp w v) then r else whole (pos 0))
      cases true is = ap (λ t. if t then r else whole (pos 0)) is
      cases false is = ap (λ t. if t then r else whole (pos 0)) is
  value_in-insert (e ∷ es) v r w = cases (cmp v e.0) refl (value_in-insert es v r w)
    where
      front : (t u : Bool) → t ≡ u → or_zero (if t then Some r else value_at cmp (e ∷ es) w) ≡ (if u then r else value_in cmp (e ∷ es) w)
      front true u is = ap (λ t. if t then r else value_in cmp (e ∷ es) w) is
      front false u is = ap (λ t. if t then r else value_in cmp (e ∷ es) w) is

      same : (t : Bool) → or_zero (if t then Some r else value_at cmp es w) ≡ (if t then r else or_zero (if t then Some e.1 else value_at cmp es w))
      same true = refl
      same false = refl

      later : (t : Bool) → is_eq (cmp e.0 w) ≡ t → cmp v e.0 ≡ Greater → value_in cmp (insert_entry cmp es v r) w ≡ (if is_eq (cmp w v) then r else value_in cmp es w)
          → or_zero (if t then Some e.1 else value_at cmp (insert_entry cmp es v r) w) ≡ (if is_eq (cmp w v) then r else or_zero (if t then Some e.1 else value_at cmp es w))
      later true is k rest =
          let before : cmp e.0 v ≡ Less = total.antisymm e.0 v ∙ ap ordering_reverse k in
          let apart : cmp w v ≡ Less = sym (total.congr e.0 w v (alike_by (cmp e.0 w) is)) ∙ before in
          sym (ap (λ o. if is_eq o then r else e.1) apart)
      later false is k rest = rest

      cases : (o : Ordering) → cmp v e.0 ≡ o → value_in cmp (insert_entry cmp es v r) w ≡ (if is_eq (cmp w v) then r else value_in cmp es w)
          → value_in cmp (match_ordering o ((v, r) ∷ e ∷ es) ((e.0, r) ∷ es) (e ∷ insert_entry cmp es v r)) w ≡ (if is_eq (cmp w v) then r else value_in cmp (e ∷ es) w)
      cases Less is rest = front (is_eq (cmp v w)) (is_eq (cmp w v)) (turned_by v w)
      cases Alike is rest =
          same (is_eq (cmp e.0 w)) ∙ ap (λ t. if t then r else value_in cmp (e ∷ es) w) (ap is_eq (sym (total.congr v e.0 w is)) ∙ turned_by v w)
      cases Greater is rest = later (is_eq (cmp e.0 w)) refl is rest

  -- one fraction put in is one value put in
  pub insert-valued : (es : List (K × Frac)) (v : K) (f : Frac) → map {A = K × Frac} valued (insert_entry cmp es v f) ≡ insert_entry cmp (map valued es) v (value_of f)
  insert-valued [] v f = refl
  insert-valued (e ∷ es) v f = cases (cmp v e.0) (insert-valued es v f)
    where
      cases : (o : Ordering) → map {A = K × Frac} valued (insert_entry cmp es v f) ≡ insert_entry cmp (map valued es) v (value_of f)
          → map valued (match_ordering o ((v, f) ∷ e ∷ es) ((e.0, f) ∷ es) (e ∷ insert_entry cmp es v f))
          ≡ match_ordering o ((v, value_of f) ∷ valued e ∷ map valued es) ((e.0, value_of f) ∷ map valued es) (valued e ∷ insert_entry cmp (map valued es) v (value_of f))
      cases Less rest = refl
      cases Alike rest = refl
      cases Greater rest = ap {B = List (K × Rational)} (λ rs. valued e ∷ rs) rest

  -- what comes after all of a list is put at its end
  pub insert-last : {A : Type 0} (es : List (K × A)) (v : K) (a : A) → ascends cmp (keys_of (es ++ (v, a) ∷ [])) ≡ true → insert_entry cmp es v a ≡ es ++ (v, a) ∷ []
  insert-last [] v a h = refl
  insert-last {A} (e ∷ es) v a h =
      ap (λ o. match_ordering o ((v, a) ∷ e ∷ es) ((e.0, a) ∷ es) (e ∷ insert_entry cmp es v a)) (total.antisymm v e.0 ∙ ap ordering_reverse (first_before es h))
      ∙ ap {B = List (K × A)} (λ fs. e ∷ fs) (insert-last es v a (both_passed (before_first cmp e.0 (keys_of (es ++ (v, a) ∷ []))) (ascends cmp (keys_of (es ++ (v, a) ∷ []))) h).1)
    where
      first_before : (fs : List (K × A)) → ascends cmp (e.0 ∷ keys_of (fs ++ (v, a) ∷ [])) ≡ true → cmp e.0 v ≡ Less
      first_before [] k = Less-from_test (cmp e.0 v) (both_passed (before_first cmp e.0 (v ∷ [])) true k).0
      first_before (f ∷ fs) k = first_before fs (ascends-skip cmp total e.0 f.0 (keys_of (fs ++ (v, a) ∷ [])) k)

  -- a prefix of an ascending list ascends
  ascends-front : {A : Type 0} (es : List (K × A)) (n : ℕ) → ascends cmp (keys_of es) ≡ true → ascends cmp (keys_of (take n es)) ≡ true
  ascends-front es zero h = refl
  ascends-front [] (suc n) h = refl
  ascends-front {A} (e ∷ es) (suc n) h =
      let parts = both_passed (before_first cmp e.0 (keys_of es)) (ascends cmp (keys_of es)) h in
      both_true (before es n parts.0) (ascends-front es n parts.1)
    where
      before : (fs : List (K × A)) (m : ℕ) → before_first cmp e.0 (keys_of fs) ≡ true → before_first cmp e.0 (keys_of (take m fs)) ≡ true
      before fs zero k = refl
      before [] (suc m) k = refl
      before (f ∷ fs) (suc m) k = k

  -- the next of an ascending list is put after those before it
  pub insert-next : {A : Type 0} (es : List (K × A)) (i : ℕ) (d e : K × A) → i < length es → e ≡ get_or es i d → ascends cmp (keys_of es) ≡ true → insert_entry cmp (take i es) e.0 e.1 ≡ take (i + 1) es
  insert-next es i d e h is up =
      let next : take (i + 1) es ≡ take i es ++ e ∷ [] = take_more es i d h ∙ ap (λ f. take i es ++ f ∷ []) (sym is) in
      insert-last (take i es) e.0 e.1 (ap (λ fs. ascends cmp (keys_of fs)) (sym next) ∙ ascends-front es (i + 1) up) ∙ sym next

  -- ---- the keys of a map ascend

  same_keys : {A : Type 0} (es : List (K × A)) → keys_of es ≡ map_keys es
  same_keys [] = refl
  same_keys (e ∷ es) = ap {B = List K} (λ vs. e.0 ∷ vs) (same_keys es)

  first_passes : (v : K) (vs : List K) → AllByRecursion (λ w. cmp v w ≡ Less) vs → before_first cmp v vs ≡ true
  first_passes v [] first = refl
  first_passes v (w ∷ vs) first = ap is_lt first.0

  -- a strictly sorted list ascends
  pub ascends-from_sorted : (vs : List K) → IsStrictlySortedBy cmp vs → ascends cmp vs ≡ true
  unfolding IsStrictlySortedBy
  ascends-from_sorted [] sorted = refl
  ascends-from_sorted (v ∷ vs) sorted = ap (λ b. b && ascends cmp vs) (first_passes v vs sorted.0) ∙ ascends-from_sorted vs sorted.1

  pub keys-ascend : {A : Type 0} (es : List (K × A)) → IsStrictlySortedBy cmp (map_keys es) → ascends cmp (keys_of es) ≡ true
  keys-ascend es sorted = ap (ascends cmp) (same_keys es) ∙ ascends-from_sorted (map_keys es) sorted

-- ---- the sum of the other entries, of the list that the code reads

pub next_entry : {A : Type 0} (es : List A) (i : ℕ) (e : A) → i < length es → e ≡ get_or es i e → drop i es ≡ e ∷ drop (i + 1) es
next_entry {A} es i e h is = drop_more es i e h ∙ ap {B = List A} (λ f. f ∷ drop (i + 1) es) (sym is)

-- what doesn't compare alike isn't
pub not_alike : (o : Ordering) → (o ≡ Alike → ⊥) → is_eq o ≡ false
not_alike Less h = refl
not_alike Alike h = absurd (h refl)
not_alike Greater h = refl

module _ {K : Type 0} (cmp : K → K → Ordering) (value : K → Rational) (v : K) where
  -- what is left of the sum, and of what it forms
  abbrev pub sum_left : Rational → List (K × ℤ) → Rational
  sum_left s es = sum_from value s (other_entries cmp v es)

  abbrev pub formed_left : Rational → List (K × ℤ) → Bool
  formed_left s es = all_fit (sum_from_formed value s (other_entries cmp v es))

  module _ (left rest : List (K × ℤ)) (e : K × ℤ) (s : Rational) (is : left ≡ e ∷ rest) where
    pub skip-sum : is_eq (cmp e.0 v) ≡ true → sum_left s left ≡ sum_left s rest
    skip-sum h = ap (sum_left s) is ∙ ap (λ (t : Bool). sum_from value s (if t then other_entries cmp v rest else (e ∷ other_entries cmp v rest))) h

    pub skip-formed : is_eq (cmp e.0 v) ≡ true → formed_left s left ≡ formed_left s rest
    skip-formed h = ap (formed_left s) is ∙ ap (λ (t : Bool). all_fit (sum_from_formed value s (if t then other_entries cmp v rest else (e ∷ other_entries cmp v rest)))) h

    pub take-sum : (next : Rational) → is_eq (cmp e.0 v) ≡ false → next ≡ plus s (times (whole e.1) (value e.0)) → sum_left s left ≡ sum_left next rest
    take-sum next h k =
        ap (sum_left s) is ∙ ap (λ (t : Bool). sum_from value s (if t then other_entries cmp v rest else (e ∷ other_entries cmp v rest))) h
        ∙ ap (λ n. sum_left n rest) (sym k)

    formed-parts : is_eq (cmp e.0 v) ≡ false → formed_left s left ≡ (all_fit (term_formed s e.1 (value e.0)) && formed_left (plus s (times (whole e.1) (value e.0))) rest)
    formed-parts h =
        ap (formed_left s) is ∙ ap (λ (t : Bool). all_fit (sum_from_formed value s (if t then other_entries cmp v rest else (e ∷ other_entries cmp v rest)))) h
        ∙ all_fit-append (term_formed s e.1 (value e.0)) (sum_from_formed value (plus s (times (whole e.1) (value e.0))) (other_entries cmp v rest))

    pub take-formed : (next : Rational) → is_eq (cmp e.0 v) ≡ false → next ≡ plus s (times (whole e.1) (value e.0)) → all_fit (term_formed s e.1 (value e.0)) ≡ true → formed_left s left ≡ formed_left next rest
    take-formed next h k fit =
        formed-parts h ∙ ap (λ t. t && formed_left (plus s (times (whole e.1) (value e.0))) rest) fit ∙ ap (λ n. formed_left n rest) (sym k)

    pub stop-formed : is_eq (cmp e.0 v) ≡ false → all_fit (term_formed s e.1 (value e.0)) ≡ false → formed_left s left ≡ false
    stop-formed h wide = formed-parts h ∙ ap (λ t. t && formed_left (plus s (times (whole e.1) (value e.0))) rest) wide

  pub end-formed : (es : List (K × ℤ)) (i : ℕ) (s : Rational) → length es ≤ i → formed_left s (drop i es) ≡ true
  end-formed es i s h = at_drop_all (formed_left s) es i h ∙ all_fit-nil

-- ---- three lists of numbers, one after another

module _ (a b c : List ℤ) where
  parts-fit : all_fit (a ++ (b ++ c)) ≡ (all_fit a && (all_fit b && all_fit c))
  parts-fit = all_fit-append a (b ++ c) ∙ ap (λ t. all_fit a && t) (all_fit-append b c)

  pub first-wide : all_fit a ≡ false → all_fit (a ++ (b ++ c)) ≡ false
  first-wide h = parts-fit ∙ ap (λ t. t && (all_fit b && all_fit c)) h

  pub second-wide : all_fit a ≡ true → all_fit b ≡ false → all_fit (a ++ (b ++ c)) ≡ false
  second-wide h k = parts-fit ∙ ap₂ (λ t u. t && (u && all_fit c)) h k

  pub third-fits : all_fit a ≡ true → all_fit b ≡ true → all_fit (a ++ (b ++ c)) ≡ all_fit c
  third-fits h k = parts-fit ∙ ap₂ (λ t u. t && (u && all_fit c)) h k
