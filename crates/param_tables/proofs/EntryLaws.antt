-- Look-ups in a list of places that ascend, each with its value.
use Rattle.param_tables.proofs.Common.{◌≡◌, ◌≢◌, ℕ, zero, suc, ◌+◌, ◌<◌, ◌≤◌, Bool, true, false, cond, nat_eq, List, [], ◌∷◌, None, Some, length, map, get_or, refl, sym, ap, ◌∙◌, subst, inl, inr, arith, option_and_then, option_copied, slice_get_past, slice_get-get_or, BTreeMap, get, keys, values, nat_cmp, is_eq, Less, Equal, Greater, searched, below_from_sorted, sorted_from_strictly_increasing, zip, slice_get, IsBinarySearchResult, IsStrictlyIncreasing, lookup, cases_eq, cases_lt, eq-eqb, lt-ltb, le-ltb, ne_eqb, given_in}
use Rattle.std.specs.Prelude.{ℤ, Option, Result, Ok, Err}
use Rattle.std.specs.Slice.{IsItemAt}
use Rattle.std.specs.Borrow.{Bor}
use Rattle.std.specs.Result.{result_ok}

-- no place is this one
pub given_none : (places : List ℕ) (values : List ℤ) (place : ℕ) → ((k : ℕ) → k < length places → get_or places k 0 ≢ place) → given_in (zip places values) place ≡ None
given_none [] values place apart = refl
given_none (p ∷ ps) [] place apart = refl
given_none (p ∷ ps) (v ∷ vs) place apart =
    let other : place ≢ p = λ e. apart 0 (omega arith) (sym e) in
    ap (λ b. cond b (Some v) (given_in (zip ps vs) place)) (ne_eqb place p other) ∙ given_none ps vs place (λ k below. apart (suc k) (omega arith))

pub later : (p : ℕ) (ps : List ℕ) → IsStrictlyIncreasing (p ∷ ps) → IsStrictlyIncreasing ps
later p ps rising k below =
    let at : suc k + 1 ≡ suc (k + 1) = omega arith in
    let P : ℕ → Type 0 = λ n. get_or ps k 0 < get_or (p ∷ ps) n 0 in
    subst P at (rising (suc k) (omega arith))

-- the first is below the others
pub first_below : (p : ℕ) (ps : List ℕ) → IsStrictlyIncreasing (p ∷ ps) → (k : ℕ) → k < length ps → p < get_or ps k 0
first_below p ps rising zero below = rising 0 (omega arith)
first_below p ps rising (suc k) below =
    let before : p < get_or ps k 0 = first_below p ps rising k (omega arith) in
    let at : k + 1 ≡ suc k = omega arith in
    let P : ℕ → Type 0 = λ n. get_or ps k 0 < get_or ps n 0 in
    let step : get_or ps k 0 < get_or ps (suc k) 0 = subst P at (later p ps rising k (omega arith)) in
    omega arith

-- the value beside the k-th place
pub given_at_place : (places : List ℕ) (values : List ℤ) (k : ℕ) → IsStrictlyIncreasing places → length values ≡ length places → k < length places → given_in (zip places values) (get_or places k 0) ≡ slice_get values k
given_at_place [] values k rising long below = absurd (omega arith)
given_at_place (p ∷ ps) [] k rising long below = absurd (omega arith)
given_at_place (p ∷ ps) (v ∷ vs) zero rising long below = ap (λ b. cond b (Some v) (given_in (zip ps vs) p)) (eq-eqb p p refl)
given_at_place (p ∷ ps) (v ∷ vs) (suc k) rising long below =
    let above : p < get_or ps k 0 = first_below p ps rising k (omega arith) in
    let other : get_or ps k 0 ≢ p = λ e. omega arith in
    ap (λ b. cond b (Some v) (given_in (zip ps vs) (get_or ps k 0))) (ne_eqb (get_or ps k 0) p other) ∙ given_at_place ps vs k (later p ps rising) (omega arith) (omega arith)

pub rising_all : (places : List ℕ) → IsStrictlyIncreasing places → (i j : ℕ) → i ≤ j → j < length places → get_or places i 0 ≤ get_or places j 0
rising_all places rising i j low below = elim (cases_eq i j) [
  | inl same ↦ let e : get_or places i 0 ≡ get_or places j 0 = ap (λ n. get_or places n 0) same in omega arith
  | inr other ↦ let less : get_or places i 0 < get_or places j 0 = below_from_sorted places i j 0 (sorted_from_strictly_increasing places rising) (omega arith) below in omega arith
]

-- what a search among the places finds
pub given_in-searched : (places : List ℕ) (values : List ℤ) (place : ℕ) (r : Result ℕ ℕ) → IsStrictlyIncreasing places → length values ≡ length places → IsBinarySearchResult (λ y. nat_cmp y place) places r → given_in (zip places values) place ≡ option_and_then (slice_get values) (result_ok r)
given_in-searched places values place (Ok i) rising long found =
    let at = searched places place (Ok i) found (rising_all places rising) in
    ap (given_in (zip places values)) (sym at.1) ∙ given_at_place places values i rising long at.0
given_in-searched places values place (Err i) rising long found =
    let at = searched places place (Err i) found (rising_all places rising) in
    given_none places values place (λ k below. elim (cases_lt k i) [
      | inl before ↦ λ e. let less = at.1 k before in omega arith
      | inr past ↦ λ e. let more = at.2 k past below in omega arith
    ])

-- the value that a look-up by position copies
pub copied_at : (xs : List ℤ) (i : ℕ) (r : Option (Bor ℤ)) → IsItemAt xs i r → option_copied r ≡ slice_get xs i
copied_at xs i None item = sym (slice_get_past xs i item.3)
copied_at xs i (Some x) item = sym (slice_get-get_or xs i x.now item.3.0 ∙ ap (λ y. Some y) (sym item.1))

-- ---- the entries of a map as two lists

is_eq-nat_cmp : (a b : ℕ) → is_eq (nat_cmp a b) ≡ nat_eq a b
is_eq-nat_cmp a b = elim (cases_lt a b) [
  | inl less ↦ ap (λ t. is_eq (cond t Less (cond (nat_eq a b) Equal Greater))) (lt-ltb a b less) ∙ sym (ne_eqb a b (λ e. omega arith))
  | inr more ↦ ap (λ t. is_eq (cond t Less (cond (nat_eq a b) Equal Greater))) (le-ltb a b more) ∙ of_cond (nat_eq a b)
]
  where
    of_cond : (t : Bool) → is_eq (cond t Equal Greater) ≡ t
    of_cond true = refl
    of_cond false = refl

lookup-same : {K X : Type 0} (f g : K → Bool) → ((k : K) → f k ≡ g k) → (es : List (K × X)) → lookup f es ≡ lookup g es
lookup-same f g same [] = refl
lookup-same f g same (e ∷ es) = ap (λ b. cond b (Some e.1) (lookup f es)) (same e.0) ∙ ap (λ o. cond (g e.0) (Some e.1) o) (lookup-same f g same es)

zip-columns : {K X : Type 0} (es : List (K × X)) → zip (map (λ e. e.0) es) (map (λ e. e.1) es) ≡ es
zip-columns [] = refl
zip-columns (e ∷ es) = ap (λ rest. e ∷ rest) (zip-columns es)

pub given_in-columns : (m : BTreeMap ℕ ℤ) (places : List ℕ) (vs : List ℤ) (place : ℕ) → places ≡ keys m → vs ≡ values m → given_in (zip places vs) place ≡ get nat_cmp m place
given_in-columns m places vs place ep ev =
    ap (λ ps. given_in (zip ps vs) place) ep
    ∙ ap (λ ws. given_in (zip (keys m) ws) place) ev
    ∙ ap (λ es. lookup (nat_eq place) es) (zip-columns m.entries)
    ∙ lookup-same (nat_eq place) (λ k. is_eq (nat_cmp place k)) (λ k. sym (is_eq-nat_cmp place k)) m.entries
