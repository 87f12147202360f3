-- The places at which a value is given that isn't 0, in order and in groups.
use Rattle.param_tables.proofs.Common.{◌≡◌, ℕ, zero, suc, ◌+◌, ◌<◌, Bool, true, false, cond, List, [], ◌∷◌, ◌++◌, Some, nat_eq, length, map, take, get_or, refl, sym, ap, ◌∙◌, subst, arith, All, dedup, zip, IsPermutation, IsSorted, IsStrictlyIncreasing, nat_cmp, eqb-true, false≢true, append-nil, All-contains, filter_more, Contains-dedup_nat, Contains-from_dedup, Contains-permutation, IsPermutation-sym, IsStrictlyIncreasing-dedup, AreGrouped, IsWithin, grouped_place, is_given_nonzero, is_nonzero_value, ratio_place, regrouped, entries_of, given_in, ParamTable, RatioSizes}
use Rattle.std.specs.Prelude.{◌↔◌, ℤ, Contains, filter, slice_get}
use Rattle.param_tables.proofs.AscendingLaws.{contains_filter, contains_from_filter, contains_from_map, contains_later, contains_map}
use Rattle.param_tables.proofs.EntryLaws.{given_at_place}
use Rattle.param_tables.proofs.RatioPlaceLaws.{regrouped_from, regrouped_is}

-- ---- in order

-- one more place, which passes or doesn't
pub filter_kept : (p : ℕ → Bool) (xs so_far : List ℕ) (i : ℕ) → i < length xs → p (get_or xs i 0) ≡ true → so_far ≡ filter p (take i xs) → so_far ++ get_or xs i 0 ∷ [] ≡ filter p (take (i + 1) xs)
filter_kept p xs so_far i below passes so_far_is =
    ap (λ ys. ys ++ get_or xs i 0 ∷ []) so_far_is
    ∙ sym (filter_more p xs i 0 below ∙ ap (λ b. filter p (take i xs) ++ cond b (get_or xs i 0 ∷ []) []) passes)

pub filter_left : (p : ℕ → Bool) (xs so_far : List ℕ) (i : ℕ) → i < length xs → p (get_or xs i 0) ≡ false → so_far ≡ filter p (take i xs) → so_far ≡ filter p (take (i + 1) xs)
filter_left p xs so_far i below fails so_far_is =
    so_far_is
    ∙ sym (filter_more p xs i 0 below ∙ ap (λ b. filter p (take i xs) ++ cond b (get_or xs i 0 ∷ []) []) fails ∙ append-nil (filter p (take i xs)))

-- whether the value beside the k-th place isn't 0
pub nonzero_at_place : (places : List ℕ) (values : List ℤ) (k : ℕ) → IsStrictlyIncreasing places → length values ≡ length places → k < length places → is_given_nonzero (zip places values) (get_or places k 0) ≡ is_nonzero_value (slice_get values k)
nonzero_at_place places values k rising long below = ap is_nonzero_value (given_at_place places values k rising long below)

-- a place at which a value is given is one of the places
pub contains_given : (places : List ℕ) (values : List ℤ) (place : ℕ) → is_given_nonzero (zip places values) place ≡ true → Contains places place
contains_given [] values place nonzero = absurd (false≢true nonzero)
contains_given (p ∷ ps) [] place nonzero = absurd (false≢true nonzero)
contains_given (p ∷ ps) (v ∷ vs) place nonzero = by (λ given. contains_given ps vs place given) (nat_eq place p) refl nonzero
  where
    by : (is_given_nonzero (zip ps vs) place ≡ true → Contains ps place) → (b : Bool) → nat_eq place p ≡ b → is_nonzero_value (cond b (Some v) (given_in (zip ps vs) place)) ≡ true → Contains (p ∷ ps) place
    by rest true e given = (zero, omega arith, sym (eqb-true place p e))
    by rest false e given = contains_later p ps place (rest given)

-- ---- in groups

pub grouped_from : (s : RatioSizes) (places pushed sorted final : List ℕ) → pushed ≡ map (regrouped s) places → IsPermutation pushed sorted → IsSorted nat_cmp sorted → final ≡ dedup nat_eq sorted → AreGrouped s places final
grouped_from s places pushed sorted final is moved rising left = record {
  rising = subst IsStrictlyIncreasing (sym left) (IsStrictlyIncreasing-dedup sorted rising);
  inside = λ q has.
      let kept : Contains (dedup nat_eq sorted) q = subst (λ xs. Contains xs q) left has in
      let before : Contains pushed q = Contains-permutation sorted pushed q (IsPermutation-sym pushed sorted moved) (Contains-from_dedup nat_eq sorted q kept) in
      subst (λ xs. Contains xs q) is before;
  all = λ q has.
      let there : Contains pushed q = subst (λ xs. Contains xs q) (sym is) has in
      subst (λ xs. Contains xs q) (sym left) (Contains-dedup_nat sorted q (Contains-permutation pushed sorted q moved there));
}

-- an index stands among the grouped ones exactly where a value is given at it that isn't 0
pub grouped_of : (s : RatioSizes) (table : ParamTable) (in_order grouped : List ℕ) → in_order ≡ filter (is_given_nonzero (entries_of table)) table.places.items → AreGrouped s in_order grouped → (r t c m y : ℕ) → IsWithin s t c m y → Contains grouped (grouped_place s r t c m y) ↔ (is_given_nonzero (entries_of table) (ratio_place s r t c m y) ≡ true)
grouped_of s table in_order grouped is are r t c m y within = (there, back)
  where
    there : Contains grouped (grouped_place s r t c m y) → is_given_nonzero (entries_of table) (ratio_place s r t c m y) ≡ true
    there has =
        let found = contains_from_map (regrouped s) in_order (grouped_place s r t c m y) (are.inside (grouped_place s r t c m y) has) in
        let here : found.0 ≡ ratio_place s r t c m y = regrouped_from s r t c m y within found.0 found.2 in
        let passes = contains_from_filter (is_given_nonzero (entries_of table)) table.places.items found.0 (subst (λ xs. Contains xs found.0) is found.1) in
        ap (is_given_nonzero (entries_of table)) (sym here) ∙ passes.1

    back : is_given_nonzero (entries_of table) (ratio_place s r t c m y) ≡ true → Contains grouped (grouped_place s r t c m y)
    back nonzero =
        let place = ratio_place s r t c m y in
        let has : Contains table.places.items place = contains_given table.places.items table.values.items place nonzero in
        let kept : Contains in_order place = subst (λ xs. Contains xs place) (sym is) (contains_filter (is_given_nonzero (entries_of table)) table.places.items place has nonzero) in
        let mapped : Contains (map (regrouped s) in_order) (regrouped s place) = contains_map (regrouped s) in_order place kept in
        are.all (grouped_place s r t c m y) (subst (Contains (map (regrouped s) in_order)) (regrouped_is s r t c m y within) mapped)

-- what holds of all places holds of those that are kept
pub below_kept : (P : ℕ → Type 0) (p : ℕ → Bool) (xs kept : List ℕ) → kept ≡ filter p xs → All P xs → (k d : ℕ) → k < length kept → P (get_or kept k d)
below_kept P p xs kept is every k d below =
    let P' : List ℕ → Type 0 = λ ys. Contains ys (get_or kept k d) in
    let has : Contains kept (get_or kept k d) = (k, below, get_or_same kept k d below) in
    All-contains P xs (get_or kept k d) every (contains_from_filter p xs (get_or kept k d) (subst P' is has)).0
  where
    get_or_same : (ys : List ℕ) (k d : ℕ) → k < length ys → get_or ys k (get_or ys k d) ≡ get_or ys k d
    get_or_same [] k d below = absurd (omega arith)
    get_or_same (y ∷ ys) zero d below = refl
    get_or_same (y ∷ ys) (suc k) d below = get_or_same ys k d (omega arith)
