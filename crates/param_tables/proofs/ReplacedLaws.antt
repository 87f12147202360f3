-- Another value in place of one that a table gives, and values that are put one after another.
use Rattle.param_tables.proofs.Common.{◌≡◌, ◌≢◌, ℕ, zero, suc, ◌<◌, Bool, true, false, cond, List, [], ◌∷◌, ℤ, Option, None, Some, length, nat_eq, get_or, set, drop, refl, sym, ap, ◌∙◌, inl, inr, arith, if◌then◌else◌, option_or, zip, eqb-true, ne_eqb, Ok, IsBinarySearchResult, IsStrictlyIncreasing, nat_cmp, searched, given_in}
use Rattle.param_tables.proofs.EntryLaws.{first_below, later, rising_all}
use Rattle.param_tables.proofs.AscendingLaws.{contains_later}
use Rattle.std.specs.Prelude.{Contains, ◌⊎◌}
use Rattle.std.proofs.lemmas.Map.Views.{Contains-from_lookup}
use Rattle.param_tables.specs.OpenTables.{ArePut, MayBePut, given_open}
use Rattle.param_tables.specs.declared.open_table.OpenTable.{OpenTable}

-- ---- where a search finds the place

pub found_inside : (places : List ℕ) (place i : ℕ) → IsStrictlyIncreasing places → IsBinarySearchResult (λ y. nat_cmp y place) places (Ok i) → i < length places
found_inside places place i rising found = (searched places place (Ok i) found (rising_all places rising)).0

pub found_at : (places : List ℕ) (place i : ℕ) → IsStrictlyIncreasing places → IsBinarySearchResult (λ y. nat_cmp y place) places (Ok i) → get_or places i 0 ≡ place
found_at places place i rising found = (searched places place (Ok i) found (rising_all places rising)).1

-- the value at the i-th place takes the place of the one that is given there
pub given_replaced : (places : List ℕ) (values : List ℤ) (i : ℕ) (v : ℤ) (q : ℕ) → IsStrictlyIncreasing places → length values ≡ length places → i < length places → given_in (zip places (set values i v)) q ≡ (if nat_eq q (get_or places i 0) then Some v else given_in (zip places values) q)
given_replaced [] values i v q rising long below = absurd (omega arith)
given_replaced (p ∷ ps) [] i v q rising long below = absurd (omega arith)
given_replaced (p ∷ ps) (w ∷ ws) zero v q rising long below = by (nat_eq q p)
  where
    by : (b : Bool) → cond b (Some v) (given_in (zip ps ws) q) ≡ (if b then Some v else (cond b (Some w) (given_in (zip ps ws) q)))
    by true = refl
    by false = refl
given_replaced (p ∷ ps) (w ∷ ws) (suc i) v q rising long below =
    ap (λ o. cond (nat_eq q p) (Some w) o) (given_replaced ps ws i v q (later p ps rising) (omega arith) (omega arith))
    ∙ by (nat_eq q p) refl
  where
    by : (b : Bool) → nat_eq q p ≡ b → cond b (Some w) (if nat_eq q (get_or ps i 0) then Some v else given_in (zip ps ws) q) ≡ (if nat_eq q (get_or ps i 0) then Some v else (cond b (Some w) (given_in (zip ps ws) q)))
    by true here =
        let same : q ≡ p = eqb-true q p here in
        let above : p < get_or ps i 0 = first_below p ps rising i (omega arith) in
        let other : q ≢ get_or ps i 0 = λ e. omega arith in
        sym (ap (λ t. if t then Some v else Some w) (ne_eqb q (get_or ps i 0) other))
    by false beside = refl

-- ---- values that are put

contains_drop : {X : Type 0} (i : ℕ) (xs : List X) (x : X) → Contains (drop i xs) x → Contains xs x
contains_drop zero xs x has = has
contains_drop (suc i) [] x has = has
contains_drop (suc i) (y ∷ xs) x has = contains_later y xs x (contains_drop i xs x has)

-- at each place stands what was, or one of the values
pub some_put : (i : ℕ) (puts : List (ℕ × ℤ)) (old new : OpenTable) → ArePut (drop i puts) old new → MayBePut puts old new
some_put i puts old new are place = by (given_in (drop i puts) place) refl
  where
    by : (o : Option ℤ) → given_in (drop i puts) place ≡ o → (given_open new place ≡ given_open old place) ⊎ ((v : ℤ) × Contains puts (place, v) × (given_open new place ≡ Some v))
    by None e = inl (are place ∙ ap (λ o. option_or o (given_open old place)) e)
    by (Some v) e = inr (v, contains_drop i puts (place, v) (Contains-from_lookup eqb-true place v (drop i puts) e), are place ∙ ap (λ o. option_or o (given_open old place)) e)

-- a table that gives the same at each place has as much put
pub put_kept : (puts : List (ℕ × ℤ)) (old now new : OpenTable) → ArePut puts old now → ((q : ℕ) → given_open new q ≡ given_open now q) → ArePut puts old new
put_kept puts old now new are same q = same q ∙ are q
