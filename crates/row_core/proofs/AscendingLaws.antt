-- Lists that ascend by a total order: each is before all later ones, and what may be put at the end.
use Rattle.row_core.proofs.Common.{◌≡◌, ℕ, zero, suc, ◌<◌, Bool, true, false, List, [], ◌∷◌, ◌++◌, ◌&&◌, length, get_or, refl, arith, IsTotalOrder, both_true, AllPairs, is_lt, Ordering, Less, Equal, Greater, before_first, ascends}

-- two tests of which both are passed
pub both_passed : (a b : Bool) → (a && b) ≡ true → (a ≡ true) × (b ≡ true)
both_passed true b h = (refl, h)
both_passed false b h = absurd (cc h)

-- what passes the test is `Less`
pub Less-from_test : (o : Ordering) → is_lt o ≡ true → o ≡ Less
Less-from_test Less h = refl
Less-from_test Equal h = absurd (cc h)
Less-from_test Greater h = absurd (cc h)

pub test-from_Less : (o : Ordering) → o ≡ Less → is_lt o ≡ true
test-from_Less o h = rw h

-- the rest of an ascending list ascends
pub ascends-tail : {K : Type 0} (cmp : K → K → Ordering) (x : K) (xs : List K) → ascends cmp (x ∷ xs) ≡ true → ascends cmp xs ≡ true
ascends-tail cmp x xs h = (both_passed (before_first cmp x xs) (ascends cmp xs) h).1

-- an ascending list without its second
pub ascends-skip : {K : Type 0} (cmp : K → K → Ordering) → IsTotalOrder cmp → (v w : K) (ws : List K) → ascends cmp (v ∷ w ∷ ws) ≡ true → ascends cmp (v ∷ ws) ≡ true
ascends-skip cmp total v w [] h = refl
ascends-skip cmp total v w (u ∷ us) h =
    let first = both_passed (is_lt (cmp v w)) (ascends cmp (w ∷ u ∷ us)) h in
    let second = both_passed (is_lt (cmp w u)) (ascends cmp (u ∷ us)) first.1 in
    both_true (test-from_Less (cmp v u) (total.trans v w u (Less-from_test (cmp v w) first.0) (Less-from_test (cmp w u) second.0))) second.1

-- the first of an ascending list is before each later one
pub ascends-first : {K : Type 0} (cmp : K → K → Ordering) → IsTotalOrder cmp → (x : K) (xs : List K) → ascends cmp (x ∷ xs) ≡ true → (i : ℕ) (d : K) → i < length xs → cmp x (get_or xs i d) ≡ Less
ascends-first cmp total x [] h i d k = absurd (omega arith)
ascends-first cmp total x (y ∷ ys) h zero d k =
    Less-from_test (cmp x y) (both_passed (is_lt (cmp x y)) (ascends cmp (y ∷ ys)) h).0
ascends-first cmp total x (y ∷ ys) h (suc i) d k =
    let parts = both_passed (is_lt (cmp x y)) (ascends cmp (y ∷ ys)) h in
    total.trans x y (get_or ys i d) (Less-from_test (cmp x y) parts.0) (ascends-first cmp total y ys parts.1 i d (omega arith))

-- each of an ascending list is before each later one
pub ascends-AllPairs : {K : Type 0} (cmp : K → K → Ordering) → IsTotalOrder cmp → (xs : List K) → ascends cmp xs ≡ true → AllPairs (λ x y. cmp x y ≡ Less) xs
ascends-AllPairs cmp total [] h i j d less inside = absurd (omega arith)
ascends-AllPairs cmp total (x ∷ xs) h zero zero d less inside = absurd (omega arith)
ascends-AllPairs cmp total (x ∷ xs) h (suc i) zero d less inside = absurd (omega arith)
ascends-AllPairs cmp total (x ∷ xs) h zero (suc j) d less inside = ascends-first cmp total x xs h j d (omega arith)
ascends-AllPairs cmp total (x ∷ xs) h (suc i) (suc j) d less inside =
    ascends-AllPairs cmp total xs (ascends-tail cmp x xs h) i j d (omega arith) (omega arith)
