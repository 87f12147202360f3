-- The row of the cost at first keeps what a row keeps.
use Rattle.variable_elimination.proofs.Common.{◌≡◌, ℕ, ◌<◌, ◌≤◌, ℤ, pos, true, List, [], ◌∷◌, ◌++◌, map, refl, sym, ap, ◌∙◌, arith, ◌+◌, length, get_or, take, take_more, both_true, is_lt, nat_cmp, ordering_then, Var, keys_of, numbers_of, before_first, ascends, none_zero, all_in_range, IsLowest, var_cmp, index_cmp, cost_variable, minus_one_at, AllAreCosts}
use Rattle.std.proofs.lemmas.Nat.Gcd.{le_of_dvd}

pub keys-minus : (vs : List Var) → keys_of (map minus_one_at vs) ≡ vs
keys-minus [] = refl
keys-minus (v ∷ vs) = ap {B = List Var} (λ ws. v ∷ ws) (keys-minus vs)

before-costs : (vs : List Var) → AllAreCosts vs → before_first var_cmp cost_variable vs ≡ true
before-costs [] h = refl
before-costs (v ∷ vs) h = ap (λ k. is_lt (ordering_then (nat_cmp 0 k) (index_cmp cost_variable.index v.index))) h.0

abbrev pub first_entries : List Var → List (Var × ℤ)
first_entries vs = (cost_variable, pos 1) ∷ map minus_one_at vs

pub first-ascends : (vs : List Var) → AllAreCosts vs → ascends var_cmp vs ≡ true → ascends var_cmp (keys_of (first_entries vs)) ≡ true
first-ascends vs h k = ap (λ ws. ascends var_cmp (cost_variable ∷ ws)) (keys-minus vs) ∙ both_true (before-costs vs h) k

none_zero-minus : (vs : List Var) → none_zero (numbers_of (map minus_one_at vs)) ≡ true
none_zero-minus [] = refl
none_zero-minus (v ∷ vs) = none_zero-minus vs

pub first-nonzero : (vs : List Var) → none_zero (numbers_of (first_entries vs)) ≡ true
first-nonzero vs = none_zero-minus vs

in_range-minus : (vs : List Var) → all_in_range (numbers_of (map minus_one_at vs)) ≡ true
in_range-minus [] = refl
in_range-minus (v ∷ vs) = in_range-minus vs

pub first-fits : (vs : List Var) → all_in_range (pos 0 ∷ numbers_of (first_entries vs)) ≡ true
first-fits vs = in_range-minus vs

pub first-lowest : (vs : List Var) → IsLowest (pos 0 ∷ numbers_of (first_entries vs))
first-lowest vs d above h = let one : 0 < 1 = omega arith in let small : d ≤ 1 = le_of_dvd one h.1.0 in absurd (omega arith)

map-last : (vs : List Var) (v : Var) → map minus_one_at (vs ++ v ∷ []) ≡ map minus_one_at vs ++ minus_one_at v ∷ []
map-last [] v = refl
map-last (w ∷ ws) v = ap {B = List (Var × ℤ)} (λ es. minus_one_at w ∷ es) (map-last ws v)

-- one entry more
pub entries_more : (xs : List Var) (i : ℕ) (d : Var) (es new : List (Var × ℤ)) → i < length xs → es ≡ (cost_variable, pos 1) ∷ map minus_one_at (take i xs) → new ≡ es ++ minus_one_at (get_or xs i d) ∷ []
    → new ≡ (cost_variable, pos 1) ∷ map minus_one_at (take (i + 1) xs)
entries_more xs i d es new h e n =
    n ∙ ap (λ (fs : List (Var × ℤ)). fs ++ minus_one_at (get_or xs i d) ∷ []) e
    ∙ ap {B = List (Var × ℤ)} (λ fs. (cost_variable, pos 1) ∷ fs) (sym (map-last (take i xs) (get_or xs i d)) ∙ ap (map minus_one_at) (sym (take_more xs i d h)))
