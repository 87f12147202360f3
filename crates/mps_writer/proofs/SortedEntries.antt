-- What a stable sort by variable says of entries.
use Rattle.mps_writer.proofs.Common.{◌≡◌, ℕ, suc, ◌+◌, ◌<◌, List, [], ◌∷◌, Bool, true, false, not, ◌&&◌, cond, length, get_or, refl, ap, sym, ◌∙◌, arith, Ordering, Less, Equal, Greater, filter, IsSortedByKey, IsStableByKey, ties, is_lt, is_eq, ordering_reverse, Var, var_cmp, var_cmp_total, Entry, RisesFrom, Rises, is_of}
use Rattle.std.specs.Prelude.{pos}

-- the variable of an entry
abbrev pub variable_of : Entry → Var
variable_of c = c.variable

abbrev Sorted : List Entry → Type 0
Sorted entries = IsSortedByKey variable_of var_cmp entries

sorted-tail : (c : Entry) (cs : List Entry) → Sorted (c ∷ cs) → Sorted cs
sorted-tail c cs sorted k d low high =
    let there : suc k + 1 < length (c ∷ cs) = omega arith in
    let next : suc k + 1 ≡ suc (k + 1) = omega arith in
    ap (λ (i : ℕ). is_lt (var_cmp (variable_of (get_or (c ∷ cs) i d)) (variable_of (get_or cs k d)))) (sym next)
    ∙ sorted (suc k) d (omega arith) there

rises_from : (c : Entry) (cs : List Entry) → Sorted (c ∷ cs) → RisesFrom c.variable cs
rises_from c [] sorted = tt
rises_from c (e ∷ es) sorted =
    (sorted 0 c (omega arith) (omega arith), rises_from e es (sorted-tail c (e ∷ es) sorted))

-- in order by index is in order by neighbours
pub Rises-from_sorted : (cs : List Entry) → Sorted cs → Rises cs
Rises-from_sorted [] sorted = tt
Rises-from_sorted (c ∷ cs) sorted = rises_from c cs sorted

-- what ties by a total order compares alike
tie-is : (o p : Ordering) → o ≡ ordering_reverse p → (not (is_lt o) && not (is_lt p)) ≡ is_eq p
tie-is o Less e = ap (λ (q : Ordering). not (is_lt q) && false) e
tie-is o Equal e = ap (λ (q : Ordering). not (is_lt q) && true) e
tie-is o Greater e = ap (λ (q : Ordering). not (is_lt q) && true) e

filter-same : (p q : Entry → Bool) → ((c : Entry) → p c ≡ q c) → (cs : List Entry) → filter p cs ≡ filter q cs
filter-same p q same [] = refl
filter-same p q same (c ∷ cs) =
    ap (λ (b : Bool). cond b (c ∷ filter p cs) (filter p cs)) (same c)
    ∙ ap (λ (rest : List Entry). cond (q c) (c ∷ rest) rest) (filter-same p q same cs)

-- the entries of one variable stay in their order
pub stable-by_variable : (entries sorted : List Entry) → IsStableByKey variable_of var_cmp entries sorted → (v : Var) → filter (is_of v) sorted ≡ filter (is_of v) entries
stable-by_variable entries sorted stable v =
    let at_v : Entry = record { variable = v; row = 0; number = pos 0 } in
    let lt = λ (x y : Entry). is_lt (var_cmp (variable_of x) (variable_of y)) in
    let same : (c : Entry) → ties lt at_v c ≡ is_of v c = λ c. tie-is (var_cmp v c.variable) (var_cmp c.variable v) (var_cmp_total.antisymm v c.variable) in
    sym (filter-same (ties lt at_v) (is_of v) same sorted) ∙ stable at_v ∙ filter-same (ties lt at_v) (is_of v) same entries
