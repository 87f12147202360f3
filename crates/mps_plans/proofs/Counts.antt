-- There are fewer than 10 ^ 64 instances and variables, since no set has more than 1,000 members.
use Rattle.mps_plans.proofs.Common.{◌≡◌, ℕ, zero, suc, ◌+◌, ◌*◌, ◌<◌, ◌≤◌, ◌^◌, Bool, true, false, cond, List, [], ◌∷◌, ◌++◌, filter, length, length-append, arith, zero-le, flat_map, length-map, length-range_with_len, Data, AreSets, members, IsSet, all_variables, exists_at, kind_numbers, subscripts_of_kind, variables_of_kind, index, equation_numbers, indices, instances, instances_of, is_one_of, name_at, set_at, stands_at, subscripts_of, values_at, variable}
use Rattle.std.proofs.Math.Nat.{suc-mul}
use Rattle.param_tables.proofs.PlaceLaws.{members-most}
use Rattle.row_core.specs.Subscripts as place
use Rattle.named_equations.specs.Positions.{positions}
use Rattle.named_equations.proofs.InstanceOrder.{from_rr, from_l, from_t, from_f, from_e, from_m, from_y}

-- ---- lists

few-flat : {A B : Type 0} (f : A → List B) (m : ℕ) → ((x : A) → length (f x) ≤ m) → (xs : List A) (n : ℕ) → length xs ≤ n → length (flat_map f xs) ≤ n * m
few-flat f m each [] n few = zero-le
few-flat f m each (x ∷ xs) zero few = absurd (omega arith)
few-flat f m each (x ∷ xs) (suc n) few =
    let long : length (f x ++ flat_map f xs) ≡ length (f x) + length (flat_map f xs) = length-append (f x) (flat_map f xs) in
    let first : length (f x) ≤ m = each x in
    let others : length (flat_map f xs) ≤ n * m = few-flat f m each xs n (omega arith) in
    let product : suc n * m ≡ n * m + m = suc-mul n m in
    omega arith

filter-step : {A : Type 0} (b : Bool) (x : A) (xs : List A) (n : ℕ) → length xs ≤ n → length (cond b (x ∷ xs) xs) ≤ suc n
filter-step true x xs n few = omega arith
filter-step false x xs n few = omega arith

few-filter : {A : Type 0} (test : A → Bool) (xs : List A) → length (filter test xs) ≤ length xs
few-filter test [] = omega arith
few-filter test (x ∷ xs) = filter-step (test x) x (filter test xs) (length xs) (few-filter test xs)

-- ---- indices

few-values : (d : Data) (subscripts : List ℕ) (at : ℕ) → AreSets d.sets → IsSet (set_at at) → length (values_at d subscripts at) ≤ 1000
few-values d subscripts at are is = step (is_one_of subscripts at)
  where
    step : (b : Bool) → length (cond b (positions d (set_at at)) (0 ∷ [])) ≤ 1000
    step true = omega (arith, length-range_with_len 0 (length (members d.sets (set_at at))), members-most d.sets (set_at at) are is)
    step false = omega arith

few-indices : (d : Data) (s : List ℕ) → AreSets d.sets → length (indices d s) ≤ 10 ^ 24
few-indices d s are =
    few-flat (from_rr d s) (10 ^ 21) (λ r.
    few-flat (from_l d s r) (10 ^ 18) (λ rr.
    few-flat (from_t d s r rr) (10 ^ 15) (λ l.
    few-flat (from_f d s r rr l) (10 ^ 12) (λ t.
    few-flat (from_e d s r rr l t) (10 ^ 9) (λ f.
    few-flat (from_m d s r rr l t f) (10 ^ 6) (λ e.
    few-flat (from_y d s r rr l t f e) (10 ^ 3) (λ m.
    few-flat (λ y. index r rr l t f e m y ∷ []) 1 (λ y. omega arith)
    (values_at d s place.y) 1000 (few-values d s place.y are (omega arith, omega arith)))
    (values_at d s place.m) 1000 (few-values d s place.m are (omega arith, omega arith)))
    (values_at d s place.e) 1000 (few-values d s place.e are (omega arith, omega arith)))
    (values_at d s place.f) 1000 (few-values d s place.f are (omega arith, omega arith)))
    (values_at d s place.t) 1000 (few-values d s place.t are (omega arith, omega arith)))
    (values_at d s place.l) 1000 (few-values d s place.l are (omega arith, omega arith)))
    (values_at d s place.rr) 1000 (few-values d s place.rr are (omega arith, omega arith)))
    (values_at d s place.r) 1000 (few-values d s place.r are (omega arith, omega arith))

-- ---- instances and variables

few-instances_of : (d : Data) (eq : ℕ) → AreSets d.sets → length (instances_of d eq) ≤ 10 ^ 24
few-instances_of d eq are =
    let count : length (instances_of d eq) ≡ length (filter (stands_at d eq) (indices d (subscripts_of eq))) = length-map (filter (stands_at d eq) (indices d (subscripts_of eq))) (name_at eq) in
    let some : length (filter (stands_at d eq) (indices d (subscripts_of eq))) ≤ length (indices d (subscripts_of eq)) = few-filter (stands_at d eq) (indices d (subscripts_of eq)) in
    let few : length (indices d (subscripts_of eq)) ≤ 10 ^ 24 = few-indices d (subscripts_of eq) are in
    omega arith

pub few-instances : (d : Data) → AreSets d.sets → length (instances d) < 10 ^ 64
few-instances d are =
    let few : length (flat_map (instances_of d) equation_numbers) ≤ 64 * 10 ^ 24 = few-flat (instances_of d) (10 ^ 24) (λ eq. few-instances_of d eq are) equation_numbers 64 (omega arith) in
    omega arith

few-variables_of : (d : Data) (kind : ℕ) → AreSets d.sets → length (variables_of_kind d kind) ≤ 10 ^ 24
few-variables_of d kind are =
    let count : length (variables_of_kind d kind) ≡ length (filter (exists_at d kind) (indices d (subscripts_of_kind kind))) = length-map (filter (exists_at d kind) (indices d (subscripts_of_kind kind))) (variable kind) in
    let some : length (filter (exists_at d kind) (indices d (subscripts_of_kind kind))) ≤ length (indices d (subscripts_of_kind kind)) = few-filter (exists_at d kind) (indices d (subscripts_of_kind kind)) in
    let few : length (indices d (subscripts_of_kind kind)) ≤ 10 ^ 24 = few-indices d (subscripts_of_kind kind) are in
    omega arith

pub few-variables : (d : Data) → AreSets d.sets → length (all_variables d) < 10 ^ 64
few-variables d are =
    let few : length (flat_map (variables_of_kind d) kind_numbers) ≤ 48 * 10 ^ 24 = few-flat (variables_of_kind d) (10 ^ 24) (λ kind. few-variables_of d kind are) kind_numbers 48 (omega arith) in
    omega arith
