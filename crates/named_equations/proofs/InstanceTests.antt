-- An index, a row name or a variable is in its list exactly where its test passes.
use Rattle.named_equations.proofs.Common.{◌≡◌, ℕ, zero, suc, ◌+◌, ◌<◌, ◌≤◌, Bool, true, false, cond, List, [], ◌∷◌, filter, ap, sym, ◌∙◌, refl, subst, arith, inl, inr, lt-ltb, ltb-true, eq-eqb, eqb-true, true≢false, eq-or-lt_of_le, list_any, range_with_len, and_parts, or_cases, Data, Index, RowName, Var, Has, Contains-from_Has, Has-from_Contains, Has-flat_map, flat_map_parts, Has-filter, filter_parts, Has-map, map_parts, subscripts_of_kind, exists_at, kind_numbers, variables_of_kind, all_variables, exists, index, set_at, is_one_of, values_at, is_value_at, is_index, indices, name_at, subscripts_of, stands_at, instances_of, instances, equation_numbers, is_instance, count_of, variable}
use Rattle.std.specs.Prelude.{◌&&◌, ◌||◌, ◌↔◌, nat_lt, nat_eq, Contains}
use Rattle.row_core.specs.Subscripts as place
use Rattle.named_equations.proofs.InstanceOrder.{from_rr, from_l, from_t, from_f, from_e, from_m, from_y}

-- ---- numbers

Has-range : (a n v : ℕ) → a ≤ v → v < a + n → Has (range_with_len a n) v
Has-range a zero v from to = absurd (omega (arith, from, to))
Has-range a (suc n) v from to =
    elim (eq-or-lt_of_le from) [ inl e ↦ inl e | inr less ↦ inr (Has-range (a + 1) n v (omega (arith, less)) (omega (arith, to))) ]

pub range_parts : (a n v : ℕ) → Has (range_with_len a n) v → (a ≤ v) × (v < a + n)
range_parts a zero v h = absurd h
range_parts a (suc n) v (inl e) = (omega (arith, e), omega (arith, e))
range_parts a (suc n) v (inr h) = let rest = range_parts (a + 1) n v h in (omega (arith, rest.0), omega (arith, rest.1))

-- a value of a subscript
value_has : (b : Bool) (n v : ℕ) → cond b (nat_lt v n) (nat_eq v 0) ≡ true → Has (cond b (range_with_len 0 n) (0 ∷ [])) v
value_has true n v passes = let below = ltb-true v n passes in Has-range 0 n v (omega arith) (omega (arith, below))
value_has false n v passes = inl (sym (eqb-true v 0 passes))

value_passes : (b : Bool) (n v : ℕ) → Has (cond b (range_with_len 0 n) (0 ∷ [])) v → cond b (nat_lt v n) (nat_eq v 0) ≡ true
value_passes true n v h = let parts = range_parts 0 n v h in lt-ltb v n (omega (arith, parts.1))
value_passes false n v (inl e) = eq-eqb v 0 (sym e)
value_passes false n v (inr h) = absurd h

Has-values : (d : Data) (s : List ℕ) (p v : ℕ) → is_value_at d s p v ≡ true → Has (values_at d s p) v
Has-values d s p v passes = value_has (is_one_of s p) (count_of d (set_at p)) v passes

values-pass : (d : Data) (s : List ℕ) (p v : ℕ) → Has (values_at d s p) v → is_value_at d s p v ≡ true
values-pass d s p v h = value_passes (is_one_of s p) (count_of d (set_at p)) v h

-- a number in a list
pub any_has : (vs : List ℕ) (v : ℕ) → list_any (nat_eq v) vs ≡ true → Has vs v
any_has [] v passes = absurd (true≢false (sym passes))
any_has (w ∷ vs) v passes =
    elim (or_cases (nat_eq v w) (list_any (nat_eq v) vs) passes) [ inl here ↦ inl (sym (eqb-true v w here)) | inr later ↦ inr (any_has vs v later) ]

pub has_any : (vs : List ℕ) (v : ℕ) → Has vs v → list_any (nat_eq v) vs ≡ true
has_any [] v h = absurd h
has_any (w ∷ vs) v (inl e) = ap (λ b. b || list_any (nat_eq v) vs) (eq-eqb v w (sym e))
has_any (w ∷ vs) v (inr h) = either (nat_eq v w) (list_any (nat_eq v) vs) (has_any vs v h)
  where
    either : (a b : Bool) → b ≡ true → (a || b) ≡ true
    either true b e = refl
    either false b e = e

both_pass : (a b : Bool) → a ≡ true → b ≡ true → (a && b) ≡ true
both_pass a b of_a of_b = ap (λ c. c && b) of_a ∙ of_b

-- ---- indices

-- an index that passes is in the list
pub Has-indices : (d : Data) (s : List ℕ) (i : Index) → is_index d s i ≡ true → Has (indices d s) i
Has-indices d s i passes =
    let b0 = is_value_at d s place.r i.region in
    let b1 = is_value_at d s place.rr i.other in
    let b2 = is_value_at d s place.l i.slice in
    let b3 = is_value_at d s place.t i.tech in
    let b4 = is_value_at d s place.f i.fuel in
    let b5 = is_value_at d s place.e i.emission in
    let b6 = is_value_at d s place.m i.mode in
    let b7 = is_value_at d s place.y i.year in
    let p7 = and_parts (b0 && b1 && b2 && b3 && b4 && b5 && b6) b7 passes in
    let p6 = and_parts (b0 && b1 && b2 && b3 && b4 && b5) b6 p7.0 in
    let p5 = and_parts (b0 && b1 && b2 && b3 && b4) b5 p6.0 in
    let p4 = and_parts (b0 && b1 && b2 && b3) b4 p5.0 in
    let p3 = and_parts (b0 && b1 && b2) b3 p4.0 in
    let p2 = and_parts (b0 && b1) b2 p3.0 in
    let p1 = and_parts (b0) b1 p2.0 in
    Has-flat_map (λ r. from_rr d s r) (values_at d s place.r) i.region i (Has-values d s place.r i.region p1.0)
    (Has-flat_map (λ rr. from_l d s i.region rr) (values_at d s place.rr) i.other i (Has-values d s place.rr i.other p1.1)
    (Has-flat_map (λ l. from_t d s i.region i.other l) (values_at d s place.l) i.slice i (Has-values d s place.l i.slice p2.1)
    (Has-flat_map (λ t. from_f d s i.region i.other i.slice t) (values_at d s place.t) i.tech i (Has-values d s place.t i.tech p3.1)
    (Has-flat_map (λ f. from_e d s i.region i.other i.slice i.tech f) (values_at d s place.f) i.fuel i (Has-values d s place.f i.fuel p4.1)
    (Has-flat_map (λ e. from_m d s i.region i.other i.slice i.tech i.fuel e) (values_at d s place.e) i.emission i (Has-values d s place.e i.emission p5.1)
    (Has-flat_map (λ m. from_y d s i.region i.other i.slice i.tech i.fuel i.emission m) (values_at d s place.m) i.mode i (Has-values d s place.m i.mode p6.1)
    (Has-flat_map (λ y. index i.region i.other i.slice i.tech i.fuel i.emission i.mode y ∷ []) (values_at d s place.y) i.year i (Has-values d s place.y i.year p7.1)
    (inl refl))))))))

-- an index in the list passes
only_one : {A : Type 0} (z x : A) → Has (z ∷ []) x → z ≡ x
only_one z x (inl e) = e
only_one z x (inr h) = absurd h

pub indices-pass : (d : Data) (s : List ℕ) (i : Index) → Has (indices d s) i → is_index d s i ≡ true
indices-pass d s i h =
    let q0 = flat_map_parts (λ r. from_rr d s r) (values_at d s place.r) i h in
    let q1 = flat_map_parts (λ rr. from_l d s q0.0 rr) (values_at d s place.rr) i q0.2 in
    let q2 = flat_map_parts (λ l. from_t d s q0.0 q1.0 l) (values_at d s place.l) i q1.2 in
    let q3 = flat_map_parts (λ t. from_f d s q0.0 q1.0 q2.0 t) (values_at d s place.t) i q2.2 in
    let q4 = flat_map_parts (λ f. from_e d s q0.0 q1.0 q2.0 q3.0 f) (values_at d s place.f) i q3.2 in
    let q5 = flat_map_parts (λ e. from_m d s q0.0 q1.0 q2.0 q3.0 q4.0 e) (values_at d s place.e) i q4.2 in
    let q6 = flat_map_parts (λ m. from_y d s q0.0 q1.0 q2.0 q3.0 q4.0 q5.0 m) (values_at d s place.m) i q5.2 in
    let q7 = flat_map_parts (λ y. index q0.0 q1.0 q2.0 q3.0 q4.0 q5.0 q6.0 y ∷ []) (values_at d s place.y) i q6.2 in
    subst (λ j. is_index d s j ≡ true) (only_one (index q0.0 q1.0 q2.0 q3.0 q4.0 q5.0 q6.0 q7.0) i q7.2)
    (both_pass (is_value_at d s place.r q0.0 && is_value_at d s place.rr q1.0 && is_value_at d s place.l q2.0 && is_value_at d s place.t q3.0 && is_value_at d s place.f q4.0 && is_value_at d s place.e q5.0 && is_value_at d s place.m q6.0) (is_value_at d s place.y q7.0) (both_pass (is_value_at d s place.r q0.0 && is_value_at d s place.rr q1.0 && is_value_at d s place.l q2.0 && is_value_at d s place.t q3.0 && is_value_at d s place.f q4.0 && is_value_at d s place.e q5.0) (is_value_at d s place.m q6.0) (both_pass (is_value_at d s place.r q0.0 && is_value_at d s place.rr q1.0 && is_value_at d s place.l q2.0 && is_value_at d s place.t q3.0 && is_value_at d s place.f q4.0) (is_value_at d s place.e q5.0) (both_pass (is_value_at d s place.r q0.0 && is_value_at d s place.rr q1.0 && is_value_at d s place.l q2.0 && is_value_at d s place.t q3.0) (is_value_at d s place.f q4.0) (both_pass (is_value_at d s place.r q0.0 && is_value_at d s place.rr q1.0 && is_value_at d s place.l q2.0) (is_value_at d s place.t q3.0) (both_pass (is_value_at d s place.r q0.0 && is_value_at d s place.rr q1.0) (is_value_at d s place.l q2.0) (both_pass (is_value_at d s place.r q0.0) (is_value_at d s place.rr q1.0) (values-pass d s place.r q0.0 q0.1) (values-pass d s place.rr q1.0 q1.1)) (values-pass d s place.l q2.0 q2.1)) (values-pass d s place.t q3.0 q3.1)) (values-pass d s place.f q4.0 q4.1)) (values-pass d s place.e q5.0 q5.1)) (values-pass d s place.m q6.0 q6.1)) (values-pass d s place.y q7.0 q7.1))

-- ---- instances

-- a name that passes is in the list of instances, and a name in the list passes
pub Has-instances : (d : Data) (name : RowName) → Has (instances d) name ↔ (is_instance d name ≡ true)
Has-instances d name = (
  λ h.
      let found = flat_map_parts (instances_of d) equation_numbers name h in
      let mapped = map_parts (name_at found.0) (filter (stands_at d found.0) (indices d (subscripts_of found.0))) name found.2 in
      let passed = filter_parts (stands_at d found.0) (indices d (subscripts_of found.0)) mapped.0 mapped.1 in
      subst (λ n. is_instance d n ≡ true) mapped.2
      (both_pass (list_any (nat_eq found.0) equation_numbers && is_index d (subscripts_of found.0) mapped.0) (stands_at d found.0 mapped.0)
      (both_pass (list_any (nat_eq found.0) equation_numbers) (is_index d (subscripts_of found.0) mapped.0)
      (has_any equation_numbers found.0 found.1) (indices-pass d (subscripts_of found.0) mapped.0 passed.0))
      passed.1),
  λ passes.
      let tests = and_parts (list_any (nat_eq name.eq) equation_numbers && is_index d (subscripts_of name.eq) name.index) (stands_at d name.eq name.index) passes in
      let within = and_parts (list_any (nat_eq name.eq) equation_numbers) (is_index d (subscripts_of name.eq) name.index) tests.0 in
      Has-flat_map (instances_of d) equation_numbers name.eq name (any_has equation_numbers name.eq within.0)
      (Has-map (name_at name.eq) (filter (stands_at d name.eq) (indices d (subscripts_of name.eq))) name.index
      (Has-filter (stands_at d name.eq) (indices d (subscripts_of name.eq)) name.index (Has-indices d (subscripts_of name.eq) name.index within.1) tests.1)),
)

-- the same of variables
pub Has-variables : (d : Data) (v : Var) → Has (all_variables d) v ↔ (exists d v ≡ true)
Has-variables d v = (
  λ h.
      let found = flat_map_parts (variables_of_kind d) kind_numbers v h in
      let mapped = map_parts (variable found.0) (filter (exists_at d found.0) (indices d (subscripts_of_kind found.0))) v found.2 in
      let passed = filter_parts (exists_at d found.0) (indices d (subscripts_of_kind found.0)) mapped.0 mapped.1 in
      subst (λ n. exists d n ≡ true) mapped.2
      (both_pass (list_any (nat_eq found.0) kind_numbers && is_index d (subscripts_of_kind found.0) mapped.0) (exists_at d found.0 mapped.0)
      (both_pass (list_any (nat_eq found.0) kind_numbers) (is_index d (subscripts_of_kind found.0) mapped.0)
      (has_any kind_numbers found.0 found.1) (indices-pass d (subscripts_of_kind found.0) mapped.0 passed.0))
      passed.1),
  λ passes.
      let tests = and_parts (list_any (nat_eq v.kind) kind_numbers && is_index d (subscripts_of_kind v.kind) v.index) (exists_at d v.kind v.index) passes in
      let within = and_parts (list_any (nat_eq v.kind) kind_numbers) (is_index d (subscripts_of_kind v.kind) v.index) tests.0 in
      Has-flat_map (variables_of_kind d) kind_numbers v.kind v (any_has kind_numbers v.kind within.0)
      (Has-map (variable v.kind) (filter (exists_at d v.kind) (indices d (subscripts_of_kind v.kind))) v.index
      (Has-filter (exists_at d v.kind) (indices d (subscripts_of_kind v.kind)) v.index (Has-indices d (subscripts_of_kind v.kind) v.index within.1) tests.1)),
)

-- ---- as std says it

pub Contains-instances : (d : Data) (name : RowName) → Contains (instances d) name ↔ (is_instance d name ≡ true)
Contains-instances d name =
    (λ h. (Has-instances d name).0 (Has-from_Contains (instances d) name h), λ passes. Contains-from_Has (instances d) name ((Has-instances d name).1 passes))

pub Contains-variables : (d : Data) (v : Var) → Contains (all_variables d) v ↔ (exists d v ≡ true)
Contains-variables d v =
    (λ h. (Has-variables d v).0 (Has-from_Contains (all_variables d) v h), λ passes. Contains-from_Has (all_variables d) v ((Has-variables d v).1 passes))
