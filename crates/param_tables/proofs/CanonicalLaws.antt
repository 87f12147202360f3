-- Data in canonical form: what they give at each index, and when two are equal.
use Rattle.param_tables.proofs.Common.{◌≡◌, ℕ, zero, ◌+◌, ◌-◌, ◌<◌, ◌≤◌, Bool, true, false, cond, ◌&&◌, ◌||◌, List, [], ◌∷◌, ◌++◌, Option, None, Some, length, nat_eq, get_or, refl, sym, ap, ap₂, ◌∙◌, subst, inl, inr, arith, ℤ, Contains, filter, is_some, pointwise, cons_option, filter_map, find, flat_map, list_any, range_with_len, option_map, option_or, bytes_eq, cases_eq, eq-eqb, eqb-true, ne_eqb, get_or-range_with_len, length-range_with_len, find-append, AreSameData, Data, Default, Given, IsUsedParam, default_of, given_at, indices_of, is_given_at, used_params, value_at, value_of_none, SetLists, is_used, param_at, param_count, canonical, defaults_in_order, given_in_order, given_value, values_for}
use Rattle.param_tables.specs.SameData.{AreGivenAlike, GiveTheSame}
use Rattle.param_tables.proofs.AscendingLaws.{contains_cases, contains_filter, contains_from_filter, contains_later}
use Rattle.param_tables.proofs.DataLaws.{option_or-map}
use Rattle.param_tables.proofs.GivenLaws.{names_same}

-- ---- the used parameters

pub used_is_listed : (d : Data) (p : ℕ) → IsUsedParam d p → Contains (used_params d) p
used_is_listed d p used =
    let low : 1 ≤ p = used.0.0 in
    let high : p ≤ param_count = used.0.1 in
    let inside : p - 1 < length (range_with_len 1 param_count) = omega (arith, length-range_with_len 1 param_count) in
    let at : get_or (range_with_len 1 param_count) (p - 1) p ≡ p = get_or-range_with_len 1 param_count (p - 1) p (omega arith) ∙ omega arith in
    contains_filter (λ n. is_used d.second (param_at n).used) (range_with_len 1 param_count) p (p - 1, inside, at) used.1

pub listed_is_used : (d : Data) (p : ℕ) → Contains (used_params d) p → IsUsedParam d p
listed_is_used d p has =
    let found = contains_from_filter (λ n. is_used d.second (param_at n).used) (range_with_len 1 param_count) p has in
    let i = found.0.0 in
    let inside : i < param_count = omega (arith, found.0.1, length-range_with_len 1 param_count) in
    let at : 1 + i ≡ p = sym (get_or-range_with_len 1 param_count i p inside) ∙ found.0.2 in
    ((omega (arith, at), omega (arith, at, inside)), found.1)

-- ---- data that give the same

pub filter_map-same : {X Y : Type 0} (f g : X → Option Y) (xs : List X) → ((x : X) → Contains xs x → f x ≡ g x) → filter_map f xs ≡ filter_map g xs
filter_map-same f g [] same = refl
filter_map-same f g (x ∷ xs) same = ap₂ (λ o ys. cons_option o ys) (same x (zero, omega arith, refl)) (filter_map-same f g xs (λ y has. same y (contains_later x xs y has)))

pub flat_map-same : {X Y : Type 0} (f g : X → List Y) (xs : List X) → ((x : X) → Contains xs x → f x ≡ g x) → flat_map f xs ≡ flat_map g xs
flat_map-same f g [] same = refl
flat_map-same f g (x ∷ xs) same = ap₂ (λ ys zs. ys ++ zs) (same x (zero, omega arith, refl)) (flat_map-same f g xs (λ y has. same y (contains_later x xs y has)))

module _ (d e : Data) (same : GiveTheSame d e) where
  given_value_by : Data → ℕ → List (List ℕ) → Option Given
  given_value_by f p index = option_map (given_value p index) (given_at f p index)

  default_by_data : Data → ℕ → Option Default
  default_by_data f p = option_map (λ value. record { param = p; value = value }) (default_of f p)

  same_used : used_params d ≡ used_params e
  same_used = ap (λ b. filter (λ n. is_used b (param_at n).used) (range_with_len 1 param_count)) same.second

  same_values : (p : ℕ) → IsUsedParam d p → values_for d p ≡ values_for e p
  unfolding given_value_by
  same_values p used =
      filter_map-same (given_value_by d p) (given_value_by e p) (indices_of d.sets p) (λ index has. ap (option_map (given_value p index)) (same.values p used index has))
      ∙ ap (λ (sets : SetLists). filter_map (given_value_by e p) (indices_of sets p)) same.sets

  given_alike : given_in_order d ≡ given_in_order e
  unfolding given_in_order
  given_alike = flat_map-same (values_for d) (values_for e) (used_params d) (λ p has. same_values p (listed_is_used d p has)) ∙ ap (flat_map (values_for e)) same_used

  defaults_alike : defaults_in_order d ≡ defaults_in_order e
  unfolding defaults_in_order default_by_data
  defaults_alike =
      filter_map-same (default_by_data d) (default_by_data e) (used_params d) (λ p has. ap (option_map (λ value. record { param = p; value = value })) (same.defaults p (listed_is_used d p has)))
      ∙ ap (filter_map (default_by_data e)) same_used

  pub canonical_one : canonical d ≡ canonical e
  canonical_one =
      ap (λ (sets : SetLists). record { sets = sets; given = given_in_order d; defaults = defaults_in_order d; second = d.second }) same.sets
      ∙ ap₂ (λ given defaults. record { sets = e.sets; given = given; defaults = defaults; second = d.second }) given_alike defaults_alike
      ∙ ap (λ (second : Bool). record { sets = e.sets; given = given_in_order e; defaults = defaults_in_order e; second = second }) same.second

-- ---- the look-up in what is listed

any_true : {X : Type 0} (f : X → Bool) (xs : List X) (x : X) → Contains xs x → f x ≡ true → list_any f xs ≡ true
any_true f [] x has passes = let below = has.1 in absurd (omega arith)
any_true f (y ∷ ys) x has passes = elim (contains_cases y ys x has) [
  | inl here ↦ ap (λ b. b || list_any f ys) (ap f here ∙ passes)
  | inr others ↦ ap (λ b. f y || b) (any_true f ys x others passes) ∙ or_true (f y)
]
  where
    or_true : (b : Bool) → (b || true) ≡ true
    or_true true = refl
    or_true false = refl

none_else : {X : Type 0} (b : Bool) (o : Option X) → None ≡ o → cond b o None ≡ o
none_else true o e = refl
none_else false o e = e

-- a value that is listed where `o` has one is found where it passes the test, and then it is the value looked for
found_step : {G : Type 0} (value : G → ℤ) (make : ℤ → G) → ((v : ℤ) → value (make v) ≡ v) → (test : G → Bool) (t : Bool) → ((v : ℤ) → test (make v) ≡ t) → (o wanted : Option ℤ) → (t ≡ true → o ≡ wanted) → (rest : List G) (later : Bool)
    → option_map value (find test rest) ≡ cond later wanted None → option_map value (find test (cons_option (option_map make o) rest)) ≡ cond (t || later) wanted None
found_step value make made test true passes None wanted is rest later so_far = so_far ∙ none_else later wanted (is refl)
found_step value make made test true passes (Some v) wanted is rest later so_far = ap (λ b. option_map value (cond b (Some (make v)) (find test rest))) (passes v) ∙ ap Some (made v) ∙ is refl
found_step value make made test false passes None wanted is rest later so_far = so_far
found_step value make made test false passes (Some v) wanted is rest later so_far = ap (λ b. option_map value (cond b (Some (make v)) (find test rest))) (passes v) ∙ so_far

-- the values that a look-up gives for the parameter, in the order of its indices
abbrev pub values_by : SetLists → (ℕ → List (List ℕ) → Option ℤ) → ℕ → List Given
values_by sets look q = filter_map (λ index. option_map (given_value q index) (look q index)) (indices_of sets q)

module _ (sets : SetLists) (look : ℕ → List (List ℕ) → Option ℤ) (p : ℕ) (index : List (List ℕ)) where
  at_indices : (is : List (List (List ℕ))) → option_map (λ (g : Given). g.value) (find (is_given_at p index) (filter_map (λ i. option_map (given_value p i) (look p i)) is)) ≡ cond (list_any (λ i. pointwise bytes_eq i index) is) (look p index) None
  at_indices [] = refl
  at_indices (i ∷ is) =
      found_step (λ (g : Given). g.value) (given_value p i) (λ v. refl) (is_given_at p index) (pointwise bytes_eq i index)
      (λ v. ap (λ b. b && pointwise bytes_eq i index) (eq-eqb p p refl))
      (look p i) (look p index) (λ t. ap (look p) ((names_same i index).0 t))
      (filter_map (λ j. option_map (given_value p j) (look p j)) is) (list_any (λ j. pointwise bytes_eq j index) is) (at_indices is)

  of_another : (q : ℕ) → nat_eq q p ≡ false → (is : List (List (List ℕ))) → option_map (λ (g : Given). g.value) (find (is_given_at p index) (filter_map (λ i. option_map (given_value q i) (look q i)) is)) ≡ None
  of_another q other [] = refl
  of_another q other (i ∷ is) =
      found_step (λ (g : Given). g.value) (given_value q i) (λ v. refl) (is_given_at p index) false
      (λ v. ap (λ b. b && pointwise bytes_eq i index) other)
      (look q i) None (λ t. cc)
      (filter_map (λ j. option_map (given_value q j) (look q j)) is) false (of_another q other is)

  module _ (has : Contains (indices_of sets p) index) where
    of_params : (ps : List ℕ) → option_map (λ (g : Given). g.value) (find (is_given_at p index) (flat_map (values_by sets look) ps)) ≡ cond (list_any (λ q. nat_eq q p) ps) (look p index) None
    of_params [] = refl
    of_params (q ∷ qs) =
        ap (option_map (λ (g : Given). g.value)) (find-append (is_given_at p index) (values_by sets look q) (flat_map (values_by sets look) qs))
        ∙ option_or-map (λ (g : Given). g.value) (find (is_given_at p index) (values_by sets look q)) (find (is_given_at p index) (flat_map (values_by sets look) qs))
        ∙ ap (option_or (option_map (λ (g : Given). g.value) (find (is_given_at p index) (values_by sets look q)))) (of_params qs)
        ∙ elim (cases_eq q p) [
          | inl same ↦
              ap (λ o. option_or o (cond (list_any (λ r. nat_eq r p) qs) (look p index) None)) (subst (λ n. option_map (λ (g : Given). g.value) (find (is_given_at p index) (values_by sets look n)) ≡ look p index) (sym same) own)
              ∙ either (look p index) (list_any (λ r. nat_eq r p) qs)
              ∙ sym (ap (λ b. cond (b || list_any (λ r. nat_eq r p) qs) (look p index) None) (eq-eqb q p same))
          | inr other ↦
              ap (λ o. option_or o (cond (list_any (λ r. nat_eq r p) qs) (look p index) None)) (of_another q (ne_eqb q p other) (indices_of sets q))
              ∙ sym (ap (λ b. cond (b || list_any (λ r. nat_eq r p) qs) (look p index) None) (ne_eqb q p other))
        ]
      where
        own : option_map (λ (g : Given). g.value) (find (is_given_at p index) (values_by sets look p)) ≡ look p index
        own = at_indices (indices_of sets p) ∙ ap (λ b. cond b (look p index) None) (any_true (λ i. pointwise bytes_eq i index) (indices_of sets p) index has ((names_same index index).1 refl))

        either : (o : Option ℤ) (b : Bool) → option_or o (cond b o None) ≡ o
        either None true = refl
        either None false = refl
        either (Some v) b = refl

    -- among the values of several parameters
    pub found_by_look : (ps : List ℕ) → Contains ps p → option_map (λ (g : Given). g.value) (find (is_given_at p index) (flat_map (values_by sets look) ps)) ≡ look p index
    found_by_look ps among = of_params ps ∙ ap (λ b. cond b (look p index) None) (any_true (λ q. nat_eq q p) ps p among (eq-eqb p p refl))

pub given_canonical : (d : Data) (p : ℕ) (index : List (List ℕ)) → Contains (indices_of d.sets p) index → IsUsedParam d p → given_at (canonical d) p index ≡ given_at d p index
unfolding given_in_order
given_canonical d p index has used = found_by_look d.sets (given_at d) p index has (used_params d) (used_is_listed d p used)

module _ (look : ℕ → Option ℤ) (p : ℕ) where
  default_among : (ps : List ℕ) → option_map (λ (x : Default). x.value) (find (λ (x : Default). nat_eq x.param p) (filter_map (λ q. option_map (λ value. record { param = q; value = value }) (look q)) ps)) ≡ cond (list_any (λ q. nat_eq q p) ps) (look p) None
  default_among [] = refl
  default_among (q ∷ qs) =
      found_step (λ (x : Default). x.value) (λ value. record { param = q; value = value }) (λ v. refl) (λ (x : Default). nat_eq x.param p) (nat_eq q p) (λ v. refl)
      (look q) (look p) (λ t. ap look (eqb-true q p t))
      (filter_map (λ r. option_map (λ value. record { param = r; value = value }) (look r)) qs) (list_any (λ r. nat_eq r p) qs) (default_among qs)

  pub default_by_look : (ps : List ℕ) → Contains ps p → option_map (λ (x : Default). x.value) (find (λ (x : Default). nat_eq x.param p) (filter_map (λ q. option_map (λ value. record { param = q; value = value }) (look q)) ps)) ≡ look p
  default_by_look ps among = default_among ps ∙ ap (λ b. cond b (look p) None) (any_true (λ q. nat_eq q p) ps p among (eq-eqb p p refl))

pub default_canonical : (d : Data) (p : ℕ) → IsUsedParam d p → default_of (canonical d) p ≡ default_of d p
unfolding defaults_in_order
default_canonical d p used = default_by_look (default_of d) p (used_params d) (used_is_listed d p used)

-- ---- what the data say

pub value_canonical : (d : Data) (p : ℕ) → IsUsedParam d p → (index : List (List ℕ)) → Contains (indices_of d.sets p) index → value_at (canonical d) p index ≡ value_at d p index
value_canonical d p used index has = ap₂ (λ given default. option_or given (option_or default (value_of_none p))) (given_canonical d p index has used) (default_canonical d p used)

pub canonical_same : (d : Data) → AreSameData d (canonical d)
canonical_same d = record { sets = refl; second = refl; values = λ p used index has. sym (value_canonical d p used index has) }

pub canonical_alike : (d : Data) → AreGivenAlike d (canonical d)
canonical_alike d = record { each = λ p used index has. ap is_some (sym (given_canonical d p index has used)) }
