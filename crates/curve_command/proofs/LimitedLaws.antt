-- The data with another limit on the emissions of the model period have the same equations but that one: what each says computes to the same. So a plan of these
-- data is one at that limit, and of the data with two limits all rows but one are the same.
use Rattle.curve_command.proofs.Common.{◌≡◌, ◌≢◌, ℕ, ◌<◌, ℤ, pos, ◌*ℤ◌, Bool, true, false, ◌&&◌, List, [], ◌∷◌, ◌++◌, map, filter, nat_eq, refl, sym, ap, ◌∙◌, subst, inl, inr, arith, lt-ltb, ◌⊎◌, ◌<ℤ◌, ◌≤ℤ◌, both_true, flat_map, list_any, range_with_len, is_eq, and_parts, cases_Bool, ints, ≤ℤ-*ℤ, ≤ℤ_cancel, products, Data, billion, Index, RowName, Var, E9, row_name_cmp, Holds, Statement, Has, append_parts, exists, exists_at, kind_numbers, subscripts_of_kind, at_re, equation_numbers, indices, instances, instances_of, is_index, is_instance, name_at, stands_at, subscripts_of, model_period_emission_limit, Feasible, Meets, MeetsEach, says, model_period_emissions, Has-instances, any_has, name-itself, same-name, terms_at, index-from_values, values-re, FeasibleWithin, limit_at, with_limit}
use Rattle.std.proofs.Math.Path.{fun_ext}
use Rattle.std.proofs.lemmas.Grind.{flat_map-append}
use Rattle.row_core.specs.EquationTerms.{EquationTerms}
use Rattle.row_core.specs.Subscripts as place
use Rattle.curve_command.proofs.LimitValues.{IsPlace, is-limit, limit-apart, limit-here, limits-stand}

-- what holds of one name, and of each other name, holds of each
pub at-name : (P : RowName → Type 0) (limit name : RowName) → P limit → (name ≢ limit → P name) → P name
at-name P limit name own other = elim (cases_Bool (is_eq (row_name_cmp name limit))) [
  | inl same ↦ subst P (sym (same-name name limit same)) own
  | inr apart ↦ other (λ same. let own_name = name-itself name limit same in cc (own_name, apart))
]

-- where two lists are mapped to the same, so is each element
each-alike : {A B : Type 0} (f g : A → B) (xs : List A) (x : A) → map f xs ≡ map g xs → Has xs x → f x ≡ g x
each-alike f g [] x same has = absurd has
each-alike f g (y ∷ ys) x same (inl at) = subst (λ w. f w ≡ g w) at (cc same)
each-alike f g (y ∷ ys) x same (inr later) = each-alike f g ys x (cc same) later

-- a test is the same where its second part is, whenever the first passes
tested : (b s t : Bool) → (b ≡ true → s ≡ t) → (b && s) ≡ (b && t)
tested true s t same = same refl
tested false s t same = refl

-- ---- the equations

-- all equations but the last, which is E9
abbrev others : List ℕ
others = range_with_len 1 63

by-number : (eq : ℕ) → list_any (nat_eq eq) equation_numbers ≡ true → Has others eq ⊎ (E9 ≡ eq)
by-number eq known = elim (append_parts others (E9 ∷ []) eq (any_has equation_numbers eq known)) [ inl among ↦ inl among | inr (inl last) ↦ inr last | inr (inr none) ↦ absurd none ]

-- an equation of the data at an index: what it says, whether it stands there, and its terms
abbrev pub Seen : Type 0
Seen = Statement × Bool × EquationTerms

abbrev pub seen : ℕ → ℕ → (Var → ℤ) → Data → ℕ → Index → Seen
seen places q x d eq i = (says places d q x (name_at eq i), stands_at d eq i, terms_at places d (name_at eq i))

-- the name is one of an equation, with its subscripts
abbrev is_named : Data → RowName → Bool
is_named d name = list_any (nat_eq name.eq) equation_numbers && is_index d (subscripts_of name.eq) name.index

named-instance : (d : Data) (name : RowName) → is_instance d name ≡ true → is_named d name ≡ true
named-instance d name is = (and_parts (is_named d name) (stands_at d name.eq name.index) is).0

module _ (d : Data) (r e : ℕ) (z : ℤ) where
  abbrev limited : Data
  limited = with_limit d r e z

  all-exist : (i : Index) → map (λ kind. exists_at d kind i) kind_numbers ≡ map (λ kind. exists_at limited kind i) kind_numbers
  all-exist i = refl

  pub exists-alike : (v : Var) → exists d v ≡ exists limited v
  exists-alike v =
      tested (list_any (nat_eq v.kind) kind_numbers && is_index d (subscripts_of_kind v.kind) v.index) (exists_at d v.kind v.index) (exists_at limited v.kind v.index)
      (λ is.
      let known = (and_parts (list_any (nat_eq v.kind) kind_numbers) (is_index d (subscripts_of_kind v.kind) v.index) is).0 in
      each-alike (λ kind. exists_at d kind v.index) (λ kind. exists_at limited kind v.index) kind_numbers v.kind (all-exist v.index) (any_has kind_numbers v.kind known))

  all-alike : (places q : ℕ) (x : Var → ℤ) (i : Index) → map (λ eq. seen places q x d eq i) others ≡ map (λ eq. seen places q x limited eq i) others
  all-alike places q x i = refl

  module _ (at : IsPlace d r e) where
    -- each equation but the limit is the same
    pub alike : (places q : ℕ) (x : Var → ℤ) (name : RowName) → is_named d name ≡ true → name ≢ limit_at r e → seen places q x d name.eq name.index ≡ seen places q x limited name.eq name.index
    alike places q x name named apart =
        let parts = and_parts (list_any (nat_eq name.eq) equation_numbers) (is_index d (subscripts_of name.eq) name.index) named in
        elim (by-number name.eq parts.0) [
          | inl among ↦ each-alike (λ eq. seen places q x d eq name.index) (λ eq. seen places q x limited eq name.index) others name.eq (all-alike places q x name.index) among
          | inr last ↦
              subst (λ n. is_index d (subscripts_of n) name.index ≡ true → name_at n name.index ≢ limit_at r e → seen places q x d n name.index ≡ seen places q x limited n name.index) last
              (λ within other. cc (limit-apart d r e z at name.index within other)) parts.1 apart
        ]

    pub says-alike : (places q : ℕ) (x : Var → ℤ) (name : RowName) → is_instance d name ≡ true → name ≢ limit_at r e → says places d q x name ≡ says places limited q x name
    says-alike places q x name is apart = ap (λ (s : Seen). s.0) (alike places q x name (named-instance d name is) apart)

    -- and stands at the same indices
    pub instance-alike : (name : RowName) → name ≢ limit_at r e → is_instance d name ≡ is_instance limited name
    instance-alike name apart =
        tested (is_named d name) (stands_at d name.eq name.index) (stands_at limited name.eq name.index) (λ named. ap (λ (s : Seen). s.1) (alike 0 0 (λ v. pos 0) name named apart))

    pub limit-instance : pos 0 ≤ℤ z → is_instance limited (limit_at r e) ≡ true
    limit-instance least =
        both_true (both_true refl (index-from_values limited (place.r ∷ place.e ∷ []) (at_re r e) (values-re limited r e (lt-ltb r _ at.region) (lt-ltb e _ at.emission))))
        (is-limit (model_period_emission_limit limited r e) (rw (limit-here d r e z) least))

    -- ---- plans

    meets-each : (places q : ℕ) (x : Var → ℤ) (names : List RowName) → ((name : RowName) → Has names name → Meets places limited q x name) → MeetsEach places limited q x names
    meets-each places q x [] met = tt
    meets-each places q x (name ∷ names) met = (met name (inl refl), meets-each places q x names (λ other has. met other (inr has)))

    meets-one : (places q : ℕ) (x : Var → ℤ) (names : List RowName) (name : RowName) → MeetsEach places limited q x names → Has names name → Meets places limited q x name
    meets-one places q x [] name met has = absurd has
    meets-one places q x (first ∷ names) name met (inl same) = subst (Meets places limited q x) same met.0
    meets-one places q x (first ∷ names) name met (inr has) = meets-one places q x names name met.1 has

    pub within-from_feasible : pos 0 ≤ℤ z → (places q : ℕ) (x : Var → ℤ) → Feasible places limited q x → FeasibleWithin places d r e z billion q x
    within-from_feasible least places q x plan =
        let met : (name : RowName) → is_instance limited name ≡ true → Meets places limited q x name = λ name is. meets-one places q x (instances limited) name plan.equations ((Has-instances limited name).1 is) in
        record {
          positive = plan.positive;
          others = λ name is apart. subst Holds (sym (says-alike places q x name is apart)) (met name (sym (instance-alike name apart) ∙ is));
          within = rw (limit-here d r e z) at (met (limit_at r e) (limit-instance least));
          signs = λ v is fixed. plan.signs v (sym (exists-alike v) ∙ is) fixed;
        }

    pub feasible-from_within : (places q : ℕ) (x : Var → ℤ) → FeasibleWithin places d r e z billion q x → Feasible places limited q x
    feasible-from_within places q x plan = record {
      positive = plan.positive;
      equations = meets-each places q x (instances limited)
          (λ name has.
          at-name (λ n. is_instance limited n ≡ true → Meets places limited q x n) (limit_at r e) name
          (λ is. rw (limit-here d r e z) plan.within)
          (λ apart is. let there = instance-alike name apart ∙ is in subst Holds (says-alike places q x name there apart) (plan.others name there apart))
          ((Has-instances limited name).0 has));
      signs = λ v is fixed. plan.signs v (exists-alike v ∙ is) fixed;
    }

-- ---- two limits

-- all rows but that of the limit are the same
pub record AreAlikeBut (places : ℕ) (one other : Data) (limit : RowName) : Type 0 where
  pub same_instances : instances one ≡ instances other
  pub same_terms : (name : RowName) → is_instance one name ≡ true → name ≢ limit → terms_at places one name ≡ terms_at places other name
  pub says_same : (name : RowName) → is_instance one name ≡ true → name ≢ limit → (q : ℕ) (x : Var → ℤ) → says places one q x name ≡ says places other q x name

pub limits-alike : (places : ℕ) (d : Data) (r e : ℕ) (y z : ℤ) → IsPlace d r e → pos 0 ≤ℤ y → pos 0 ≤ℤ z → AreAlikeBut places (with_limit d r e y) (with_limit d r e z) (limit_at r e)
limits-alike places d r e y z at y_least z_least = record {
  same_instances =
      flat_map-append (instances_of one) others (E9 ∷ [])
      ∙ ap (λ stands. flat_map (instances_of one) others ++ (map (name_at E9) (filter stands (indices d (subscripts_of E9))) ++ []))
      (fun_ext (λ (i : Index). limits-stand d r e y z y_least z_least i.region i.emission))
      ∙ sym (flat_map-append (instances_of other) others (E9 ∷ []));
  same_terms = λ name is apart. ap (λ (s : Seen). s.2) (both 0 (λ v. pos 0) name is apart);
  says_same = λ name is apart q x. ap (λ (s : Seen). s.0) (both q x name is apart);
}
  where
    one : Data
    one = with_limit d r e y

    other : Data
    other = with_limit d r e z

    both : (q : ℕ) (x : Var → ℤ) (name : RowName) → is_instance one name ≡ true → name ≢ limit_at r e → seen places q x one name.eq name.index ≡ seen places q x other name.eq name.index
    both q x name is apart =
        let named : is_named d name ≡ true = named-instance one name is in
        sym (alike d r e y at places q x name named apart) ∙ alike d r e z at places q x name named apart

-- a plan at a lower limit is one at a higher
pub within-higher : (places : ℕ) (d : Data) (r e : ℕ) (z a : ℤ) (b q : ℕ) (x : Var → ℤ) → 0 < b → (a *ℤ pos billion) ≤ℤ (z *ℤ pos b) → FeasibleWithin places d r e a b q x
    → FeasibleWithin places d r e z billion q x
within-higher places d r e z a b q x above low plan = record {
  positive = plan.positive;
  others = plan.others;
  within = higher (pos b) (pos q) (pos billion) a z (x (model_period_emissions r e)) (omega (arith, ints, above)) (omega (arith, ints)) (omega (arith, ints)) low plan.within;
  signs = plan.signs;
}
  where
    higher : (b q k a z m : ℤ) → pos 0 <ℤ b → pos 0 ≤ℤ q → pos 0 ≤ℤ k → (a *ℤ k) ≤ℤ (z *ℤ b) → (b *ℤ m) ≤ℤ (a *ℤ q) → (k *ℤ m) ≤ℤ (z *ℤ q)
    higher b q k a z m b_positive q_least k_least low within =
        let one : (k *ℤ (b *ℤ m)) ≤ℤ (k *ℤ (a *ℤ q)) = ≤ℤ-*ℤ (b *ℤ m) (a *ℤ q) k k_least within in
        let two : (q *ℤ (a *ℤ k)) ≤ℤ (q *ℤ (z *ℤ b)) = ≤ℤ-*ℤ (a *ℤ k) (z *ℤ b) q q_least low in
        let left : k *ℤ (b *ℤ m) ≡ (k *ℤ m) *ℤ b = simp products in
        let middle : k *ℤ (a *ℤ q) ≡ q *ℤ (a *ℤ k) = simp products in
        let right : q *ℤ (z *ℤ b) ≡ (z *ℤ q) *ℤ b = simp products in
        ≤ℤ_cancel (k *ℤ m) (z *ℤ q) b b_positive (omega (arith, ints, one, two, left, middle, right))
