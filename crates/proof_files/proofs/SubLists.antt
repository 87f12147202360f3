-- Lists of keys that ascend, some keys of which are taken.
use Rattle.proof_files.proofs.Common.{◌≡◌, Bool, true, false, ◌&&◌, List, [], ◌∷◌, filter, Option, Some, None, inl, inr, ◌⊎◌, refl, sym, ap, ap₂, ◌∙◌, subst, if◌then◌else◌, is_lt, ordering_reverse, Ordering, Frac, ascends, keys_of, ascends-first, ascends-skip, ascends-tail, both_passed, Contains-from_Has, Has, with_values, alike_itself, ascends_filter}
use Rattle.std.specs.Cmp.{IsTotalOrder}
use Rattle.std.specs.declared.cmp.Ordering.TheVariants.{Less, Equal, Greater}
use Rattle.std.proofs.lemmas.Map.Lookups.{CmpEqualImpliesEq}

module _ {K : Type 0} (cmp : K → K → Ordering) (total : IsTotalOrder cmp) where
  -- ---- the keys that have a value

  ascends_after : (x : K) (keys : List K) (values : List (Option Frac)) → ascends cmp (x ∷ keys) ≡ true → ascends cmp (x ∷ keys_of (with_values keys values)) ≡ true
  ascends_after x [] values h = refl
  ascends_after x (k ∷ keys) [] h = refl
  ascends_after x (k ∷ keys) (None ∷ values) h = ascends_after x keys values (ascends-skip cmp total x k keys h)
  ascends_after x (k ∷ keys) (Some v ∷ values) h =
      ap₂ (λ a b. a && b) (both_passed (is_lt (cmp x k)) (ascends cmp (k ∷ keys)) h).0 (ascends_after k keys values (ascends-tail cmp x (k ∷ keys) h))

  pub ascends_with : (keys : List K) (values : List (Option Frac)) → ascends cmp keys ≡ true → ascends cmp (keys_of (with_values keys values)) ≡ true
  ascends_with [] values h = refl
  ascends_with (k ∷ keys) [] h = refl
  ascends_with (k ∷ keys) (None ∷ values) h = ascends_with keys values (ascends-tail cmp k keys h)
  ascends_with (k ∷ keys) (Some v ∷ values) h = ascends_after k keys values h

  -- ---- two strictly ascending lists with the same members are the same list

  first_before : (v : K) (vs : List K) (w : K) → ascends cmp (v ∷ vs) ≡ true → Has vs w → cmp v w ≡ Less
  first_before v vs w up there =
      let found = Contains-from_Has vs w there in
      subst (λ u. cmp v u ≡ Less) found.2 (ascends-first cmp total v vs up found.0 w found.1)

  never : (v w : K) → cmp v w ≡ Less → cmp w v ≡ Less → ⊥
  never v w h k = irreflexive (total.trans v w v h k)
    where
      irreflexive : cmp v v ≡ Less → ⊥
      irreflexive h = cc (sym h ∙ (total.antisymm v v ∙ ap ordering_reverse h))

  same_first : (v w : K) (vs ws : List K) → ascends cmp (v ∷ vs) ≡ true → ascends cmp (w ∷ ws) ≡ true → Has (w ∷ ws) v → Has (v ∷ vs) w → v ≡ w
  same_first v w vs ws up wp (inl e) back = sym e
  same_first v w vs ws up wp (inr later) (inl e) = e
  same_first v w vs ws up wp (inr later) (inr after) = absurd (never w v (first_before w ws v wp later) (first_before v vs w up after))

  rest_of : (v : K) (vs ws : List K) → ascends cmp (v ∷ vs) ≡ true → ((u : K) → Has (v ∷ vs) u → Has (v ∷ ws) u) → (u : K) → Has vs u → Has ws u
  rest_of v vs ws up to u there = elim (to u (inr there)) [
    | inl e ↦ absurd (never v v (subst (λ x. cmp v x ≡ Less) (sym e) (first_before v vs u up there)) (subst (λ x. cmp v x ≡ Less) (sym e) (first_before v vs u up there)))
    | inr later ↦ later
  ]

  pub same_list : (vs ws : List K) → ascends cmp vs ≡ true → ascends cmp ws ≡ true → ((u : K) → Has vs u → Has ws u) → ((u : K) → Has ws u → Has vs u) → vs ≡ ws
  same_list [] [] up wp to back = refl
  same_list [] (w ∷ ws) up wp to back = absurd (back w (inl refl))
  same_list (v ∷ vs) [] up wp to back = absurd (to v (inl refl))
  same_list (v ∷ vs) (w ∷ ws) up wp to back =
      let e : v ≡ w = same_first v w vs ws up wp (to v (inl refl)) (back w (inl refl)) in
      let wp_v : ascends cmp (v ∷ ws) ≡ true = subst (λ u. ascends cmp (u ∷ ws) ≡ true) (sym e) wp in
      let to_v : (u : K) → Has (v ∷ vs) u → Has (v ∷ ws) u = λ u h. subst (λ x. Has (x ∷ ws) u) (sym e) (to u h) in
      let back_v : (u : K) → Has (v ∷ ws) u → Has (v ∷ vs) u = λ u h. back u (subst (λ x. Has (x ∷ ws) u) e h) in
      ap₂ (λ x xs. x ∷ xs) e
      (same_list vs ws (ascends-tail cmp v vs up) (ascends-tail cmp v ws wp_v) (rest_of v vs ws up to_v) (rest_of v ws vs wp_v back_v))

  -- ---- those of the keys that pass a test, by what passes it

  filtered_has : (p : K → Bool) (keys : List K) (k : K) → Has (filter p keys) k → Has keys k × (p k ≡ true)
  filtered_has p [] k h = absurd h
  filtered_has p (x ∷ keys) k h = by_test (filtered_has p keys k) (p x) refl h
    where
      by_test : (Has (filter p keys) k → Has keys k × (p k ≡ true)) → (b : Bool) → p x ≡ b → Has (if b then x ∷ filter p keys else filter p keys) k → Has (x ∷ keys) k × (p k ≡ true)
      by_test after true is (inl e) = (inl e, ap p (sym e) ∙ is)
      by_test after true is (inr later) = (inr (after later).0, (after later).1)
      by_test after false is later = (inr (after later).0, (after later).1)

  has_filtered : (p : K → Bool) (keys : List K) (k : K) → Has keys k → p k ≡ true → Has (filter p keys) k
  has_filtered p [] k h passed = absurd h
  has_filtered p (x ∷ keys) k h passed = by_test (λ later. has_filtered p keys k later passed) (p x) refl h
    where
      here : p x ≡ false → x ≡ k → ⊥
      here is e = let clash : false ≡ true = sym is ∙ ap p e ∙ passed in cc clash

      by_test : (Has keys k → Has (filter p keys) k) → (b : Bool) → p x ≡ b → Has (x ∷ keys) k → Has (if b then x ∷ filter p keys else filter p keys) k
      by_test after true is (inl e) = inl e
      by_test after true is (inr later) = inr (after later)
      by_test after false is (inl e) = absurd (here is e)
      by_test after false is (inr later) = after later

  -- some keys that ascend are those of all that pass a test, where just they pass it
  pub kept_are : (p : K → Bool) (keys some : List K) → ascends cmp keys ≡ true → ascends cmp some ≡ true → ((k : K) → Has some k → Has keys k × (p k ≡ true)) → ((k : K) → Has keys k → p k ≡ true → Has some k)
      → some ≡ filter p keys
  kept_are p keys some up ascending to back =
      same_list some (filter p keys) ascending (ascends_filter cmp total p keys up)
      (λ k h. has_filtered p keys k (to k h).0 (to k h).1)
      (λ k h. let both = filtered_has p keys k h in back k both.0 both.1)

  -- ---- whether a key is one of a list

  module _ (exact : CmpEqualImpliesEq cmp) where
    same_or_not : (a b : K) → (a ≡ b) ⊎ (a ≡ b → ⊥)
    same_or_not a b = by_order (cmp a b) refl
      where
        alike : a ≡ b → cmp a b ≡ Equal
        alike same = ap (cmp a) (sym same) ∙ alike_itself cmp total a

        by_order : (o : Ordering) → cmp a b ≡ o → (a ≡ b) ⊎ (a ≡ b → ⊥)
        by_order Less is = inr (λ same. cc (sym is ∙ alike same))
        by_order Equal is = inl (exact a b is)
        by_order Greater is = inr (λ same. cc (sym is ∙ alike same))

    pub has_or_not : (keys : List K) (k : K) → Has keys k ⊎ ((x : K) → Has keys x → x ≡ k → ⊥)
    has_or_not [] k = inr (λ x h e. h)
    has_or_not (y ∷ ys) k = elim (same_or_not y k) [
      | inl same ↦ inl (inl same)
      | inr apart ↦ elim (has_or_not ys k) [
        | inl later ↦ inl (inr later)
        | inr never ↦ inr (λ x h e. elim h [ inl here ↦ apart (here ∙ e) | inr there ↦ never x there e ])
      ]
    ]
