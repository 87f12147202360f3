-- Strictly ascending lists: two with the same members are the same list.
use Rattle.row_problem.proofs.Common.{◌≡◌, Bool, true, List, [], ◌∷◌, refl, sym, ap, ap₂, ◌∙◌, subst, inl, inr, filter, map, Ordering, Less, both_true, ascends, before_first, ascends-first, ascends-tail, test-from_Less, Has, Contains-from_Has, by_test}
use Rattle.std.specs.Cmp.{IsTotalOrder}
use Rattle.std.specs.Ordering.{ordering_reverse}

module _ {K : Type 0} (cmp : K → K → Ordering) (total : IsTotalOrder cmp) where
  -- the first is before each other member
  pub first-before : (v : K) (vs : List K) (w : K) → ascends cmp (v ∷ vs) ≡ true → Has vs w → cmp v w ≡ Less
  first-before v vs w up there =
      let found = Contains-from_Has vs w there in
      subst (λ u. cmp v u ≡ Less) found.2 (ascends-first cmp total v vs up found.0 _ found.1)

  -- none is before itself, nor before one that is before it
  never : (v w : K) → cmp v w ≡ Less → cmp w v ≡ Less → ⊥
  never v w h k = irreflexive (total.trans v w v h k)
    where
      irreflexive : cmp v v ≡ Less → ⊥
      irreflexive h = cc (sym h ∙ (total.antisymm v v ∙ ap ordering_reverse h))

  pub not-again : (v : K) (vs : List K) → ascends cmp (v ∷ vs) ≡ true → Has vs v → ⊥
  not-again v vs up there = let less = first-before v vs v up there in never v v less less

  same_first : (v w : K) (vs ws : List K) → ascends cmp (v ∷ vs) ≡ true → ascends cmp (w ∷ ws) ≡ true → Has (w ∷ ws) v → Has (v ∷ vs) w → v ≡ w
  same_first v w vs ws up wp (inl e) back = sym e
  same_first v w vs ws up wp (inr later) (inl e) = e
  same_first v w vs ws up wp (inr later) (inr after) = absurd (never w v (first-before w ws v wp later) (first-before v vs w up after))

  -- a later member of one list is a later member of the other
  rest-of : (v : K) (vs ws : List K) → ascends cmp (v ∷ vs) ≡ true → ((u : K) → Has (v ∷ vs) u → Has (v ∷ ws) u) → (u : K) → Has vs u → Has ws u
  rest-of v vs ws up to u there = elim (to u (inr there)) [ inl e ↦ absurd (not-again v vs up (subst (Has vs) (sym e) there)) | inr later ↦ later ]

  pub same-list : (vs ws : List K) → ascends cmp vs ≡ true → ascends cmp ws ≡ true → ((u : K) → Has vs u → Has ws u) → ((u : K) → Has ws u → Has vs u) → vs ≡ ws
  same-list [] [] up wp to back = refl
  same-list [] (w ∷ ws) up wp to back = absurd (back w (inl refl))
  same-list (v ∷ vs) [] up wp to back = absurd (to v (inl refl))
  same-list (v ∷ vs) (w ∷ ws) up wp to back =
      let e : w ≡ v = sym (same_first v w vs ws up wp (to v (inl refl)) (back w (inl refl))) in
      let wp_v = rw e at wp in
      let to_v = rw e at to in
      let back_v = rw e at back in
      rw e (ap {B = List K} (λ xs. v ∷ xs) (same-list vs ws (ascends-tail cmp v vs up) (ascends-tail cmp v ws wp_v) (rest-of v vs ws up to_v) (rest-of v ws vs wp_v back_v)))

  -- ---- those that pass a test

  before-all : (v : K) (ws : List K) → ((u : K) → Has ws u → cmp v u ≡ Less) → before_first cmp v ws ≡ true
  before-all v [] h = refl
  before-all v (w ∷ ws) h = test-from_Less (cmp v w) (h w (inl refl))

  pub filter-names : {A : Type 0} (name : A → K) (p : A → Bool) (xs : List A) (u : K) → Has (map name (filter p xs)) u → Has (map name xs) u
  filter-names name p [] u h = absurd h
  filter-names name p (x ∷ xs) u h = by_test (p x) (λ is. elim (rw is at h) [ inl e ↦ inl e | inr k ↦ inr (filter-names name p xs u k) ]) (λ is. inr (filter-names name p xs u (rw is at h)))

  pub filter-ascends : {A : Type 0} (name : A → K) (p : A → Bool) (xs : List A) → ascends cmp (map name xs) ≡ true → ascends cmp (map name (filter p xs)) ≡ true
  filter-ascends name p [] up = refl
  filter-ascends name p (x ∷ xs) up =
      let rest = filter-ascends name p xs (ascends-tail cmp (name x) (map name xs) up) in
      by_test (p x) (λ is. rw is (both_true (before-all (name x) (map name (filter p xs)) (λ u h. first-before (name x) (map name xs) u up (filter-names name p xs u h))) rest)) (λ is. rw is rest)
