-- Being in a list, as a fact that is taken apart element by element.
use Rattle.row_core.proofs.Common.{◌≡◌, ℕ, zero, suc, ◌<◌, Bool, true, false, cond, List, [], ◌∷◌, ◌++◌, map, filter, length, ap, sym, ◌∙◌, refl, subst, arith, ◌⊎◌, inl, inr, slice_index_or, Contains, flat_map}

-- x is an element of the list
abbrev pub Has : {A : Type 0} → List A → A → Type 0
Has [] x = ⊥
Has (y ∷ ys) x = (y ≡ x) ⊎ Has ys x

pub Has-append_left : {A : Type 0} (xs ys : List A) (x : A) → Has xs x → Has (xs ++ ys) x
Has-append_left [] ys x h = absurd h
Has-append_left (z ∷ xs) ys x (inl e) = inl e
Has-append_left (z ∷ xs) ys x (inr h) = inr (Has-append_left xs ys x h)

pub Has-append_right : {A : Type 0} (xs ys : List A) (x : A) → Has ys x → Has (xs ++ ys) x
Has-append_right [] ys x h = h
Has-append_right (z ∷ xs) ys x h = inr (Has-append_right xs ys x h)

pub append_parts : {A : Type 0} (xs ys : List A) (x : A) → Has (xs ++ ys) x → Has xs x ⊎ Has ys x
append_parts [] ys x h = inr h
append_parts (z ∷ xs) ys x (inl e) = inl (inl e)
append_parts (z ∷ xs) ys x (inr h) = elim (append_parts xs ys x h) [ inl l ↦ inl (inr l) | inr r ↦ inr r ]

-- the same by places, as std says it
pub Contains-from_Has : {A : Type 0} (xs : List A) (x : A) → Has xs x → Contains xs x
Contains-from_Has [] x h = absurd h
Contains-from_Has (y ∷ ys) x (inl e) = (0, omega arith, e)
Contains-from_Has (y ∷ ys) x (inr h) =
    let rest = Contains-from_Has ys x h in
    (suc rest.0, omega (arith, rest.1), rest.2)

pub at_place : {A : Type 0} (xs : List A) (x : A) (k : ℕ) → k < length xs → slice_index_or xs k x ≡ x → Has xs x
at_place [] x k inside e = absurd (omega (arith, inside))
at_place (y ∷ ys) x zero inside e = inl e
at_place (y ∷ ys) x (suc k) inside e = inr (at_place ys x k (omega (arith, inside)) e)

pub Has-from_Contains : {A : Type 0} (xs : List A) (x : A) → Contains xs x → Has xs x
Has-from_Contains xs x h = at_place xs x h.0 h.1 h.2

-- of one of the lists for these elements
pub Has-flat_map : {A B : Type 0} (f : A → List B) (vs : List A) (v : A) (x : B) → Has vs v → Has (f v) x → Has (flat_map f vs) x
Has-flat_map f [] v x in_vs in_f = absurd in_vs
Has-flat_map f (w ∷ vs) v x (inl e) in_f = Has-append_left (f w) (flat_map f vs) x (subst (λ u. Has (f u) x) (sym e) in_f)
Has-flat_map f (w ∷ vs) v x (inr h) in_f = Has-append_right (f w) (flat_map f vs) x (Has-flat_map f vs v x h in_f)

pub flat_map_parts : {A B : Type 0} (f : A → List B) (vs : List A) (x : B) → Has (flat_map f vs) x → (v : A) × Has vs v × Has (f v) x
flat_map_parts f [] x h = absurd h
flat_map_parts f (w ∷ vs) x h =
    elim (append_parts (f w) (flat_map f vs) x h) [
      | inl l ↦ (w, inl refl, l)
      | inr r ↦ let rest = flat_map_parts f vs x r in (rest.0, inr rest.1, rest.2)
    ]

-- of those that pass a test
pub kept : {A : Type 0} (b : Bool) (z x : A) (ys : List A) → Has ys x → Has (cond b (z ∷ ys) ys) x
kept true z x ys h = inr h
kept false z x ys h = h

pub kept_first : {A : Type 0} (b : Bool) (z x : A) (ys : List A) → b ≡ true → z ≡ x → Has (cond b (z ∷ ys) ys) x
kept_first b z x ys passes e = subst (λ c. Has (cond c (z ∷ ys) ys) x) (sym passes) (inl e)

pub Has-filter : {A : Type 0} (test : A → Bool) (xs : List A) (x : A) → Has xs x → test x ≡ true → Has (filter test xs) x
Has-filter test [] x h passes = absurd h
Has-filter test (z ∷ xs) x (inl e) passes = kept_first (test z) z x (filter test xs) (ap test e ∙ passes) e
Has-filter test (z ∷ xs) x (inr h) passes = kept (test z) z x (filter test xs) (Has-filter test xs x h passes)

pub kept_parts : {A : Type 0} (b : Bool) (z x : A) (ys : List A) → Has (cond b (z ∷ ys) ys) x → ((b ≡ true) × (z ≡ x)) ⊎ Has ys x
kept_parts true z x ys (inl e) = inl (refl, e)
kept_parts true z x ys (inr h) = inr h
kept_parts false z x ys h = inr h

pub filter_parts : {A : Type 0} (test : A → Bool) (xs : List A) (x : A) → Has (filter test xs) x → Has xs x × (test x ≡ true)
filter_parts test [] x h = absurd h
filter_parts test (z ∷ xs) x h =
    elim (kept_parts (test z) z x (filter test xs) h) [
      | inl first ↦ (inl first.1, ap test (sym first.1) ∙ first.0)
      | inr r ↦ let rest = filter_parts test xs x r in (inr rest.0, rest.1)
    ]

pub Has-map : {A B : Type 0} (g : A → B) (xs : List A) (x : A) → Has xs x → Has (map g xs) (g x)
Has-map g [] x h = absurd h
Has-map g (z ∷ xs) x (inl e) = inl (ap g e)
Has-map g (z ∷ xs) x (inr h) = inr (Has-map g xs x h)

pub map_parts : {A B : Type 0} (g : A → B) (xs : List A) (y : B) → Has (map g xs) y → (x : A) × Has xs x × (g x ≡ y)
map_parts g [] y h = absurd h
map_parts g (z ∷ xs) y (inl e) = (z, inl refl, e)
map_parts g (z ∷ xs) y (inr h) = let rest = map_parts g xs y h in (rest.0, inr rest.1, rest.2)
