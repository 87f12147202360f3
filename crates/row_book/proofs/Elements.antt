-- Being an element of what a filter keeps, and of what is mapped.
use Rattle.std.proofs.Common.{◌≡◌, Bool, true, false, cond, ◌⊎◌, inl, inr, List, [], ◌∷◌, map, filter, ap, sym, ◌∙◌, refl, subst}
use Rattle.row_core.proofs.Members.{Has}

has_kept : {A : Type 0} (b : Bool) (z x : A) (ys : List A) → Has ys x → Has (cond b (z ∷ ys) ys) x
has_kept true z x ys h = inr h
has_kept false z x ys h = h

has_first : {A : Type 0} (b : Bool) (z x : A) (ys : List A) → b ≡ true → z ≡ x → Has (cond b (z ∷ ys) ys) x
has_first b z x ys passes e = subst (λ c. Has (cond c (z ∷ ys) ys) x) (sym passes) (inl e)

pub Has-filter : {A : Type 0} (test : A → Bool) (xs : List A) (x : A) → Has xs x → test x ≡ true → Has (filter test xs) x
Has-filter test [] x h passes = absurd h
Has-filter test (z ∷ xs) x (inl e) passes = has_first (test z) z x (filter test xs) (ap test e ∙ passes) e
Has-filter test (z ∷ xs) x (inr h) passes = has_kept (test z) z x (filter test xs) (Has-filter test xs x h passes)

pub Has-map : {A B : Type 0} (g : A → B) (xs : List A) (x : A) → Has xs x → Has (map g xs) (g x)
Has-map g [] x h = absurd h
Has-map g (z ∷ xs) x (inl e) = inl (ap g e)
Has-map g (z ∷ xs) x (inr h) = inr (Has-map g xs x h)

kept_parts : {A : Type 0} (b : Bool) (z x : A) (ys : List A) → Has (cond b (z ∷ ys) ys) x → ((b ≡ true) × (z ≡ x)) ⊎ Has ys x
kept_parts true z x ys (inl e) = inl (refl, e)
kept_parts true z x ys (inr h) = inr h
kept_parts false z x ys h = inr h

pub filter_parts : {A : Type 0} (test : A → Bool) (xs : List A) (x : A) → Has (filter test xs) x → Has xs x × (test x ≡ true)
filter_parts test [] x h = absurd h
filter_parts test (z ∷ xs) x h =
    elim (kept_parts (test z) z x (filter test xs) h) [
      | inl first ↦ (inl first.1, ap test (sym first.1) ∙ first.0)
      | inr r ↦ let rest = filter_parts test xs x r in (inr rest.0, rest.1)
    ]

pub map_parts : {A B : Type 0} (g : A → B) (xs : List A) (y : B) → Has (map g xs) y → (x : A) × Has xs x × (g x ≡ y)
map_parts g [] y h = absurd h
map_parts g (z ∷ xs) y (inl e) = (z, inl refl, e)
map_parts g (z ∷ xs) y (inr h) = let rest = map_parts g xs y h in (rest.0, inr rest.1, rest.2)
