-- Lists made part by part.
use Rattle.std.proofs.Common.{◌≡◌, Bool, true, false, cond, inl, inr, List, [], ◌∷◌, ◌++◌, map, filter, refl, ap, sym, ◌∙◌, subst}
use Rattle.row_book.proofs.Common.{AllByRecursion, flat_map, append-nil, map-append, flat_map-append, Has}

-- ---- parts

pub flat_map-same : {A B : Type 0} (f g : A → List B) → ((x : A) → f x ≡ g x) → (xs : List A) → flat_map f xs ≡ flat_map g xs
flat_map-same f g same [] = refl
flat_map-same f g same (x ∷ xs) = ap (λ earlier. earlier ++ flat_map f xs) (same x) ∙ ap (λ rest. g x ++ rest) (flat_map-same f g same xs)

pub map-flat_map : {A B C : Type 0} (g : B → C) (f : A → List B) (xs : List A) → map g (flat_map f xs) ≡ flat_map (λ x. map g (f x)) xs
map-flat_map g f [] = refl
map-flat_map g f (x ∷ xs) = map-append g (f x) (flat_map f xs) ∙ ap (λ rest. map g (f x) ++ rest) (map-flat_map g f xs)

pub flat_map-flat_map : {A B C : Type 0} (g : B → List C) (f : A → List B) (xs : List A) → flat_map g (flat_map f xs) ≡ flat_map (λ x. flat_map g (f x)) xs
flat_map-flat_map g f [] = refl
flat_map-flat_map g f (x ∷ xs) = flat_map-append g (f x) (flat_map f xs) ∙ ap (λ rest. flat_map g (f x) ++ rest) (flat_map-flat_map g f xs)

-- one part in the middle
pub flat_map-middle : {A B : Type 0} (f : A → List B) (earlier : List A) (x : A) (later : List A) → flat_map f (earlier ++ x ∷ later) ≡ flat_map f earlier ++ (f x ++ flat_map f later)
flat_map-middle f earlier x later = flat_map-append f earlier (x ∷ later)

-- one part at the end
pub flat_map-last : {A B : Type 0} (f : A → List B) (earlier : List A) (x : A) → flat_map f (earlier ++ x ∷ []) ≡ flat_map f earlier ++ f x
flat_map-last f earlier x = flat_map-append f earlier (x ∷ []) ∙ ap (λ last. flat_map f earlier ++ last) (append-nil (f x))

-- ---- filters

pub filter-all : {A : Type 0} (xs : List A) → filter (λ x. true) xs ≡ xs
filter-all [] = refl
filter-all (x ∷ xs) = ap (λ rest. x ∷ rest) (filter-all xs)

-- ---- model of every element

pub all-from : {A : Type 0} (P : A → Type 0) (xs : List A) → ((x : A) → Has xs x → P x) → AllByRecursion P xs
all-from P [] of_each = tt
all-from P (x ∷ xs) of_each = (of_each x (inl refl), all-from P xs (λ y h. of_each y (inr h)))

pub all-has : {A : Type 0} (P : A → Type 0) (xs : List A) (x : A) → AllByRecursion P xs → Has xs x → P x
all-has P [] x of_all has = absurd has
all-has P (y ∷ xs) x of_all (inl e) = subst P e of_all.0
all-has P (y ∷ xs) x of_all (inr has) = all-has P xs x of_all.1 has

pub AllByRecursion-append : {A : Type 0} (P : A → Type 0) (xs ys : List A) → AllByRecursion P xs → AllByRecursion P ys → AllByRecursion P (xs ++ ys)
AllByRecursion-append P [] ys of_xs of_ys = of_ys
AllByRecursion-append P (x ∷ xs) ys of_xs of_ys = (of_xs.0, AllByRecursion-append P xs ys of_xs.1 of_ys)

pub AllByRecursion-parts : {A : Type 0} (P : A → Type 0) (xs ys : List A) → AllByRecursion P (xs ++ ys) → AllByRecursion P xs × AllByRecursion P ys
AllByRecursion-parts P [] ys of_all = (tt, of_all)
AllByRecursion-parts P (x ∷ xs) ys of_all = let parts = AllByRecursion-parts P xs ys of_all.1 in ((of_all.0, parts.0), parts.1)

pub AllByRecursion-weaker : {A : Type 0} (P Q : A → Type 0) → ((x : A) → P x → Q x) → (xs : List A) → AllByRecursion P xs → AllByRecursion Q xs
AllByRecursion-weaker P Q weaker [] of_xs = tt
AllByRecursion-weaker P Q weaker (x ∷ xs) of_xs = (weaker x of_xs.0, AllByRecursion-weaker P Q weaker xs of_xs.1)

pub AllByRecursion-flat_map : {A B : Type 0} (P : B → Type 0) (f : A → List B) → ((x : A) → AllByRecursion P (f x)) → (xs : List A) → AllByRecursion P (flat_map f xs)
AllByRecursion-flat_map P f of_each [] = tt
AllByRecursion-flat_map P f of_each (x ∷ xs) = AllByRecursion-append P (f x) (flat_map f xs) (of_each x) (AllByRecursion-flat_map P f of_each xs)

-- of one part of a list made part by part
pub AllByRecursion-middle : {A B : Type 0} (P : B → Type 0) (f : A → List B) (earlier : List A) (x : A) (later : List A)
    → AllByRecursion P (flat_map f (earlier ++ x ∷ later)) → AllByRecursion P (f x)
AllByRecursion-middle P f [] x later of_all = (AllByRecursion-parts P (f x) (flat_map f later) of_all).0
AllByRecursion-middle P f (y ∷ earlier) x later of_all =
    AllByRecursion-middle P f earlier x later (AllByRecursion-parts P (f y) (flat_map f (earlier ++ x ∷ later)) of_all).1

-- the fact of the elements that pass a test
pub AllByRecursion-filter : {A : Type 0} (P : A → Type 0) (test : A → Bool) (xs : List A) → AllByRecursion P xs → AllByRecursion (λ x. P x × (test x ≡ true)) (filter test xs)
AllByRecursion-filter P test [] of_xs = tt
AllByRecursion-filter P test (x ∷ xs) of_xs = by_test (test x) refl (AllByRecursion-filter P test xs of_xs.1)
  where
    by_test : (b : Bool) → test x ≡ b → AllByRecursion (λ y. P y × (test y ≡ true)) (filter test xs)
        → AllByRecursion (λ y. P y × (test y ≡ true)) (cond b (x ∷ filter test xs) (filter test xs))
    by_test true is rest = ((of_xs.0, is), rest)
    by_test false is rest = rest

pub AllByRecursion-from_map : {A B : Type 0} (P : B → Type 0) (g : A → B) (xs : List A) → AllByRecursion P (map g xs) → AllByRecursion (λ x. P (g x)) xs
AllByRecursion-from_map P g [] of_xs = tt
AllByRecursion-from_map P g (x ∷ xs) of_xs = (of_xs.0, AllByRecursion-from_map P g xs of_xs.1)

-- of what is made part by part, for each element of which something is true
pub AllByRecursion-parts_of : {A B : Type 0} (P : B → Type 0) (Q : A → Type 0) (f : A → List B) (xs : List A) → ((x : A) → Q x → AllByRecursion P (f x)) → AllByRecursion Q xs → AllByRecursion P (flat_map f xs)
AllByRecursion-parts_of P Q f [] of_each of_xs = tt
AllByRecursion-parts_of P Q f (x ∷ xs) of_each of_xs =
    AllByRecursion-append P (f x) (flat_map f xs) (of_each x of_xs.0) (AllByRecursion-parts_of P Q f xs of_each of_xs.1)

pub AllByRecursion-map : {A B : Type 0} (P : B → Type 0) (g : A → B) (xs : List A) → AllByRecursion (λ x. P (g x)) xs → AllByRecursion P (map g xs)
AllByRecursion-map P g [] of_xs = tt
AllByRecursion-map P g (x ∷ xs) of_xs = (of_xs.0, AllByRecursion-map P g xs of_xs.1)

-- parts that are the same at each element of the list
pub flat_map-alike : {A B : Type 0} (f g : A → List B) (xs : List A) → AllByRecursion (λ x. f x ≡ g x) xs → flat_map f xs ≡ flat_map g xs
flat_map-alike f g [] alike = refl
flat_map-alike f g (x ∷ xs) alike = ap (λ earlier. earlier ++ flat_map f xs) alike.0 ∙ ap (λ rest. g x ++ rest) (flat_map-alike f g xs alike.1)

pub flat_map-map : {A B C : Type 0} (g : B → List C) (f : A → B) (xs : List A) → flat_map g (map f xs) ≡ flat_map (λ x. g (f x)) xs
flat_map-map g f [] = refl
flat_map-map g f (x ∷ xs) = ap (λ rest. g (f x) ++ rest) (flat_map-map g f xs)

-- the elements that a test takes out give nothing
pub flat_map-kept : {A B : Type 0} (test : A → Bool) (f : A → List B) → ((x : A) → test x ≡ false → f x ≡ []) → (xs : List A) → flat_map f (filter test xs) ≡ flat_map f xs
flat_map-kept test f none [] = refl
flat_map-kept test f none (x ∷ xs) = by_test (test x) refl (flat_map-kept test f none xs)
  where
    by_test : (b : Bool) → test x ≡ b → flat_map f (filter test xs) ≡ flat_map f xs → flat_map f (cond b (x ∷ filter test xs) (filter test xs)) ≡ f x ++ flat_map f xs
    by_test true is rest = ap (λ more. f x ++ more) rest
    by_test false is rest = rest ∙ ap (λ earlier. earlier ++ flat_map f xs) (sym (none x is))
