-- Lists of which each element is before every later one, and how they are made from lists of numbers that grow.
use Rattle.named_equations.proofs.Common.{◌≡◌, ℕ, zero, suc, ◌+◌, ◌<◌, Bool, true, false, cond, List, [], ◌∷◌, ◌++◌, map, filter, ap, ◌∙◌, refl, arith, flat_map, range_with_len, is_lt, ◌&&◌, Ordering, Less, before_first, ascends}

-- ---- model of every element

-- the fact holds of each element
abbrev pub Every : {A : Type 0} → (A → Type 0) → List A → Type 0
Every P [] = Unit {0}
Every P (x ∷ xs) = P x × Every P xs

pub Every-all : {A : Type 0} (P : A → Type 0) → ((x : A) → P x) → (xs : List A) → Every P xs
Every-all P of_all [] = tt
Every-all P of_all (x ∷ xs) = (of_all x, Every-all P of_all xs)

pub Every-append : {A : Type 0} (P : A → Type 0) (xs ys : List A) → Every P xs → Every P ys → Every P (xs ++ ys)
Every-append P [] ys of_xs of_ys = of_ys
Every-append P (x ∷ xs) ys of_xs of_ys = (of_xs.0, Every-append P xs ys of_xs.1 of_ys)

pub Every-weaker : {A : Type 0} (P Q : A → Type 0) → ((x : A) → P x → Q x) → (xs : List A) → Every P xs → Every Q xs
Every-weaker P Q weaker [] of_xs = tt
Every-weaker P Q weaker (x ∷ xs) of_xs = (weaker x of_xs.0, Every-weaker P Q weaker xs of_xs.1)

pub Every-flat_map : {B : Type 0} (P : B → Type 0) (f : ℕ → List B) → ((v : ℕ) → Every P (f v)) → (vs : List ℕ) → Every P (flat_map f vs)
Every-flat_map P f of_each [] = tt
Every-flat_map P f of_each (v ∷ vs) = Every-append P (f v) (flat_map f vs) (of_each v) (Every-flat_map P f of_each vs)

keeps : {A : Type 0} (P : A → Type 0) (b : Bool) (x : A) (xs ys : List A) → P x → Every P ys → Every P (cond b (x ∷ ys) ys)
keeps P true x xs ys of_x of_ys = (of_x, of_ys)
keeps P false x xs ys of_x of_ys = of_ys

pub Every-filter : {A : Type 0} (P : A → Type 0) (test : A → Bool) (xs : List A) → Every P xs → Every P (filter test xs)
Every-filter P test [] of_xs = tt
Every-filter P test (x ∷ xs) of_xs = keeps P (test x) x xs (filter test xs) of_xs.0 (Every-filter P test xs of_xs.1)

pub Every-map : {A B : Type 0} (P : B → Type 0) (g : A → B) (xs : List A) → Every (λ x. P (g x)) xs → Every P (map g xs)
Every-map P g [] of_xs = tt
Every-map P g (x ∷ xs) of_xs = (of_xs.0, Every-map P g xs of_xs.1)

-- ---- sorted lists

-- each element is before every later one
abbrev pub Sorted : {A : Type 0} → (A → A → Ordering) → List A → Type 0
Sorted cmp [] = Unit {0}
Sorted cmp (x ∷ xs) = Every (λ y. cmp x y ≡ Less) xs × Sorted cmp xs

pub Sorted-append : {A : Type 0} (cmp : A → A → Ordering) (P Q : A → Type 0) → ((x y : A) → P x → Q y → cmp x y ≡ Less)
    → (xs ys : List A) → Sorted cmp xs → Sorted cmp ys → Every P xs → Every Q ys → Sorted cmp (xs ++ ys)
Sorted-append cmp P Q before [] ys of_xs of_ys p q = of_ys
Sorted-append cmp P Q before (x ∷ xs) ys of_xs of_ys p q = (
  Every-append (λ y. cmp x y ≡ Less) xs ys of_xs.0 (Every-weaker Q (λ y. cmp x y ≡ Less) (λ y of_y. before x y p.0 of_y) ys q),
  Sorted-append cmp P Q before xs ys of_xs.1 of_ys p.1 q,
)

sorted_keeps : {A : Type 0} (cmp : A → A → Ordering) (b : Bool) (x : A) (ys : List A) → Every (λ y. cmp x y ≡ Less) ys → Sorted cmp ys → Sorted cmp (cond b (x ∷ ys) ys)
sorted_keeps cmp true x ys first rest = (first, rest)
sorted_keeps cmp false x ys first rest = rest

pub Sorted-filter : {A : Type 0} (cmp : A → A → Ordering) (test : A → Bool) (xs : List A) → Sorted cmp xs → Sorted cmp (filter test xs)
Sorted-filter cmp test [] of_xs = tt
Sorted-filter cmp test (x ∷ xs) of_xs =
    sorted_keeps cmp (test x) x (filter test xs) (Every-filter (λ y. cmp x y ≡ Less) test xs of_xs.0) (Sorted-filter cmp test xs of_xs.1)

pub Sorted-map : {A B : Type 0} (cmp : A → A → Ordering) (other : B → B → Ordering) (g : A → B) → ((x y : A) → cmp x y ≡ Less → other (g x) (g y) ≡ Less)
    → (xs : List A) → Sorted cmp xs → Sorted other (map g xs)
Sorted-map cmp other g keeps_order [] of_xs = tt
Sorted-map cmp other g keeps_order (x ∷ xs) of_xs = (
  Every-map (λ y. other (g x) y ≡ Less) g xs (Every-weaker (λ y. cmp x y ≡ Less) (λ y. other (g x) (g y) ≡ Less) (λ y less. keeps_order x y less) xs of_xs.0),
  Sorted-map cmp other g keeps_order xs of_xs.1,
)

-- ---- numbers that grow

-- each number is below every later one
abbrev pub Grows : List ℕ → Type 0
Grows [] = Unit {0}
Grows (v ∷ vs) = Every (λ w. v < w) vs × Grows vs

-- an element of one of the lists of numbers above v
abbrev Later : {B : Type 0} → (ℕ → B → Type 0) → ℕ → B → Type 0
Later P v y = (w : ℕ) × (v < w) × P w y

all_later : {B : Type 0} (P : ℕ → B → Type 0) (f : ℕ → List B) → ((v : ℕ) → Every (P v) (f v)) → (v : ℕ) (ws : List ℕ) → Every (λ w. v < w) ws
    → Every (Later P v) (flat_map f ws)
all_later P f of_each v [] above = tt
all_later P f of_each v (w ∷ ws) above =
    Every-append (Later P v) (f w) (flat_map f ws)
    (Every-weaker (P w) (Later P v) (λ y of_y. (w, above.0, of_y)) (f w) (of_each w)) (all_later P f of_each v ws above.1)

-- lists for numbers that grow, of which those of a lesser number are before those of a greater one
pub Sorted-flat_map : {B : Type 0} (cmp : B → B → Ordering) (P : ℕ → B → Type 0) (f : ℕ → List B) → ((v : ℕ) → Sorted cmp (f v)) → ((v : ℕ) → Every (P v) (f v))
    → ((v w : ℕ) (x y : B) → v < w → P v x → P w y → cmp x y ≡ Less) → (vs : List ℕ) → Grows vs → Sorted cmp (flat_map f vs)
Sorted-flat_map cmp P f sorted of_each before [] grows = tt
Sorted-flat_map cmp P f sorted of_each before (v ∷ vs) grows =
    Sorted-append cmp (P v) (Later P v) (λ x y of_x of_y. before v of_y.0 x y of_y.1 of_x of_y.2) (f v) (flat_map f vs)
    (sorted v) (Sorted-flat_map cmp P f sorted of_each before vs grows.1) (of_each v) (all_later P f of_each v vs grows.0)

range-above : (v a n : ℕ) → v < a → Every (λ w. v < w) (range_with_len a n)
range-above v a zero below = tt
range-above v a (suc n) below = (below, range-above v (a + 1) n (omega (arith, below)))

pub Grows-range : (a n : ℕ) → Grows (range_with_len a n)
Grows-range a zero = tt
Grows-range a (suc n) = (range-above a (a + 1) n (omega arith), Grows-range (a + 1) n)

-- ---- what is sorted ascends

first_passes : {A : Type 0} (cmp : A → A → Ordering) (x : A) (xs : List A) → Every (λ y. cmp x y ≡ Less) xs → before_first cmp x xs ≡ true
first_passes cmp x [] first = refl
first_passes cmp x (y ∷ ys) first = ap is_lt first.0

pub ascends-from_Sorted : {A : Type 0} (cmp : A → A → Ordering) (xs : List A) → Sorted cmp xs → ascends cmp xs ≡ true
ascends-from_Sorted cmp [] sorted = refl
ascends-from_Sorted cmp (x ∷ xs) sorted =
    ap (λ b. b && ascends cmp xs) (first_passes cmp x xs sorted.0) ∙ ascends-from_Sorted cmp xs sorted.1
