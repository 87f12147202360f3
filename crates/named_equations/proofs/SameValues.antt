-- Two data that are the same, or the same but for numbers that one equation alone reads: with the sets of one, the values of both agree at positions in the sets. Sums, lists and choices over a set
-- are the same where what they are made of is the same at each position of the set.
use Rattle.named_equations.proofs.Common.{◌≡◌, ℕ, zero, suc, ◌+◌, ◌<◌, Bool, true, cond, not, pos, ◌+ℤ◌, List, [], ◌∷◌, map, filter, length, refl, ap, ap₂, ◌∙◌, arith, inl, inr, flat_map, list_any, range_with_len, Data, Default, Given, IsUsedParam, indices_of, indices_over, value_at, SetLists, members, subscript_sets, sum_over, value_of, Has, Has-flat_map, Has-map, Contains-from_Has}
use Rattle.named_equations.specs.Constants.{AreWithin, names_within, read_alone, value_within}
use Rattle.std.specs.Prelude.{ℤ, ◌||◌, ◌++◌, slice_index_or, unwrap_or, Contains}

infixr 3 ◌also◌
-- both of two facts, or what follows and more
pub ◌also◌ : {A B : Type 0} → A → B → A × B
a also b = (a, b)

-- ---- values

-- the data with these values and defaults over the same sets, and of the same profile
abbrev pub with_values : Data → List Given → List Default → Data
with_values d given defaults = record { sets = d.sets; given = given; defaults = defaults; second = d.second }

-- each used parameter of these has the same value at each position in its sets
pub record AgreeIn (wanted : ℕ → Bool) (d : Data) (given : List Given) (defaults : List Default) : Type 0 where
  pub values : (param : ℕ) → wanted param ≡ true → IsUsedParam d param → (is : List ℕ) → AreWithin d.sets (subscript_sets param) is
      → value_within d param is ≡ value_within (with_values d given defaults) param is

-- of all
abbrev pub AgreeInAll : Data → List Given → List Default → Type 0
AgreeInAll d given defaults = AgreeIn (λ param. true) d given defaults

-- of all that more than one equation reads
abbrev pub Agree : Data → List Given → List Default → Type 0
Agree d given defaults = AgreeIn (λ param. not (read_alone param)) d given defaults

pub agree-but : {d : Data} {given : List Given} {defaults : List Default} → AgreeInAll d given defaults → Agree d given defaults
agree-but same = record { values = λ param shared used is within. same.values param refl used is within }

has_at : {A : Type 0} (xs : List A) (i : ℕ) (e : A) → i < length xs → Has xs (slice_index_or xs i e)
has_at [] i e inside = absurd (omega (arith, inside))
has_at (x ∷ xs) zero e inside = inl refl
has_at (x ∷ xs) (suc i) e inside = inr (has_at xs i e (omega (arith, inside)))

among_indices : (sets : SetLists) (ks is : List ℕ) → AreWithin sets ks is → Has (indices_over sets ks) (names_within sets ks is)
among_indices sets [] [] within = inl refl
among_indices sets [] (i ∷ is) within = absurd within
among_indices sets (k ∷ ks) [] within = absurd within
among_indices sets (k ∷ ks) (i ∷ is) within =
    let name : List ℕ = slice_index_or (members sets k) i [] in
    let rest : List (List ℕ) = names_within sets ks is in
    Has-flat_map (λ n. map (λ more. n ∷ more) (indices_over sets ks)) (members sets k) name (name ∷ rest)
    (has_at (members sets k) i [] within.0)
    (Has-map (λ more. name ∷ more) (indices_over sets ks) rest (among_indices sets ks is within.1))

-- the names at positions in the sets of a parameter are an index of it
pub index-within : (d : Data) (param : ℕ) (is : List ℕ) → AreWithin d.sets (subscript_sets param) is → Contains (indices_of d.sets param) (names_within d.sets (subscript_sets param) is)
index-within d param is within =
    let index : List (List ℕ) = names_within d.sets (subscript_sets param) is in
    Contains-from_Has (indices_of d.sets param) index (among_indices d.sets (subscript_sets param) is within)

-- ---- over the positions of a set

-- two sums
sum-from : (a n : ℕ) (f g : ℕ → ℤ) → ((i : ℕ) → i < a + n → f i ≡ g i) → sum_over (range_with_len a n) f ≡ sum_over (range_with_len a n) g
sum-from a zero f g same = refl
sum-from a (suc n) f g same = ap₂ (λ y z. y +ℤ z) (same a (omega arith)) (sum-from (a + 1) n f g (λ i below. same i (omega (arith, below))))

pub sum-same : (n : ℕ) (f g : ℕ → ℤ) → ((i : ℕ) → i < n → f i ≡ g i) → sum_over (range_with_len 0 n) f ≡ sum_over (range_with_len 0 n) g
sum-same n f g same = sum-from 0 n f g (λ i below. same i (omega (arith, below)))

-- two lists
map-from : {A : Type 0} (a n : ℕ) (f g : ℕ → A) → ((i : ℕ) → i < a + n → f i ≡ g i) → map f (range_with_len a n) ≡ map g (range_with_len a n)
map-from a zero f g same = refl
map-from a (suc n) f g same = ap₂ (λ y ys. y ∷ ys) (same a (omega arith)) (map-from (a + 1) n f g (λ i below. same i (omega (arith, below))))

pub map-same : {A : Type 0} (n : ℕ) (f g : ℕ → A) → ((i : ℕ) → i < n → f i ≡ g i) → map f (range_with_len 0 n) ≡ map g (range_with_len 0 n)
map-same n f g same = map-from 0 n f g (λ i below. same i (omega (arith, below)))

-- two lists of lists
lists-from : {A : Type 0} (a n : ℕ) (f g : ℕ → List A) → ((i : ℕ) → i < a + n → f i ≡ g i) → flat_map f (range_with_len a n) ≡ flat_map g (range_with_len a n)
lists-from a zero f g same = refl
lists-from a (suc n) f g same = ap₂ (λ y ys. y ++ ys) (same a (omega arith)) (lists-from (a + 1) n f g (λ i below. same i (omega (arith, below))))

pub lists-same : {A : Type 0} (n : ℕ) (f g : ℕ → List A) → ((i : ℕ) → i < n → f i ≡ g i) → flat_map f (range_with_len 0 n) ≡ flat_map g (range_with_len 0 n)
lists-same n f g same = lists-from 0 n f g (λ i below. same i (omega (arith, below)))

-- two choices
filter-from : (a n : ℕ) (f g : ℕ → Bool) → ((i : ℕ) → i < a + n → f i ≡ g i) → filter f (range_with_len a n) ≡ filter g (range_with_len a n)
filter-from a zero f g same = refl
filter-from a (suc n) f g same =
    ap (λ b. cond b (a ∷ filter f (range_with_len (a + 1) n)) (filter f (range_with_len (a + 1) n))) (same a (omega arith))
    ∙ ap (λ rest. cond (g a) (a ∷ rest) rest) (filter-from (a + 1) n f g (λ i below. same i (omega (arith, below))))

pub filter-same : (n : ℕ) (f g : ℕ → Bool) → ((i : ℕ) → i < n → f i ≡ g i) → filter f (range_with_len 0 n) ≡ filter g (range_with_len 0 n)
filter-same n f g same = filter-from 0 n f g (λ i below. same i (omega (arith, below)))

-- two tests of some position
any-from : (a n : ℕ) (f g : ℕ → Bool) → ((i : ℕ) → i < a + n → f i ≡ g i) → list_any f (range_with_len a n) ≡ list_any g (range_with_len a n)
any-from a zero f g same = refl
any-from a (suc n) f g same = ap₂ (λ b c. b || c) (same a (omega arith)) (any-from (a + 1) n f g (λ i below. same i (omega (arith, below))))

pub any-same : (n : ℕ) (f g : ℕ → Bool) → ((i : ℕ) → i < n → f i ≡ g i) → list_any f (range_with_len 0 n) ≡ list_any g (range_with_len 0 n)
any-same n f g same = any-from 0 n f g (λ i below. same i (omega (arith, below)))
