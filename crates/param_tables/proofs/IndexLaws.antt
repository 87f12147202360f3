-- The list of all indices over some sets: the index at each place, one more subscript at the end, and that no index stands twice.
use Rattle.param_tables.proofs.Common.{◌≡◌, ℕ, zero, suc, ◌+◌, ◌-◌, ◌*◌, ◌/◌, ◌%◌, ◌<◌, ◌≤◌, List, [], ◌∷◌, ◌++◌, length, map, get_or, refl, sym, ap, ◌∙◌, arith, inl, inr, All, flat_map, IsDistinct, slice_index_or, append-nil, get_or_append_left, get_or-append_right, length-append, map-append, length-map, get_or-map, flat_map-append, flat_map_single, flat_map-map, indices_over, IsSet, SetLists, members, AreSets, bytes_eq, cases_eq, cases_lt, false≢true, apart_from_distinct, bytes_eq-Decides}

-- ---- lists in a row

flat_map-flat_map : {A B C : Type 0} (g : B → List C) (f : A → List B) (xs : List A) → flat_map g (flat_map f xs) ≡ flat_map (λ x. flat_map g (f x)) xs
flat_map-flat_map g f [] = refl
flat_map-flat_map g f (x ∷ xs) = flat_map-append g (f x) (flat_map f xs) ∙ ap (λ ys. flat_map g (f x) ++ ys) (flat_map-flat_map g f xs)

map-flat_map : {A B C : Type 0} (g : B → C) (f : A → List B) (xs : List A) → map g (flat_map f xs) ≡ flat_map (λ x. map g (f x)) xs
map-flat_map g f [] = refl
map-flat_map g f (x ∷ xs) = map-append g (f x) (flat_map f xs) ∙ ap (λ ys. map g (f x) ++ ys) (map-flat_map g f xs)

pub map-map : {A B C : Type 0} (g : B → C) (f : A → B) (xs : List A) → map g (map f xs) ≡ map (λ x. g (f x)) xs
map-map g f [] = refl
map-map g f (x ∷ xs) = ap (λ ys. g (f x) ∷ ys) (map-map g f xs)

pub flat_map-congr : {A B : Type 0} (f g : A → List B) → ((x : A) → f x ≡ g x) → (xs : List A) → flat_map f xs ≡ flat_map g xs
flat_map-congr f g same [] = refl
flat_map-congr f g same (x ∷ xs) = ap (λ ys. ys ++ flat_map f xs) (same x) ∙ ap (λ ys. g x ++ ys) (flat_map-congr f g same xs)

-- lists of one length, joined
module _ {A B : Type 0} (f : A → List B) (n : ℕ) (long : (x : A) → length (f x) ≡ n) where
  pub length-blocks : (xs : List A) → length (flat_map f xs) ≡ length xs * n
  length-blocks [] = omega arith
  length-blocks (x ∷ xs) = length-append (f x) (flat_map f xs) ∙ ap (λ m. m + length (flat_map f xs)) (long x) ∙ ap (λ m. n + m) (length-blocks xs) ∙ omega arith

  pub get_or-blocks : (xs : List A) (r i : ℕ) (d : A) (e : B) → r < length xs → i < n → get_or (flat_map f xs) (r * n + i) e ≡ get_or (f (get_or xs r d)) i e
  get_or-blocks [] r i d e below inside = absurd (omega arith)
  get_or-blocks (x ∷ xs) zero i d e below inside = let h : i < length (f x) = omega (arith, long x) in let at : zero * n + i ≡ i = omega arith in ap (λ j. get_or (f x ++ flat_map f xs) j e) at ∙ get_or_append_left (f x) (flat_map f xs) e i h
  get_or-blocks (x ∷ xs) (suc r) i d e below inside =
      let past : n ≤ suc r * n + i = omega arith in
      let rest : suc r * n + i - n ≡ r * n + i = omega arith in
      get_or-append_right (f x) (flat_map f xs) n (suc r * n + i) e (long x) past ∙ ap (λ j. get_or (flat_map f xs) j e) rest ∙ get_or-blocks xs r i d e (omega arith) inside

-- ---- one more subscript at the end

module _ (sets : SetLists) where
  pub then_members : ℕ → List (List ℕ) → List (List (List ℕ))
  then_members k index = map (λ name. index ++ name ∷ []) (members sets k)

  pub indices_over-push : (ks : List ℕ) (k : ℕ) → indices_over sets (ks ++ k ∷ []) ≡ flat_map (then_members k) (indices_over sets ks)
  unfolding then_members
  indices_over-push [] k = flat_map_single (λ name. name ∷ []) (members sets k) ∙ sym (append-nil (map (λ name. name ∷ []) (members sets k)))
  indices_over-push (j ∷ ks) k =
      flat_map-congr
      (λ name. map (λ rest. name ∷ rest) (indices_over sets (ks ++ k ∷ [])))
      (λ name. flat_map (then_members k) (map (λ rest. name ∷ rest) (indices_over sets ks)))
      (λ name.
      ap (map (λ rest. name ∷ rest)) (indices_over-push ks k)
      ∙ map-flat_map (λ rest. name ∷ rest) (then_members k) (indices_over sets ks)
      ∙ flat_map-congr (λ index. map (λ rest. name ∷ rest) (then_members k index)) (λ index. then_members k (name ∷ index)) (λ index. map-map (λ rest. name ∷ rest) (λ last. index ++ last ∷ []) (members sets k)) (indices_over sets ks)
      ∙ sym (flat_map-map (then_members k) (λ rest. name ∷ rest) (indices_over sets ks)))
      (members sets j)
      ∙ sym (flat_map-flat_map (then_members k) (λ name. map (λ rest. name ∷ rest) (indices_over sets ks)) (members sets j))

  -- how many indices there are
  pub length-push : (ks : List ℕ) (k : ℕ) → length (indices_over sets (ks ++ k ∷ [])) ≡ length (indices_over sets ks) * length (members sets k)
  unfolding then_members
  length-push ks k = ap length (indices_over-push ks k) ∙ length-blocks (then_members k) (length (members sets k)) (λ index. length-map (members sets k) (λ name. index ++ name ∷ [])) (indices_over sets ks)

  -- the index at a place is the one at the place's quotient, with the name at its remainder
  pub get_or-push : (ks : List ℕ) (k r i : ℕ) → r < length (indices_over sets ks) → i < length (members sets k) → get_or (indices_over sets (ks ++ k ∷ [])) (r * length (members sets k) + i) [] ≡ get_or (indices_over sets ks) r [] ++ slice_index_or (members sets k) i [] ∷ []
  unfolding then_members
  get_or-push ks k r i below inside =
      ap (λ all. get_or all (r * length (members sets k) + i) []) (indices_over-push ks k)
      ∙ get_or-blocks (then_members k) (length (members sets k)) (λ index. length-map (members sets k) (λ name. index ++ name ∷ [])) (indices_over sets ks) r i [] [] below inside
      ∙ get_or-map (λ name. get_or (indices_over sets ks) r [] ++ name ∷ []) (members sets k) i [] [] inside

  pub below-push : (ks : List ℕ) (k r i : ℕ) → r < length (indices_over sets ks) → i < length (members sets k) → r * length (members sets k) + i < length (indices_over sets (ks ++ k ∷ []))
  below-push ks k r i below inside =
      let n = length (members sets k) in
      let m = length (indices_over sets ks) in
      let long : length (indices_over sets (ks ++ k ∷ [])) ≡ m * n = length-push ks k in
      let more : (r + 1) * n ≤ m * n = grind arith in
      omega arith

-- ---- no index stands twice

-- a place among m blocks of n, as a block and a place in it
pub record IsPart (m n j : ℕ) : Type 0 where
  pub block : j / n < m
  pub place : j % n < n
  pub whole : j ≡ j / n * n + j % n

pub parts : (m n j : ℕ) → j < m * n → IsPart m n j
parts m zero j below = absurd (omega arith)
parts m (suc n) j below = record { block = div-lt_of_lt-mul j m n below; place = omega arith; whole = omega arith }
  where
    div-lt_of_lt-mul : (j m n : ℕ) → j < m * suc n → j / suc n < m
    div-lt_of_lt-mul j m n below = grind arith

-- the sets have no name twice
pub record HaveApart (sets : SetLists) : Type 0 where
  pub apart : (k i j : ℕ) → IsSet k → i < length (members sets k) → j < length (members sets k) → slice_index_or (members sets k) i [] ≡ slice_index_or (members sets k) j [] → i ≡ j

module _ (sets : SetLists) (names_apart : HaveApart sets) where
  pub indices_apart : (ks : List ℕ) (i j : ℕ) → All IsSet ks → i < length (indices_over sets ks) → j < length (indices_over sets ks) → get_or (indices_over sets ks) i [] ≡ get_or (indices_over sets ks) j [] → i ≡ j
  indices_apart [] i j listed bi bj same = omega arith
  indices_apart (k ∷ ks) i j listed bi bj same =
      let names = members sets k in
      let rests = indices_over sets ks in
      let n = length rests in
      let f = λ (name : List ℕ). map (λ (rest : List (List ℕ)). name ∷ rest) rests in
      let long : (name : List ℕ) → length (f name) ≡ n = λ name. length-map rests (λ rest. name ∷ rest) in
      let all : length (indices_over sets (k ∷ ks)) ≡ length names * n = length-blocks f n long names in
      let p : IsPart (length names) n i = parts (length names) n i (omega (arith, all)) in
      let q : IsPart (length names) n j = parts (length names) n j (omega (arith, all)) in
      let at : (h : ℕ) → IsPart (length names) n h → get_or (indices_over sets (k ∷ ks)) h [] ≡ get_or names (h / n) [] ∷ get_or rests (h % n) [] =
      λ h part. ap (λ g. get_or (indices_over sets (k ∷ ks)) g []) part.whole ∙ get_or-blocks f n long names (h / n) (h % n) [] [] part.block part.place ∙ get_or-map (λ rest. get_or names (h / n) [] ∷ rest) rests (h % n) [] [] part.place in
      let both : get_or names (i / n) [] ∷ get_or rests (i % n) [] ≡ get_or names (j / n) [] ∷ get_or rests (j % n) [] = sym (at i p) ∙ same ∙ at j q in
      let blocks : i / n ≡ j / n = names_apart.apart k (i / n) (j / n) (listed 0 0 (omega arith)) p.block q.block (ap (head []) both) in
      let places : i % n ≡ j % n = indices_apart ks (i % n) (j % n) (λ h d below. listed (suc h) d (omega arith)) p.place q.place (ap tail both) in
      p.whole ∙ ap (λ a. a * n + i % n) blocks ∙ ap (λ b. j / n * n + b) places ∙ sym q.whole
    where
      head : List ℕ → List (List ℕ) → List ℕ
      head d [] = d
      head d (x ∷ xs) = x

      tail : List (List ℕ) → List (List ℕ)
      tail [] = []
      tail (x ∷ xs) = xs

-- names that keep the rules stand once each
pub names_apart_from : (sets : SetLists) → AreSets sets → HaveApart sets
names_apart_from sets are = record { apart = λ k i j is bi bj same. by (members sets k) (are.rules k is).distinct i j bi bj same }
  where
    by : (names : List (List ℕ)) → IsDistinct bytes_eq names → (i j : ℕ) → i < length names → j < length names → get_or names i [] ≡ get_or names j [] → i ≡ j
    by names distinct i j bi bj same = elim (cases_lt i j) [
      | inl less ↦ absurd (false≢true (sym (apart_from_distinct bytes_eq names i j [] distinct less bj) ∙ (bytes_eq-Decides (get_or names i []) (get_or names j [])).1 same))
      | inr more ↦ elim (cases_eq i j) [
        | inl e ↦ e
        | inr other ↦ absurd (false≢true (sym (apart_from_distinct bytes_eq names j i [] distinct (omega arith) bi) ∙ (bytes_eq-Decides (get_or names j []) (get_or names i [])).1 (sym same)))
      ]
    ]
