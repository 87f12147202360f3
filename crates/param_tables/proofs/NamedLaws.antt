-- The places of the indices that a change names, subscript by subscript.
use Rattle.param_tables.proofs.Common.{◌≡◌, ℕ, zero, suc, ◌+◌, ◌-◌, ◌*◌, ◌^◌, ◌<◌, ◌≤◌, ◌&&◌, Bool, true, false, cond, List, [], ◌∷◌, ◌++◌, All, length, map, filter, get_or, take, refl, sym, ap, ap₂, ◌∙◌, subst, inl, inr, arith, ◌⊎◌, Contains, nat_le, flat_map, range_with_len, zip, slice_index_or, leb-true, le-leb, bytes_eq, append_assoc, append-nil, map-append, get_or-map, take_all, take_more, get_or-take, length-take, length-map, filter-append, get_or_default, get_or-range_with_len, length-range_with_len, flat_map-append, bytes_eq-Decides, AllZip-long, indices_over, SetLists, members, AreSets, IsSet}
use Rattle.std.specs.List.{list_all}
use Rattle.param_tables.proofs.AscendingLaws.{ascending_filter, contains_cases, contains_from_filter, contains_from_map, contains_later, range_more}
use Rattle.param_tables.proofs.CanonicalLaws.{flat_map-same}
use Rattle.param_tables.proofs.IndexLaws.{HaveApart, get_or-push, length-blocks, length-push, names_apart_from}
use Rattle.param_tables.proofs.PlaceLaws.{count_more, members-most, most, most-five, most-zero}
use Rattle.model_sets.specs.Years.{number_of}
use Rattle.param_tables.specs.Changes.{Named, Years, is_named}
use Rattle.param_tables.specs.ChangeTold.{CanAllBeNamed, CanBeNamed, named_by, named_over}
use Rattle.param_tables.specs.OpenTables.{names_place, places_named}
use Rattle.param_tables.specs.declared.change.Members.{Members}
use Rattle.param_tables.specs.declared.change.Members.TheVariants as by

-- ---- members of one set

-- a year is named where its number lies between the two
pub year_between : (names : List (List ℕ)) (i first last number : ℕ) → i < length names → number ≡ get_or (map number_of names) i 0 → first ≤ number → number ≤ last → is_named (Years first last) (slice_index_or names i []) ≡ true
year_between names i first last number below is low high =
    let same : number_of (get_or names i []) ≡ number = sym (is ∙ get_or-map number_of names i [] 0 below) in
    ap₂ (λ a b. a && b) (le-leb first (number_of (get_or names i [])) (omega (arith, same))) (le-leb (number_of (get_or names i [])) last (omega (arith, same)))

pub year_outside : (names : List (List ℕ)) (i first last number : ℕ) → i < length names → number ≡ get_or (map number_of names) i 0 → (number < first) ⊎ (last < number) → is_named (Years first last) (slice_index_or names i []) ≡ false
year_outside names i first last number below is out = fails (nat_le first (number_of (get_or names i []))) (nat_le (number_of (get_or names i [])) last) refl refl
  where
    same : number_of (get_or names i []) ≡ number
    same = sym (is ∙ get_or-map number_of names i [] 0 below)

    fails : (a b : Bool) → nat_le first (number_of (get_or names i [])) ≡ a → nat_le (number_of (get_or names i [])) last ≡ b → (a && b) ≡ false
    fails false b low high = refl
    fails true false low high = refl
    fails true true low high =
        let s = same in
        let l = leb-true first (number_of (get_or names i [])) low in
        let h = leb-true (number_of (get_or names i [])) last high in
        elim out [
          | inl under ↦ absurd (omega arith)
          | inr over ↦ absurd (omega arith)
        ]

all_named : (n : ℕ) → range_with_len 0 n ≡ filter (λ (i : ℕ). true) (range_with_len 0 n)
all_named n = every (range_with_len 0 n)
  where
    every : (xs : List ℕ) → xs ≡ filter (λ (i : ℕ). true) xs
    every [] = refl
    every (x ∷ xs) = ap (λ ys. x ∷ ys) (every xs)

module _ (sets : SetLists) (k : ℕ) where
  -- the positions of the members that are named
  abbrev pub positions_named : Members → List ℕ
  positions_named named = filter (λ i. is_named (named_by sets k named) (slice_index_or (members sets k) i [])) (range_with_len 0 (length (members sets k)))

  pub named_every : (named : Members) → named ≡ by.Every → range_with_len 0 (length (members sets k)) ≡ positions_named named
  named_every named is = subst (λ m. range_with_len 0 (length (members sets k)) ≡ positions_named m) (sym is) (all_named (length (members sets k)))

  pub named_one : (named : Members) (i : ℕ) → AreSets sets → IsSet k → named ≡ by.One i → CanBeNamed sets k named → i ∷ [] ≡ positions_named named
  named_one named i are listed is can = subst (λ m. i ∷ [] ≡ positions_named m) (sym is) alone
    where
      names : List (List ℕ)
      names = members sets k

      inside : i < length names
      inside = subst (CanBeNamed sets k) is can

      apart : HaveApart sets
      apart = names_apart_from sets are

      test : ℕ → Bool
      test j = bytes_eq (get_or names i []) (get_or names j [])

      alone : i ∷ [] ≡ filter test (range_with_len 0 (length names))
      alone = ascending_filter
          test
          (length names)
          (i ∷ [])
          (λ j below. absurd (omega arith))
          (λ j has. elim (contains_cases i [] j has) [
            | inl here ↦ (subst (λ n. n < length names) here inside, (bytes_eq-Decides (get_or names i []) (get_or names j [])).1 (ap (λ n. get_or names n []) here))
            | inr none ↦ let below = none.1 in absurd (omega arith)
          ])
          (λ j below passes. (0, omega arith, apart.apart k i j listed inside below ((bytes_eq-Decides (get_or names i []) (get_or names j [])).0 passes)))

-- ---- lists in a row

pub filter-flat_map : {X Y : Type 0} (p : Y → Bool) (f : X → List Y) (xs : List X) → filter p (flat_map f xs) ≡ flat_map (λ x. filter p (f x)) xs
filter-flat_map p f [] = refl
filter-flat_map p f (x ∷ xs) = filter-append p (f x) (flat_map f xs) ∙ ap (λ ys. filter p (f x) ++ ys) (filter-flat_map p f xs)

flat_map_where : {X Y : Type 0} (q : X → Bool) (g : X → List Y) (xs : List X) → flat_map (λ x. cond (q x) (g x) []) xs ≡ flat_map g (filter q xs)
flat_map_where q g [] = refl
flat_map_where q g (x ∷ xs) = step (flat_map_where q g xs) (q x)
  where
    step : flat_map (λ x. cond (q x) (g x) []) xs ≡ flat_map g (filter q xs) → (b : Bool) → cond b (g x) [] ++ flat_map (λ x. cond (q x) (g x) []) xs ≡ flat_map g (cond b (x ∷ filter q xs) (filter q xs))
    step rest true = ap (λ ys. g x ++ ys) rest
    step rest false = rest

range_joined : (a b : ℕ) → range_with_len 0 (a + b) ≡ range_with_len 0 a ++ map (λ i. a + i) (range_with_len 0 b)
range_joined a zero = let all : a + zero ≡ a = omega arith in ap (range_with_len 0) all ∙ sym (append-nil (range_with_len 0 a))
range_joined a (suc b) =
    ap (range_with_len 0) next
    ∙ range_more (a + b)
    ∙ ap (λ xs. xs ++ (a + b) ∷ []) (range_joined a b)
    ∙ append_assoc (range_with_len 0 a) (map (λ i. a + i) (range_with_len 0 b)) ((a + b) ∷ [])
    ∙ ap (λ xs. range_with_len 0 a ++ xs) (sym (map-append (λ i. a + i) (range_with_len 0 b) (b ∷ [])) ∙ ap (map (λ i. a + i)) (sym (range_more b) ∙ ap (range_with_len 0) one))
  where
    next : a + suc b ≡ a + b + 1
    next = omega arith

    one : b + 1 ≡ suc b
    one = omega arith

range_blocks : (c m : ℕ) → range_with_len 0 (m * c) ≡ flat_map (λ r. map (λ i. r * c + i) (range_with_len 0 c)) (range_with_len 0 m)
range_blocks c zero = let none : zero * c ≡ 0 = omega arith in ap (range_with_len 0) none
range_blocks c (suc m) =
    ap (range_with_len 0) next
    ∙ range_joined (m * c) c
    ∙ ap (λ xs. xs ++ map (λ i. m * c + i) (range_with_len 0 c)) (range_blocks c m)
    ∙ sym (
    ap (flat_map (λ r. map (λ i. r * c + i) (range_with_len 0 c))) (ap (range_with_len 0) (sym one) ∙ range_more m)
    ∙ flat_map-append (λ r. map (λ i. r * c + i) (range_with_len 0 c)) (range_with_len 0 m) (m ∷ [])
    ∙ ap (λ xs. flat_map (λ r. map (λ i. r * c + i) (range_with_len 0 c)) (range_with_len 0 m) ++ xs) (append-nil (map (λ i. m * c + i) (range_with_len 0 c))))
  where
    next : suc m * c ≡ m * c + c
    next = omega arith

    one : m + 1 ≡ suc m
    one = omega arith

-- ---- one more subscript at the end

along : List Named → List (List ℕ) → Bool
along named index = list_all (λ (n, name). is_named n name) (zip named index)

along-push : (named : List Named) (index : List (List ℕ)) (n : Named) (name : List ℕ) → length named ≡ length index → along (named ++ n ∷ []) (index ++ name ∷ []) ≡ (along named index && is_named n name)
unfolding along
along-push [] [] n name long = one (is_named n name)
  where
    one : (b : Bool) → (b && true) ≡ b
    one true = refl
    one false = refl
along-push [] (x ∷ index) n name long = absurd (omega arith)
along-push (m ∷ named) [] n name long = absurd (omega arith)
along-push (m ∷ named) (x ∷ index) n name long = ap (λ b. is_named m x && b) (along-push named index n name (omega arith)) ∙ and_assoc (is_named m x) (along named index) (is_named n name)
  where
    and_assoc : (a b c : Bool) → (a && (b && c)) ≡ ((a && b) && c)
    and_assoc true b c = refl
    and_assoc false b c = refl

contains_either : {Y : Type 0} (xs ys : List Y) (y : Y) → Contains (xs ++ ys) y → Contains xs y ⊎ Contains ys y
contains_either [] ys y has = inr has
contains_either (x ∷ xs) ys y has = elim (contains_cases x (xs ++ ys) y has) [
  | inl here ↦ inl (zero, omega arith, here)
  | inr others ↦ elim (contains_either xs ys y others) [
    | inl first ↦ inl (contains_later x xs y first)
    | inr second ↦ inr second
  ]
]

contains_from_flat_map : {X Y : Type 0} (f : X → List Y) (xs : List X) (y : Y) → Contains (flat_map f xs) y → (x : X) × Contains xs x × Contains (f x) y
contains_from_flat_map f [] y has = let below = has.1 in absurd (omega arith)
contains_from_flat_map f (x ∷ xs) y has = elim (contains_either (f x) (flat_map f xs) y has) [
  | inl first ↦ (x, (zero, omega arith, refl), first)
  | inr others ↦ let there = contains_from_flat_map f xs y others in (there.0, contains_later x xs there.0 there.1, there.2)
]

-- an index has a name for each subscript
index_long : (sets : SetLists) (ks : List ℕ) (index : List (List ℕ)) → Contains (indices_over sets ks) index → length index ≡ length ks
index_long sets [] index has = elim (contains_cases [] [] index has) [
  | inl here ↦ ap length (sym here)
  | inr none ↦ let below = none.1 in absurd (omega arith)
]
index_long sets (k ∷ ks) index has =
    let found = contains_from_flat_map (λ (name : List ℕ). map (λ rest. name ∷ rest) (indices_over sets ks)) (members sets k) index has in
    let rest = contains_from_map (λ rest. found.0 ∷ rest) (indices_over sets ks) index found.2 in
    ap length (sym rest.2) ∙ ap suc (index_long sets ks rest.0 rest.1)

pub map-filter : {X Y : Type 0} (f : X → Y) (p : Y → Bool) (xs : List X) → filter p (map f xs) ≡ map f (filter (λ x. p (f x)) xs)
map-filter f p [] = refl
map-filter f p (x ∷ xs) = step (map-filter f p xs) (p (f x))
  where
    step : filter p (map f xs) ≡ map f (filter (λ x. p (f x)) xs) → (b : Bool) → cond b (f x ∷ filter p (map f xs)) (filter p (map f xs)) ≡ map f (cond b (x ∷ filter (λ x. p (f x)) xs) (filter (λ x. p (f x)) xs))
    step rest true = ap (λ ys. f x ∷ ys) rest
    step rest false = rest

pub filter-same : {X : Type 0} (p q : X → Bool) (xs : List X) → ((x : X) → Contains xs x → p x ≡ q x) → filter p xs ≡ filter q xs
filter-same p q [] same = refl
filter-same p q (x ∷ xs) same =
    ap (λ b. cond b (x ∷ filter p xs) (filter p xs)) (same x (zero, omega arith, refl))
    ∙ ap (λ ys. cond (q x) (x ∷ ys) ys) (filter-same p q xs (λ y has. same y (contains_later x xs y has)))

filter_both : {X : Type 0} (a : Bool) (q : X → Bool) (xs : List X) → filter (λ x. a && q x) xs ≡ cond a (filter q xs) []
filter_both true q xs = refl
filter_both false q xs = none xs
  where
    none : {X : Type 0} (xs : List X) → filter (λ (x : X). false) xs ≡ []
    none [] = refl
    none (x ∷ xs) = none xs

in_range : (n i : ℕ) → Contains (range_with_len 0 n) i → i < n
in_range n i has =
    let k = has.0 in
    let below : k < n = omega (arith, has.1, length-range_with_len 0 n) in
    let at : 0 + k ≡ i = sym (get_or-range_with_len 0 n k i below) ∙ has.2 in
    omega (arith, at)

module _ (sets : SetLists) (ks : List ℕ) (named : List Named) (k : ℕ) (n : Named) (long : length named ≡ length ks) where
  -- how many members the last subscript has, and the places of the longer indices at one place
  count : ℕ
  count = length (members sets k)

  abbrev pub last_named : ℕ → Bool
  last_named i = is_named n (slice_index_or (members sets k) i [])

  abbrev pub longer : ℕ → List ℕ
  longer place = map (λ i. place * length (members sets k) + i) (filter last_named (range_with_len 0 (length (members sets k))))

  names_longer : (r i : ℕ) → r < length (indices_over sets ks) → i < length (members sets k) → names_place sets (ks ++ k ∷ []) (named ++ n ∷ []) (r * length (members sets k) + i) ≡ (names_place sets ks named r && last_named i)
  unfolding along
  names_longer r i below inside =
      let index = get_or (indices_over sets ks) r [] in
      let same : length named ≡ length index = long ∙ sym (index_long sets ks index (r, below, get_or_default (indices_over sets ks) r index [] below)) in
      ap (along (named ++ n ∷ [])) (get_or-push sets ks k r i below inside)
      ∙ along-push named index n (slice_index_or (members sets k) i []) same

  of_block : (r : ℕ) → r < length (indices_over sets ks) → filter (names_place sets (ks ++ k ∷ []) (named ++ n ∷ [])) (map (λ i. r * length (members sets k) + i) (range_with_len 0 (length (members sets k)))) ≡ cond (names_place sets ks named r) (longer r) []
  of_block r below =
      map-filter (λ i. r * length (members sets k) + i) (names_place sets (ks ++ k ∷ []) (named ++ n ∷ [])) (range_with_len 0 (length (members sets k)))
      ∙ ap (map (λ i. r * length (members sets k) + i)) (
      filter-same (λ i. names_place sets (ks ++ k ∷ []) (named ++ n ∷ []) (r * length (members sets k) + i)) (λ i. names_place sets ks named r && last_named i) (range_with_len 0 (length (members sets k))) (λ i has. names_longer r i below (in_range (length (members sets k)) i has))
      ∙ filter_both (names_place sets ks named r) last_named (range_with_len 0 (length (members sets k))))
      ∙ mapped (names_place sets ks named r)
    where
      mapped : (b : Bool) → map (λ i. r * length (members sets k) + i) (cond b (filter last_named (range_with_len 0 (length (members sets k)))) []) ≡ cond b (longer r) []
      mapped true = refl
      mapped false = refl

  pub places_named-push : places_named sets (ks ++ k ∷ []) (named ++ n ∷ []) ≡ flat_map longer (places_named sets ks named)
  places_named-push =
      let c = length (members sets k) in
      let m = length (indices_over sets ks) in
      let test = names_place sets (ks ++ k ∷ []) (named ++ n ∷ []) in
      let block = λ (r : ℕ). map (λ i. r * c + i) (range_with_len 0 c) in
      ap (λ size. filter test (range_with_len 0 size)) (length-push sets ks k)
      ∙ ap (filter test) (range_blocks c m)
      ∙ filter-flat_map test block (range_with_len 0 m)
      ∙ flat_map-same (λ r. filter test (block r)) (λ r. cond (names_place sets ks named r) (longer r) []) (range_with_len 0 m) (λ r has. of_block r (in_range m r has))
      ∙ flat_map_where (names_place sets ks named) longer (range_with_len 0 m)

-- ---- the subscripts so far

pub places_below : (sets : SetLists) (ks : List ℕ) (named : List Named) (place : ℕ) → Contains (places_named sets ks named) place → place < length (indices_over sets ks)
places_below sets ks named place has = in_range (length (indices_over sets ks)) place (contains_from_filter (names_place sets ks named) (range_with_len 0 (length (indices_over sets ks))) place has).0

pub position_below : (sets : SetLists) (k : ℕ) (named : Members) (i : ℕ) → Contains (positions_named sets k named) i → i < length (members sets k)
position_below sets k named i has = in_range (length (members sets k)) i (contains_from_filter (λ j. is_named (named_by sets k named) (slice_index_or (members sets k) j [])) (range_with_len 0 (length (members sets k))) i has).0

pub can_be_named : (sets : SetLists) (ks : List ℕ) (named : List Members) (i : ℕ) (m : Members) → CanAllBeNamed sets ks named → i < length ks → get_or named i m ≡ m → CanBeNamed sets (get_or ks i 0) m
can_be_named sets [] named i m can below at = absurd (omega arith)
can_be_named sets (k ∷ ks) [] i m can below at = absurd can
can_be_named sets (k ∷ ks) (n ∷ named) zero m can below at = subst (CanBeNamed sets k) at can.0
can_be_named sets (k ∷ ks) (n ∷ named) (suc i) m can below at = can_be_named sets ks named i m can.1 (omega arith) at

named_over-push : (sets : SetLists) (ks : List ℕ) (named : List Members) (k : ℕ) (m : Members) → length named ≡ length ks → named_over sets (ks ++ k ∷ []) (named ++ m ∷ []) ≡ named_over sets ks named ++ named_by sets k m ∷ []
named_over-push sets [] [] k m long = refl
named_over-push sets [] (n ∷ named) k m long = absurd (omega arith)
named_over-push sets (j ∷ ks) [] k m long = absurd (omega arith)
named_over-push sets (j ∷ ks) (n ∷ named) k m long = ap (λ ns. named_by sets j n ∷ ns) (named_over-push sets ks named k m (omega arith))

length-named_over : (sets : SetLists) (ks : List ℕ) (named : List Members) → length named ≡ length ks → length (named_over sets ks named) ≡ length ks
length-named_over sets [] [] long = refl
length-named_over sets [] (n ∷ named) long = absurd (omega arith)
length-named_over sets (j ∷ ks) [] long = absurd (omega arith)
length-named_over sets (j ∷ ks) (n ∷ named) long = ap suc (length-named_over sets ks named (omega arith))

-- the places of the indices with the i-th subscript
pub places_more : (sets : SetLists) (ks : List ℕ) (named : List Members) (i : ℕ) (m : Members) (places positions : List ℕ) → CanAllBeNamed sets ks named → i < length ks → get_or named i m ≡ m
    → places ≡ places_named sets (take i ks) (named_over sets (take i ks) (take i named)) → positions ≡ positions_named sets (get_or ks i 0) m
    → flat_map (λ place. map (λ position. place * length (members sets (get_or ks i 0)) + position) positions) places ≡ places_named sets (take (i + 1) ks) (named_over sets (take (i + 1) ks) (take (i + 1) named))
places_more sets ks named i m places positions can below at are those =
    let k = get_or ks i 0 in
    let all : length named ≡ length ks = AllZip-long (CanBeNamed sets) ks named can in
    let front = take i ks in
    let fronts = take i named in
    let long : length fronts ≡ length front = simp (length-take, all) in
    let last : take (i + 1) named ≡ fronts ++ m ∷ [] = take_more named i m (omega (arith, all)) ∙ ap (λ n. fronts ++ n ∷ []) at in
    let next : take (i + 1) ks ≡ front ++ k ∷ [] = take_more ks i 0 below in
    ap₂ (λ ps is. flat_map (λ place. map (λ position. place * length (members sets k) + position) is) ps) are those
    ∙ sym (places_named-push sets front (named_over sets front fronts) k (named_by sets k m) (length-named_over sets front fronts long))
    ∙ ap (places_named sets (front ++ k ∷ [])) (sym (named_over-push sets front fronts k m long))
    ∙ ap₂ (λ js ns. places_named sets js (named_over sets js ns)) (sym next) (sym last)

-- how many indices there are over so many sets
indices_most : (sets : SetLists) (ks : List ℕ) → AreSets sets → All IsSet ks → length (indices_over sets ks) ≤ most (length ks)
indices_most sets [] are listed = omega (arith, most-zero)
indices_most sets (k ∷ ks) are listed =
    let rests = indices_over sets ks in
    let all : length (indices_over sets (k ∷ ks)) ≡ length (members sets k) * length rests = length-blocks (λ (name : List ℕ). map (λ (rest : List (List ℕ)). name ∷ rest) rests) (length rests) (λ name. length-map rests (λ rest. name ∷ rest)) (members sets k) in
    let more : length rests * length (members sets k) ≤ most (length ks + 1) = count_more (length rests) (length (members sets k)) (length ks) (indices_most sets ks are (λ i d below. listed (suc i) d (omega arith))) (members-most sets k are (listed 0 0 (omega arith))) in
    let one : length ks + 1 ≡ suc (length ks) = omega arith in
    let P : ℕ → Type 0 = λ n. length rests * length (members sets k) ≤ most n in
    let last : length rests * length (members sets k) ≤ most (suc (length ks)) = subst P one more in
    omega arith

-- so the places of the subscripts so far are small
pub places_small : (sets : SetLists) (ks : List ℕ) (named : List Named) (i place : ℕ) → AreSets sets → All IsSet ks → length ks ≤ 5 → i < length ks → Contains (places_named sets (take i ks) named) place → place < 10 ^ 15
places_small sets ks named i place are listed short below has =
    let front : All IsSet (take i ks) = λ k d inside. subst IsSet (sym (get_or-take i ks k d (omega (arith, length-take i ks)))) (listed k d (omega (arith, length-take i ks))) in
    let first : length (indices_over sets (take i ks)) ≤ most (length (take i ks)) = indices_most sets (take i ks) are front in
    let few : most (length (take i ks)) ≤ 10 ^ 15 = most-five (length (take i ks)) (omega (arith, length-take i ks)) in
    let inside : place < length (indices_over sets (take i ks)) = places_below sets (take i ks) named place has in
    omega arith

-- no index is named where no member is of one subscript
none_from : (sets : SetLists) (ks : List ℕ) (named : List Members) (j : ℕ) (m : Members) → CanAllBeNamed sets ks named → j < length ks → get_or named j m ≡ m → positions_named sets (get_or ks j 0) m ≡ []
    → (n : ℕ) → j + 1 + n ≤ length ks → places_named sets (take (j + 1 + n) ks) (named_over sets (take (j + 1 + n) ks) (take (j + 1 + n) named)) ≡ []
none_from sets ks named j m can below at none zero most =
    let c = length (members sets (get_or ks j 0)) in
    let ps = places_named sets (take j ks) (named_over sets (take j ks) (take j named)) in
    let last : j + 1 + zero ≡ j + 1 = omega arith in
    ap (λ i. places_named sets (take i ks) (named_over sets (take i ks) (take i named))) last
    ∙ sym (places_more sets ks named j m ps (positions_named sets (get_or ks j 0) m) can below at refl refl)
    ∙ ap (λ (is : List ℕ). flat_map (λ place. map (λ position. place * c + position) is) ps) none
    ∙ of_none ps
  where
    of_none : (ps : List ℕ) → flat_map (λ (place : ℕ). map (λ (position : ℕ). place * length (members sets (get_or ks j 0)) + position) []) ps ≡ []
    of_none [] = refl
    of_none (p ∷ ps) = of_none ps
none_from sets ks named j m can below at none (suc n) most =
    let i = j + 1 + n in
    let inside : i < length ks = omega arith in
    let all : length named ≡ length ks = AllZip-long (CanBeNamed sets) ks named can in
    let other = get_or named i by.Every in
    let ps = places_named sets (take i ks) (named_over sets (take i ks) (take i named)) in
    let c = length (members sets (get_or ks i 0)) in
    let next : j + 1 + suc n ≡ i + 1 = omega arith in
    ap (λ k. places_named sets (take k ks) (named_over sets (take k ks) (take k named))) next
    ∙ sym (places_more sets ks named i other ps (positions_named sets (get_or ks i 0) other) can inside (get_or_default named i other by.Every (omega (arith, all))) refl refl)
    ∙ ap (flat_map (λ place. map (λ position. place * c + position) (positions_named sets (get_or ks i 0) other))) (none_from sets ks named j m can below at none n (omega arith))

pub none_named : (sets : SetLists) (ks : List ℕ) (named : List Members) (j : ℕ) (m : Members) → CanAllBeNamed sets ks named → j < length ks → get_or named j m ≡ m → positions_named sets (get_or ks j 0) m ≡ [] → places_named sets ks (named_over sets ks named) ≡ []
none_named sets ks named j m can below at none =
    let n = length ks - (j + 1) in
    let whole : length ks ≡ j + 1 + n = omega arith in
    let long : length named ≡ length ks = AllZip-long (CanBeNamed sets) ks named can in
    ap₂ (λ ls ns. places_named sets ls (named_over sets ls ns)) (sym (take_all (j + 1 + n) ks (omega (arith, whole)))) (sym (take_all (j + 1 + n) named (omega (arith, whole, long))))
    ∙ none_from sets ks named j m can below at none n (omega (arith, whole))
