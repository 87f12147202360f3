-- Values go on saying what they said while names are added.
use Rattle.mathprog_data.proofs.Common.{ℕ, zero, suc, ◌≡◌, ◌≤◌, ◌<◌, ◌+◌, List, [], ◌∷◌, ◌++◌, length, drop, get_or, Option, Some, None, refl, sym, ap, subst, ◌∙◌, arith, drop_more, get_or_default, length-map, map-append, KeptValue, GivenValue, Slice, index_at, Name, AreKept, AreWithin, Grown, all_told, kept_told, name_at, names_at, places_in}
use Rattle.mathprog_data.specs.ValuesView.AreKept.{none as no_values, more as one_value}
use Rattle.mathprog_data.specs.ValuesView.AreWithin.{none as no_places, more as one_place}

pub grown-refl : (names : List Name) → Grown names names
grown-refl names = record { longer = omega arith; same = λ place below. refl }

pub grown-trans : (a b c : List Name) → Grown a b → Grown b c → Grown a c
grown-trans a b c ab bc = record {
  longer = let p = ab.longer in let q = bc.longer in omega arith;
  same = λ place below. let p = ab.longer in bc.same place (omega arith) ∙ ab.same place below;
}

-- places that lie below an end lie below a further one
within-further : (m n : ℕ) (places : List ℕ) → m ≤ n → AreWithin m places → AreWithin n places
within-further m n [] le no_places = no_places
within-further m n (p ∷ ps) le (one_place below rest) = one_place (omega arith) (within-further m n ps le rest)

pub within-pushed : (n : ℕ) (places : List ℕ) (place : ℕ) → AreWithin n places → place < n → AreWithin n (places ++ place ∷ [])
within-pushed n [] place no_places below = one_place below no_places
within-pushed n (p ∷ ps) place (one_place less rest) below = one_place less (within-pushed n ps place rest below)

names_at-grown : (old new : List Name) (places : List ℕ) → Grown old new → AreWithin (length old) places → names_at new places ≡ names_at old places
names_at-grown old new [] grown no_places = refl
names_at-grown old new (p ∷ ps) grown (one_place below rest) =
    ap (λ n. n ∷ names_at new ps) (grown.same p below) ∙ ap (λ ns. name_at old p ∷ ns) (names_at-grown old new ps grown rest)

pub kept-grown : (old new : List Name) (values : List KeptValue) → Grown old new → AreKept (length old) values → AreKept (length new) values
kept-grown old new [] grown no_values = no_values
kept-grown old new (v ∷ vs) grown (one_value within rest) =
    one_value (within-further (length old) (length new) (places_in v.index) grown.longer within) (kept-grown old new vs grown rest)

pub told-grown : (old new : List Name) (values : List KeptValue) → Grown old new → AreKept (length old) values → all_told new values ≡ all_told old values
told-grown old new [] grown no_values = refl
told-grown old new (v ∷ vs) grown (one_value within rest) =
    ap (λ index. record { index = index; value = v.value; at = v.at } ∷ all_told new vs) (names_at-grown old new (places_in v.index) grown within)
    ∙ ap (λ told. kept_told old v ∷ told) (told-grown old new vs grown rest)

pub kept-pushed : (n : ℕ) (values : List KeptValue) (value : KeptValue) → AreKept n values → AreWithin n (places_in value.index) → AreKept n (values ++ value ∷ [])
kept-pushed n [] value no_values within = one_value within no_values
kept-pushed n (v ∷ vs) value (one_value first rest) within = one_value first (kept-pushed n vs value rest within)

pub within-more : (old new : List Name) (places : List ℕ) (place : ℕ) → Grown old new → AreWithin (length old) places → place < length new → AreWithin (length new) (places ++ place ∷ [])
within-more old new places place grown within below = within-pushed (length new) places place (within-further (length old) (length new) places grown.longer within) below

pub names_at-more : (old new : List Name) (places : List ℕ) (place : ℕ) (name : Name) → Grown old new → AreWithin (length old) places → name_at new place ≡ name → names_at new (places ++ place ∷ []) ≡ names_at old places ++ name ∷ []
names_at-more old new places place name grown within is =
    map-append (name_at new) places (place ∷ [])
    ∙ ap (λ n. names_at new places ++ n ∷ []) is
    ∙ ap (λ ns. ns ++ name ∷ []) (names_at-grown old new places grown within)

pub told-more : (old new : List Name) (values : List KeptValue) (value : KeptValue) → Grown old new → AreKept (length old) values → all_told new (values ++ value ∷ []) ≡ all_told old values ++ kept_told new value ∷ []
told-more old new values value grown kept =
    map-append (kept_told new) values (value ∷ [])
    ∙ ap (λ told. told ++ kept_told new value ∷ []) (told-grown old new values grown kept)

-- one more place of a slice, which is fixed
pub fixed_next : (slice : Slice) (i : ℕ) (place : Option Name) (fixed : Name) (names : List Name) → i < length slice → place ≡ get_or slice i place → place ≡ Some fixed → index_at (drop i slice) names ≡ fixed ∷ index_at (drop (i + 1) slice) names
fixed_next slice i place fixed names below is some =
    ap (λ s. index_at s names) (drop_more slice i place below ∙ ap (λ p. p ∷ drop (i + 1) slice) (sym is ∙ some))

-- one more place of a slice, which is free
pub free_next : (slice : Slice) (i : ℕ) (place : Option Name) (k : ℕ) (name : Name) (names : List Name) → i < length slice → place ≡ get_or slice i place → place ≡ None → k < length names → name ≡ get_or names k name → index_at (drop i slice) (drop k names) ≡ name ∷ index_at (drop (i + 1) slice) (drop (k + 1) names)
free_next slice i place k name names below is free inside there =
    ap (λ s. index_at s (drop k names)) (drop_more slice i place below ∙ ap (λ p. p ∷ drop (i + 1) slice) (sym is ∙ free))
    ∙ ap (λ ns. index_at (None ∷ drop (i + 1) slice) ns) (drop_more names k name inside ∙ ap (λ n. n ∷ drop (k + 1) names) (sym there))

-- what kept values point to
kept_at : (n : ℕ) (values : List KeptValue) (i : ℕ) (d : KeptValue) → AreKept n values → i < length values → AreWithin n (places_in (get_or values i d).index)
kept_at n [] i d kept below = absurd (omega (arith, below))
kept_at n (v ∷ vs) zero d (one_value within rest) below = within
kept_at n (v ∷ vs) (suc i) d (one_value within rest) below = kept_at n vs i d rest (omega (arith, below))

within_at : (n : ℕ) (places : List ℕ) (k : ℕ) → AreWithin n places → k < length places → get_or places k 0 < n
within_at n [] k within below = absurd (omega (arith, below))
within_at n (p ∷ ps) zero (one_place less rest) below = less
within_at n (p ∷ ps) (suc k) (one_place less rest) below = within_at n ps k rest (omega (arith, below))

-- a value that is said is what the kept value says
told_at : (names : List Name) (values : List KeptValue) (i : ℕ) (k : KeptValue) (v : GivenValue) → i < length values → k ≡ get_or values i k → v ≡ get_or (all_told names values) i v → v ≡ kept_told names k
told_at names [] i k v below is told = absurd (omega (arith, below))
told_at names (w ∷ ws) zero k v below is told = told ∙ ap (kept_told names) (sym is)
told_at names (w ∷ ws) (suc i) k v below is told = told_at names ws i k v (omega (arith, below)) is told

-- as many values are said as are kept
told_below : (names : List Name) (values : List KeptValue) (told : List GivenValue) (i : ℕ) → all_told names values ≡ told → i < length told → i < length values
told_below names values told i is below =
    subst (λ n. i < n) (ap length (sym is) ∙ length-map values (kept_told names)) below

-- a name of an index is the one at its place
name_there : (names : List Name) (places : List ℕ) (s p : ℕ) (n : Name) → s < length places → p ≡ get_or places s 0 → p < length names → n ≡ get_or names p n → n ≡ get_or (names_at names places) s n
name_there names [] s p n below place inside is = absurd (omega (arith, below))
name_there names (q ∷ qs) zero p n below place inside is = is ∙ get_or_default names p n [] inside ∙ ap (name_at names) place
name_there names (q ∷ qs) (suc s) p n below place inside is = name_there names qs s p n (omega (arith, below)) place inside is

-- what a kept value says is said at its number
told_here : (names : List Name) (values : List KeptValue) (i : ℕ) (k : KeptValue) → i < length values → k ≡ get_or values i k → kept_told names k ≡ get_or (all_told names values) i (kept_told names k)
told_here names [] i k below is = absurd (omega (arith, below))
told_here names (w ∷ ws) zero k below is = ap (kept_told names) is
told_here names (w ∷ ws) (suc i) k below is = told_here names ws i k (omega (arith, below)) is

-- a subscript that a value has lies among the places of its kept value
pub subscript_inside : (names : List Name) (values : List KeptValue) (told : List GivenValue) (i : ℕ) (k : KeptValue) (s : ℕ) → all_told names values ≡ told → i < length told → k ≡ get_or values i k → ((v : GivenValue) → v ≡ get_or told i v → s < length v.index) → s < length (places_in k.index)
subscript_inside names values told i k s view below is subscript =
    let said = told_here names values i k (told_below names values told i view below) is ∙ ap (λ them. get_or them i (kept_told names k)) view in
    subst (λ n. s < n) (length-map (places_in k.index) (name_at names)) (subscript (kept_told names k) said)

-- the place of a subscript lies below the end of the names
pub place_inside : (names : List Name) (values : List KeptValue) (told : List GivenValue) (i : ℕ) (k : KeptValue) (s p : ℕ) → all_told names values ≡ told → AreKept (length names) values → i < length told → k ≡ get_or values i k → s < length (places_in k.index) → p ≡ get_or (places_in k.index) s 0 → p < length names
place_inside names values told i k s p view kept below is subscript place =
    let within = subst (λ v. AreWithin (length names) (places_in v.index)) (sym is) (kept_at (length names) values i k kept (told_below names values told i view below)) in
    subst (λ q. q < length names) (sym place) (within_at (length names) (places_in k.index) s within subscript)

-- the name at the place of a subscript is that of the value
pub name_said : (names : List Name) (values : List KeptValue) (told : List GivenValue) (i : ℕ) (k : KeptValue) (v : GivenValue) (s p : ℕ) (n : Name) → all_told names values ≡ told → i < length told → k ≡ get_or values i k → v ≡ get_or told i v → s < length (places_in k.index) → p ≡ get_or (places_in k.index) s 0 → p < length names → n ≡ get_or names p n → n ≡ get_or v.index s n
name_said names values told i k v s p n view below is value subscript place inside name =
    let said = told_at names values i k v (told_below names values told i view below) is (value ∙ ap (λ them. get_or them i v) (sym view)) in
    name_there names (places_in k.index) s p n subscript place inside name ∙ ap (λ w. get_or w.index s n) (sym said)
