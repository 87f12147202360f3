-- The factors of the regions have the places for which they were made, where there is a region; without one there is no instance.
use Rattle.row_book.proofs.Common.{◌≡◌, ℕ, zero, suc, ◌+◌, ◌<◌, ◌≤◌, List, [], ◌∷◌, ◌++◌, refl, sym, ap, ◌∙◌, subst, arith, flat_map, range_with_len, Discounting, Data, Row, RowName, EQUATION_COUNT, instances, instances_of, count_of, AreRegionFactors, places_of, AreRowsOf, CanBeMade, HasStopped, instances_in, BookFail, Width, TooManyEntries, Memory}
use Rattle.model_sets.specs.Names as sets
use Rattle.row_book.proofs.Regions.{instances-regions}

-- ---- no region

-- lists that are all empty make an empty list
all_empty : (f : ℕ → List RowName) (from n : ℕ) → ((i : ℕ) → from ≤ i → i < from + n → f i ≡ []) → flat_map f (range_with_len from n) ≡ []
all_empty f from zero empty = refl
all_empty f from (suc n) empty =
    ap (λ (here : List RowName). here ++ flat_map f (range_with_len (from + 1) n)) (empty from (omega arith) (omega arith))
    ∙ all_empty f (from + 1) n (λ i low high. empty i (omega (arith, low)) (omega (arith, high)))

no_instances : (d : Data) → count_of d sets.region ≡ 0 → instances d ≡ []
no_instances d none =
    all_empty (instances_of d) 1 EQUATION_COUNT
    (λ eq low high. instances-regions d eq (low, omega (arith, high)) ∙ ap (λ n. flat_map (instances_in d eq) (range_with_len 0 n)) none)

-- ---- what is true by the places of the factors is true by the places for which they were made

by_places : (places : ℕ) (d : Data) (factors : List Discounting) → AreRegionFactors places d factors → (P : ℕ → List RowName → Type 0) → ((other : ℕ) → P other [] → P places [])
    → P (places_of factors) (instances d) → P places (instances d)
by_places places d [] are P of_none is =
    let none : instances d ≡ [] = no_instances d (sym are.one_each) in subst (P places) (sym none) (of_none 0 (subst (P 0) none is))
by_places places d (one ∷ others) are P of_none is = subst (λ n. P n (instances d)) (are.each 0 one refl).places_are is

rows_of_none : (places other : ℕ) (d : Data) (rows : List Row) → AreRowsOf other d [] rows → AreRowsOf places d [] rows
rows_of_none places other d [] are = are
rows_of_none places other d (row ∷ rows) are = absurd are

nothing_split : (earlier later : List RowName) (name : RowName) → [] ≡ earlier ++ name ∷ later → ⊥
nothing_split [] later name split = cc
nothing_split (first ∷ earlier) later name split = cc

none_stops : (places other : ℕ) (d : Data) (before : ℕ) (fail : BookFail) → HasStopped other d before [] fail → HasStopped places d before [] fail
none_stops places other d before (Width place) (name, at, wide) = absurd (nothing_split wide.stops.earlier wide.stops.later name wide.stops.split)
none_stops places other d before TooManyEntries (name, many) = absurd (nothing_split many.stops.earlier many.stops.later name many.stops.split)
none_stops places other d before Memory stops = tt

pub rows-by_places : (places : ℕ) (d : Data) (factors : List Discounting) (rows : List Row) → AreRegionFactors places d factors → AreRowsOf (places_of factors) d (instances d) rows
    → AreRowsOf places d (instances d) rows
rows-by_places places d factors rows are is =
    by_places places d factors are (λ n names. AreRowsOf n d names rows) (λ other of_none. rows_of_none places other d rows of_none) is

pub made-by_places : (places : ℕ) (d : Data) (factors : List Discounting) (before : ℕ) → AreRegionFactors places d factors → CanBeMade (places_of factors) d before (instances d)
    → CanBeMade places d before (instances d)
made-by_places places d factors before are is =
    by_places places d factors are (λ n names. CanBeMade n d before names) (λ other made. record { fit = refl; few = made.few }) is

pub stopped-by_places : (places : ℕ) (d : Data) (factors : List Discounting) (before : ℕ) (fail : BookFail) → AreRegionFactors places d factors
    → HasStopped (places_of factors) d before (instances d) fail → HasStopped places d before (instances d) fail
stopped-by_places places d factors before fail are is =
    by_places places d factors are (λ n names. HasStopped n d before names fail) (λ other stops. none_stops places other d before fail stops) is

-- the factors are those of their own places
pub factors-by_places : (places : ℕ) (d : Data) (factors : List Discounting) → AreRegionFactors places d factors → AreRegionFactors (places_of factors) d factors
factors-by_places places d [] are = record { one_each = are.one_each; each = λ r one at. absurd (cc at) }
factors-by_places places d (one ∷ others) are = subst (λ n. AreRegionFactors n d (one ∷ others)) (sym (are.each 0 one refl).places_are) are

-- where there is a region the factors have the places for which they were made
pub places-known : (places : ℕ) (d : Data) (factors : List Discounting) (r : ℕ) → AreRegionFactors places d factors → r < count_of d sets.region → places_of factors ≡ places
places-known places d [] r are inside = absurd (omega (arith, inside, are.one_each))
places-known places d (one ∷ others) r are inside = (are.each 0 one refl).places_are
