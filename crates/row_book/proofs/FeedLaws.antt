-- The rows of a feed: equation by equation they are those of all instances.
use Rattle.std.proofs.Common.{◌≡◌, ◌≢◌, ℕ, zero, suc, ◌+◌, ◌-◌, ◌<◌, ◌≤◌, Bool, true, false, cond, nat_eq, List, [], ◌∷◌, ◌++◌, Option, Result, drop, filter, get_or, map, length, reverse, refl, ap, ap₂, sym, ◌∙◌, subst, arith, eq-eqb, eqb-true}
use Rattle.std.specs.Prelude.{ℤ, None, Some, Ok, Err, IfOk, IfSome, OnErr, slice_index_or}
use Rattle.row_book.proofs.Common.{AllByRecursion, enumerate_from, flat_map, range_with_len, append-nil, drop-map, length-map, map-append, reverse-append, reverse-reverse, get_or-map-range_with_len, length-map-range_with_len, filter-append, Data, Row, RowName, Sense, Var, IsRowOf, Discounting, instances, instances_of, AreRegionFactors, places_of, RowContents, contents_of, Answers, AreInOrder, is_of_equation, rows_of_equation, AreRowsOf, CanBeMade, IsWithinSets, entries_in, entry_limit, terms_at, IsFeed, AreHeld, HeldRows, AreContentsOf, HasContentsWithin, ahead_after, ahead_at, all_contents, contents_at, contents_written, equation_contents, AreSortedVariables, AreTallied, Marks, found_variables, names_to, rows_before, Tally}
use Rattle.row_book.proofs.Instances.{IsInstance, all-instances}
use Rattle.row_book.proofs.Lists.{AllByRecursion-append, AllByRecursion-map, AllByRecursion-weaker, flat_map-middle}
use Rattle.row_book.proofs.PlacesOfFactors.{factors-by_places, made-by_places, rows-by_places}
use Rattle.row_book.proofs.Ranges.{range-middle}
use Rattle.row_book.proofs.TallyLaws.{instances-named}
use Rattle.row_book.proofs.VariablesInOrder.{variables-are}
use Rattle.row_book.proofs.Within.{name-within, variables-within}

-- ---- what rows say

abbrev says : RowName → Sense → List (Var × ℤ) → ℤ → RowContents
says name sense entries rhs = record { name = name; sense = sense; entries = entries; rhs = rhs }

contents-are : (places : ℕ) (d : Data) (name : RowName) (row : Row) → IsRowOf name (terms_at places d name) row → contents_of row ≡ contents_at places d name
unfolding contents_at
contents-are places d name row is =
    let said : RowContents = contents_written name (terms_at places d name) in
    ap (λ (n : RowName). says n row.sense row.entries.items row.rhs) is.named
    ∙ ap (λ (s : Sense). says name s row.entries.items row.rhs) is.sense
    ∙ ap (λ (es : List (Var × ℤ)). says name said.sense es row.rhs) is.entries
    ∙ ap (λ (z : ℤ). says name said.sense said.entries z) is.right_side

pub rows-say : (places : ℕ) (d : Data) (names : List RowName) (rows : List Row) → AreRowsOf places d names rows → map contents_of rows ≡ map (contents_at places d) names
rows-say places d [] [] are = refl
rows-say places d [] (row ∷ rows) are = absurd are
rows-say places d (name ∷ names) [] are = absurd are
rows-say places d (name ∷ names) (row ∷ rows) are =
    ap₂ (λ (first : RowContents) (rest : List RowContents). first ∷ rest) (contents-are places d name row are.0.written) (rows-say places d names rows are.1)

pub equation-says : (places : ℕ) (d : Data) (eq : ℕ) (rows : List Row) → AreRowsOf places d (instances_of d eq) rows → map contents_of rows ≡ equation_contents places d eq
unfolding equation_contents
equation-says places d eq rows are = rows-say places d (instances_of d eq) rows are

pub all-say : (places : ℕ) (d : Data) (rows : List Row) → AreRowsOf places d (instances d) rows → map contents_of rows ≡ all_contents places d
unfolding all_contents
all-say places d rows are = rows-say places d (instances d) rows are

-- ---- names

-- the name is kept
name-of : (places : ℕ) (d : Data) (name : RowName) → (contents_at places d name).name ≡ name
unfolding contents_at
name-of places d name = refl

-- the instances of a range of equations have numbers of the range
between : (d : Data) (a n : ℕ) → AllByRecursion (λ name. (a ≤ name.eq) × (name.eq < a + n)) (flat_map (instances_of d) (range_with_len a n))
between d a zero = tt
between d a (suc n) =
    AllByRecursion-append (λ name. (a ≤ name.eq) × (name.eq < a + suc n)) (instances_of d a) (flat_map (instances_of d) (range_with_len (a + 1) n))
    (AllByRecursion-weaker (λ name. name.eq ≡ a) (λ name. (a ≤ name.eq) × (name.eq < a + suc n)) (λ name is. (omega (arith, is), omega (arith, is))) (instances_of d a) (instances-named d a))
    (AllByRecursion-weaker (λ name. ((a + 1) ≤ name.eq) × (name.eq < (a + 1) + n)) (λ name. (a ≤ name.eq) × (name.eq < a + suc n)) (λ name is. (omega (arith, is.0), omega (arith, is.1)))
    (flat_map (instances_of d) (range_with_len (a + 1) n)) (between d (a + 1) n))

-- ---- one equation among all

other : (m n : ℕ) → m ≢ n → nat_eq m n ≡ false
other m n apart = by_test (nat_eq m n) refl
  where
    by_test : (b : Bool) → nat_eq m n ≡ b → b ≡ false
    by_test true same = absurd (apart (eqb-true m n same))
    by_test false same = refl

abbrev of_equation : ℕ → ℕ × RowContents → Bool
of_equation eq r = is_of_equation eq r.1

part-none : (places : ℕ) (d : Data) (eq k : ℕ) (names : List RowName) → AllByRecursion (λ name. nat_eq name.eq eq ≡ false) names → filter (of_equation eq) (enumerate_from k (map (contents_at places d) names)) ≡ []
part-none places d eq k [] none = refl
part-none places d eq k (name ∷ names) none =
    let rest : List (ℕ × RowContents) = enumerate_from (k + 1) (map (contents_at places d) names) in
    ap (λ (b : Bool). cond b ((k, contents_at places d name) ∷ filter (of_equation eq) rest) (filter (of_equation eq) rest)) (ap (λ (n : RowName). nat_eq n.eq eq) (name-of places d name) ∙ none.0)
    ∙ part-none places d eq (k + 1) names none.1

part-all : (places : ℕ) (d : Data) (eq k : ℕ) (names : List RowName) → AllByRecursion (λ name. name.eq ≡ eq) names
    → filter (of_equation eq) (enumerate_from k (map (contents_at places d) names)) ≡ enumerate_from k (map (contents_at places d) names)
part-all places d eq k [] all = refl
part-all places d eq k (name ∷ names) all =
    let rest : List (ℕ × RowContents) = enumerate_from (k + 1) (map (contents_at places d) names) in
    ap (λ (b : Bool). cond b ((k, contents_at places d name) ∷ filter (of_equation eq) rest) (filter (of_equation eq) rest)) (ap (λ (n : RowName). nat_eq n.eq eq) (name-of places d name) ∙ eq-eqb name.eq eq all.0)
    ∙ ap (λ (more : List (ℕ × RowContents)). (k, contents_at places d name) ∷ more) (part-all places d eq (k + 1) names all.1)

enumerate-append : {A : Type 0} (k : ℕ) (xs ys : List A) → enumerate_from k (xs ++ ys) ≡ enumerate_from k xs ++ enumerate_from (k + length xs) ys
enumerate-append k [] ys = let same : k + 0 ≡ k = omega arith in ap (λ (n : ℕ). enumerate_from n ys) (sym same)
enumerate-append k (x ∷ xs) ys =
    let same : (k + 1) + length xs ≡ k + suc (length xs) = omega arith in
    ap (λ rest. (k, x) ∷ rest) (enumerate-append (k + 1) xs ys ∙ ap (λ (n : ℕ). enumerate_from (k + 1) xs ++ enumerate_from n ys) same)

-- its rows are those of its instances, after those of the equations before it
pub equation-ahead : (places : ℕ) (d : Data) (eq : ℕ) → 1 ≤ eq → eq < 65 → rows_of_equation eq (all_contents places d) ≡ enumerate_from (length (names_to d (eq - 1)) + 1) (equation_contents places d eq)
unfolding all_contents equation_contents
equation-ahead places d eq low high =
    let say : RowName → RowContents = contents_at places d in
    let earlier : List RowName = names_to d (eq - 1) in
    let own : List RowName = instances_of d eq in
    let later : List RowName = flat_map (instances_of d) (range_with_len (eq + 1) (65 - (eq + 1))) in
    let n : ℕ = 1 + length (map say earlier) in
    let split : map say (instances d) ≡ map say earlier ++ (map say own ++ map say later) =
    ap (map say) (ap (flat_map (instances_of d)) (range-middle 1 64 eq low high) ∙ flat_map-middle (instances_of d) (range_with_len 1 (eq - 1)) eq (range_with_len (eq + 1) (65 - (eq + 1))))
    ∙ map-append say earlier (own ++ later)
    ∙ ap (λ (rest : List RowContents). map say earlier ++ rest) (map-append say own later) in
    let before_none : AllByRecursion (λ name. nat_eq name.eq eq ≡ false) earlier =
    AllByRecursion-weaker (λ name. (1 ≤ name.eq) × (name.eq < 1 + (eq - 1))) (λ name. nat_eq name.eq eq ≡ false) (λ name is. other name.eq eq (λ same. omega (arith, is.1, same, low))) earlier (between d 1 (eq - 1)) in
    let later_none : AllByRecursion (λ name. nat_eq name.eq eq ≡ false) later =
    AllByRecursion-weaker (λ name. ((eq + 1) ≤ name.eq) × (name.eq < (eq + 1) + (65 - (eq + 1)))) (λ name. nat_eq name.eq eq ≡ false) (λ name is. other name.eq eq (λ same. omega (arith, is.0, same))) later (between d (eq + 1) (65 - (eq + 1))) in
    let place : n ≡ length earlier + 1 = (let same : length (map say earlier) ≡ length earlier = length-map earlier say in omega (arith, same)) in
    ap (λ (rows : List RowContents). filter (of_equation eq) (enumerate_from 1 rows)) split
    ∙ ap (filter (of_equation eq)) (enumerate-append 1 (map say earlier) (map say own ++ map say later) ∙ ap (λ rest. enumerate_from 1 (map say earlier) ++ rest) (enumerate-append n (map say own) (map say later)))
    ∙ filter-append (of_equation eq) (enumerate_from 1 (map say earlier)) (enumerate_from n (map say own) ++ enumerate_from (n + length (map say own)) (map say later))
    ∙ ap (λ front. front ++ filter (of_equation eq) (enumerate_from n (map say own) ++ enumerate_from (n + length (map say own)) (map say later))) (part-none places d eq 1 earlier before_none)
    ∙ filter-append (of_equation eq) (enumerate_from n (map say own)) (enumerate_from (n + length (map say own)) (map say later))
    ∙ ap₂ (λ a b. a ++ b) (part-all places d eq n own (instances-named d eq)) (part-none places d eq (n + length (map say own)) later later_none)
    ∙ append-nil (enumerate_from n (map say own))
    ∙ ap (λ (k : ℕ). enumerate_from k (map say own)) place

-- ---- in order

-- the rows of an equation before those of later ones
order-part : (places : ℕ) (d : Data) (e : ℕ) (names : List RowName) (rest : List RowContents) → AllByRecursion (λ name. name.eq ≡ e) names → AllByRecursion (λ row. e ≤ row.name.eq) rest → AreInOrder rest
    → AreInOrder (map (contents_at places d) names ++ rest) × AllByRecursion (λ row. e ≤ row.name.eq) (map (contents_at places d) names ++ rest)
order-part places d e [] rest named above order = (order, above)
order-part places d e (name ∷ names) rest named above order =
    let more = order-part places d e names rest named.1 above order in
    let same : (contents_at places d name).name.eq ≡ e = ap (λ (n : RowName). n.eq) (name-of places d name) ∙ named.0 in
    ((subst (λ (n : ℕ). AllByRecursion (λ row. n ≤ row.name.eq) (map (contents_at places d) names ++ rest)) (sym same) more.1, more.0), (omega (arith, same), more.1))

order-range : (places : ℕ) (d : Data) (a n : ℕ)
    → AreInOrder (map (contents_at places d) (flat_map (instances_of d) (range_with_len a n))) × AllByRecursion (λ row. a ≤ row.name.eq) (map (contents_at places d) (flat_map (instances_of d) (range_with_len a n)))
order-range places d a zero = (tt, tt)
order-range places d a (suc n) =
    let say : RowName → RowContents = contents_at places d in
    let later : List RowName = flat_map (instances_of d) (range_with_len (a + 1) n) in
    let more = order-range places d (a + 1) n in
    subst (λ (rows : List RowContents). AreInOrder rows × AllByRecursion (λ row. a ≤ row.name.eq) rows) (sym (map-append say (instances_of d a) later))
    (order-part places d a (instances_of d a) (map say later) (instances-named d a)
    (AllByRecursion-weaker (λ (row : RowContents). (a + 1) ≤ row.name.eq) (λ (row : RowContents). a ≤ row.name.eq) (λ row is. omega (arith, is)) (map say later) more.1) more.0)

pub in-order : (places : ℕ) (d : Data) → AreInOrder (all_contents places d)
unfolding all_contents
in-order places d = (order-range places d 1 64).0

-- ---- within the sets

within-at : (places : ℕ) (d : Data) (name : RowName) → HasContentsWithin d.sets (contents_written name (terms_at places d name)) → HasContentsWithin d.sets (contents_at places d name)
unfolding contents_at
within-at places d name is = is

pub contents-within : (places : ℕ) (d : Data) → AllByRecursion (HasContentsWithin d.sets) (all_contents places d)
unfolding all_contents
contents-within places d =
    AllByRecursion-map (HasContentsWithin d.sets) (contents_at places d) (instances d)
    (AllByRecursion-weaker (IsInstance d) (λ name. HasContentsWithin d.sets (contents_at places d name)) (λ name is. within-at places d name (name-within d name is)) (instances d) (all-instances d))

-- ---- a feed, from what was found of all rows

pub tallied-made : (places : ℕ) (d : Data) (t : Tally) → AreTallied places d 64 t → CanBeMade places d 0 (instances d)
tallied-made places d t tallied = record {
  fit = tallied.fit;
  few = (let few : entries_in places d (names_to d 64) ≤ entry_limit = subst (λ (n : ℕ). n ≤ entry_limit) tallied.entries t.few in omega (arith, few));
}

pub feed-kept : (places : ℕ) (d : Data) (factors : List Discounting) (t : Tally) → AreRegionFactors places d factors → AreTallied (places_of factors) d 64 t → (place : Option ℕ)
    → IfSome place (λ i. (i < length t.held.items) × ((z : HeldRows) → (slice_index_or t.held.items i z).eq ≡ 1)) → IsFeed d factors t.before.items t.kinds.items t.held.items place 1
feed-kept places d factors t are tallied place there = record {
  equation = (omega arith, omega arith);
  factors_are = factors-by_places places d factors are;
  made = tallied-made (places_of factors) d t tallied;
  counts = tallied.before;
  held_are = tallied.held;
  place_is = there;
  marks = subst (Marks t.kinds.items) (all-say (places_of factors) d tallied.all tallied.rows) tallied.kinds;
}

pub feed-contents : (places : ℕ) (d : Data) (factors : List Discounting) (t : Tally) (vars : List Var) → AreRegionFactors places d factors → AreTallied (places_of factors) d 64 t → AreSortedVariables (found_variables t) vars
    → AreContentsOf places d (all_contents (places_of factors) d) vars
feed-contents places d factors t vars are tallied sorted = record {
  rows = tallied.all;
  are_rows = rows-by_places places d factors tallied.all are tallied.rows;
  say = all-say (places_of factors) d tallied.all tallied.rows;
  are_variables = variables-are tallied.all (found_variables t) vars tallied.variables sorted;
}

pub feed-within : (places : ℕ) (d : Data) (contents : List RowContents) (vars : List Var) → AreContentsOf places d contents vars → AllByRecursion (IsWithinSets d.sets) vars
feed-within places d contents vars are = variables-within places d are.rows vars are.are_rows are.are_variables

pub feed-made : (places : ℕ) (d : Data) (factors : List Discounting) (t : Tally) → AreRegionFactors places d factors → AreTallied (places_of factors) d 64 t → CanBeMade places d 0 (instances d)
feed-made places d factors t are tallied = made-by_places places d factors 0 are (tallied-made (places_of factors) d t tallied)

-- how many rows stand before an equation
pub before-at : (d : Data) (before : List ℕ) (eq : ℕ) (z : ℕ) → before ≡ rows_before d 64 → 1 ≤ eq → eq < 65 → get_or before (eq - 1) z ≡ length (names_to d (eq - 1))
before-at d before eq z counts low high =
    let inside : eq - 1 < 64 = omega (arith, low, high) in
    let place : 1 + (eq - 1) ≡ eq = omega (arith, low) in
    ap (λ (ns : List ℕ). get_or ns (eq - 1) z) counts ∙ get_or-map-range_with_len (λ e. length (names_to d (e - 1))) 1 64 (eq - 1) eq z inside place

-- the rows of an equation are ahead, where none of them is made
pub ahead-starts : (places : ℕ) (d : Data) (before : List ℕ) (rows : List Row) (eq z : ℕ) → before ≡ rows_before d 64 → 1 ≤ eq → eq < 65
    → ahead_after (get_or before (eq - 1) z) false rows (equation_contents places d eq) ≡ rows_of_equation eq (all_contents places d)
ahead-starts places d before rows eq z counts low high =
    ap (λ (n : ℕ). enumerate_from (n + 1) (equation_contents places d eq)) (before-at d before eq z counts low high) ∙ sym (equation-ahead places d eq low high)

-- the rows of an equation, the last one first
pub reversed-says : (places : ℕ) (d : Data) (eq : ℕ) (made reversed : List Row) → AreRowsOf places d (instances_of d eq) made → reversed ≡ reverse made → map contents_of (reverse reversed) ≡ equation_contents places d eq
reversed-says places d eq made reversed are is =
    ap (λ (rows : List Row). map contents_of (reverse rows)) is ∙ ap (λ (rows : List Row). map contents_of rows) (reverse-reverse made) ∙ equation-says places d eq made are

-- what is left of the rows of an equation that are held
pub held-say : (places : ℕ) (d : Data) (held : List HeldRows) (place eq taken : ℕ) (z : HeldRows) → AreHeld places d held → place < length held → (get_or held place z).eq ≡ eq
    → map contents_of (drop taken (get_or held place z).rows.items) ≡ drop taken (equation_contents places d eq)
held-say places d held place eq taken z are inside same =
    let rows : List Row = (get_or held place z).rows.items in
    let of_equation : AreRowsOf places d (instances_of d eq) rows = subst (λ (n : ℕ). AreRowsOf places d (instances_of d n) rows) same (are place inside z) in
    sym (drop-map contents_of taken rows) ∙ ap (drop taken) (equation-says places d eq rows of_equation)

-- none is taken yet
pub at-start : (place : Option ℕ) (passed : ℕ) (rows : List Row) (contents : List RowContents) → ahead_at place 0 passed false rows contents ≡ ahead_after passed false rows contents
at-start None passed rows contents = refl
at-start (Some place) passed rows contents = refl

-- ---- the next row

-- what is answered of one list and leaves another is answered of a list that is the same
pub answers-same : {T : Type 0} (r : Result (Option (ℕ × Row)) T) (a b x y : List (ℕ × RowContents)) → a ≡ x → b ≡ y → IfOk r (λ found. Answers a found b) → IfOk r (λ found. Answers x found y)
answers-same r a b x y first second answers =
    subst (λ start. IfOk r (λ found. Answers start found y)) first (subst (λ rest. IfOk r (λ found. Answers a found rest)) second answers)

pub both-stay : {T E A B C : Type 0} (r : Result T E) → (A → B → C) → OnErr r A → OnErr r B → OnErr r C
both-stay (Ok value) f a b = tt
both-stay (Err fail) f a b = f a b
