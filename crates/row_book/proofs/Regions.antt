-- The indices of an equation are those of its regions one after another, and in a region those of one list of inner subscripts with each of the outer ones.
use Rattle.std.proofs.Common.{◌≡◌, ℕ, ◌+◌, ◌<◌, ◌-◌, Bool, true, false, List, [], ◌∷◌, ◌++◌, map, filter, cond, refl, ap, sym, ◌∙◌, subst, arith}
use Rattle.row_book.proofs.Common.{AllByRecursion, flat_map, list_all, range_with_len, if◌then◌else◌, append-nil, Data, Index, RowName, IsEquation, at_r, equation_numbers, indices, instances_of, is_index, is_one_of, name_at, stands_at, subscripts_of, values_at, count_of, positions, indices-pass, AreAsked, inner_subscripts, inners_of, instance_at, instances_in, instances_with, joined, moved, outer_subscripts, outers_of, place_of, walk}
use Rattle.model_sets.specs.Names as sets
use Rattle.row_core.specs.Subscripts as place
use Rattle.row_book.specs.declared.walk.Subscript.{Subscript}
use Rattle.row_book.proofs.Lists.{AllByRecursion-filter, AllByRecursion-flat_map, AllByRecursion-from_map, AllByRecursion-middle, AllByRecursion-weaker, all-from, flat_map-alike, flat_map-flat_map, flat_map-kept, flat_map-map, flat_map-same, map-flat_map}
use Rattle.row_book.proofs.Numbers.{passes-at}
use Rattle.row_book.proofs.Ranges.{range-middle}

-- ---- walks

-- a change of an index that no position of the subscript undoes
abbrev Keeps : (Index → Index) → Subscript → Type 0
Keeps g s = (i : Index) (v : ℕ) → g (moved i s v) ≡ moved (g i) s v

-- a walk from a changed index
walk-changed : (d : Data) (subscripts : List ℕ) (g : Index → Index) (ss : List Subscript) → AllByRecursion (Keeps g) ss → (i : Index)
    → walk d subscripts ss (g i) ≡ map g (walk d subscripts ss i)
walk-changed d subscripts g [] keeps i = refl
walk-changed d subscripts g (s ∷ more) keeps i =
    flat_map-same (λ v. walk d subscripts more (moved (g i) s v)) (λ v. map g (walk d subscripts more (moved i s v)))
    (λ v. ap (walk d subscripts more) (sym (keeps.0 i v)) ∙ walk-changed d subscripts g more keeps.1 (moved i s v))
    (values_at d subscripts (place_of s))
    ∙ sym (map-flat_map g (λ v. walk d subscripts more (moved i s v)) (values_at d subscripts (place_of s)))

-- a walk through some subscripts, and from each index there through others
walk-append : (d : Data) (subscripts : List ℕ) (ss more : List Subscript) (i : Index)
    → walk d subscripts (ss ++ more) i ≡ flat_map (walk d subscripts more) (walk d subscripts ss i)
walk-append d subscripts [] more i = sym (append-nil (walk d subscripts more i))
walk-append d subscripts (s ∷ ss) more i =
    flat_map-same (λ v. walk d subscripts (ss ++ more) (moved i s v)) (λ v. flat_map (walk d subscripts more) (walk d subscripts ss (moved i s v)))
    (λ v. walk-append d subscripts ss more (moved i s v))
    (values_at d subscripts (place_of s))
    ∙ sym (flat_map-flat_map (walk d subscripts more) (λ v. walk d subscripts ss (moved i s v)) (values_at d subscripts (place_of s)))

-- all indices, region by region
indices-walk : (d : Data) (subscripts : List ℕ)
    → indices d subscripts ≡ flat_map (λ r. walk d subscripts (outer_subscripts ++ inner_subscripts) (at_r r)) (values_at d subscripts place.r)
indices-walk d subscripts = refl

-- ---- the indices in a region

-- an index with nothing but a region and outer subscripts
abbrev IsOuterIn : ℕ → Index → Type 0
IsOuterIn r outer = outer ≡ joined outer (at_r r)

outers-are : (d : Data) (eq r : ℕ) → AllByRecursion (IsOuterIn r) (outers_of d eq r)
outers-are d eq r =
    AllByRecursion-flat_map (IsOuterIn r) (λ rr. flat_map (λ l. (record (at_r r) { other = rr; slice = l }) ∷ []) (values_at d (subscripts_of eq) place.l))
    (λ rr. AllByRecursion-flat_map (IsOuterIn r) (λ l. (record (at_r r) { other = rr; slice = l }) ∷ []) (λ l. (refl, tt)) (values_at d (subscripts_of eq) place.l))
    (values_at d (subscripts_of eq) place.rr)

-- the indices in a region
abbrev pub indices_in : Data → ℕ → ℕ → List Index
indices_in d eq r = flat_map (λ outer. map (joined outer) (inners_of d eq r)) (outers_of d eq r)

inner-walk : (d : Data) (eq r : ℕ) (outer : Index) → IsOuterIn r outer → walk d (subscripts_of eq) inner_subscripts outer ≡ map (joined outer) (inners_of d eq r)
inner-walk d eq r outer is =
    ap (walk d (subscripts_of eq) inner_subscripts) is
    ∙ walk-changed d (subscripts_of eq) (joined outer) inner_subscripts
    (λ i v. refl, (λ i v. refl, (λ i v. refl, (λ i v. refl, (λ i v. refl, tt))))) (at_r r)

region-walk : (d : Data) (eq r : ℕ) → walk d (subscripts_of eq) (outer_subscripts ++ inner_subscripts) (at_r r) ≡ indices_in d eq r
region-walk d eq r =
    let inner : Index → List Index = walk d (subscripts_of eq) inner_subscripts in
    walk-append d (subscripts_of eq) outer_subscripts inner_subscripts (at_r r)
    ∙ flat_map-alike inner (λ outer. map (joined outer) (inners_of d eq r)) (outers_of d eq r)
    (AllByRecursion-weaker (IsOuterIn r) (λ outer. inner outer ≡ map (joined outer) (inners_of d eq r)) (inner-walk d eq r) (outers_of d eq r) (outers-are d eq r))

-- each equation runs over all regions
regions-of : (d : Data) (eq : ℕ) → IsEquation eq → values_at d (subscripts_of eq) place.r ≡ positions d sets.region
regions-of d eq equation =
    let have_region : list_all (λ n. is_one_of (subscripts_of n) place.r) equation_numbers ≡ true = refl in
    ap (λ has. if has then positions d sets.region else 0 ∷ [])
    (passes-at (λ n. is_one_of (subscripts_of n) place.r) 1 64 eq have_region equation.0 (omega (arith, equation.1)))

-- the indices, region by region
indices-regions : (d : Data) (eq : ℕ) → IsEquation eq → indices d (subscripts_of eq) ≡ flat_map (indices_in d eq) (positions d sets.region)
indices-regions d eq equation =
    indices-walk d (subscripts_of eq)
    ∙ flat_map-same (λ r. walk d (subscripts_of eq) (outer_subscripts ++ inner_subscripts) (at_r r)) (indices_in d eq) (region-walk d eq) (values_at d (subscripts_of eq) place.r)
    ∙ ap (flat_map (indices_in d eq)) (regions-of d eq equation)

-- ---- instances

-- those among some indices
instances-each : (d : Data) (eq : ℕ) (is : List Index) → map (name_at eq) (filter (stands_at d eq) is) ≡ flat_map (instance_at d eq) is
instances-each d eq [] = refl
instances-each d eq (i ∷ is) = by_test (stands_at d eq i) (instances-each d eq is)
  where
    by_test : (b : Bool) → map (name_at eq) (filter (stands_at d eq) is) ≡ flat_map (instance_at d eq) is
        → map (name_at eq) (cond b (i ∷ filter (stands_at d eq) is) (filter (stands_at d eq) is)) ≡ (if b then name_at eq i ∷ [] else []) ++ flat_map (instance_at d eq) is
    by_test true rest = ap (λ names. name_at eq i ∷ names) rest
    by_test false rest = rest

-- those in a region
region-instances : (d : Data) (eq r : ℕ) → flat_map (instance_at d eq) (indices_in d eq r) ≡ instances_in d eq r
region-instances d eq r =
    flat_map-flat_map (instance_at d eq) (λ outer. map (joined outer) (inners_of d eq r)) (outers_of d eq r)
    ∙ flat_map-same (λ outer. flat_map (instance_at d eq) (map (joined outer) (inners_of d eq r))) (instances_with d eq (inners_of d eq r))
    (λ outer. flat_map-map (instance_at d eq) (joined outer) (inners_of d eq r)) (outers_of d eq r)

-- all of them, region by region
pub instances-regions : (d : Data) (eq : ℕ) → IsEquation eq → instances_of d eq ≡ flat_map (instances_in d eq) (positions d sets.region)
instances-regions d eq equation =
    instances-each d eq (indices d (subscripts_of eq))
    ∙ ap (flat_map (instance_at d eq)) (indices-regions d eq equation)
    ∙ flat_map-flat_map (instance_at d eq) (indices_in d eq) (positions d sets.region)
    ∙ flat_map-same (λ r. flat_map (instance_at d eq) (indices_in d eq r)) (instances_in d eq) (region-instances d eq) (positions d sets.region)

-- ---- the inner subscripts that are asked

-- where there is no instance, none is listed
not_listed : (stands asked : Bool) (name : RowName) → (stands ≡ true → asked ≡ true) → asked ≡ false → (if stands then name ∷ [] else []) ≡ []
not_listed true asked name every none = absurd (let is : asked ≡ true = every refl in cc)
not_listed false asked name every none = refl

-- they find all instances
pub instances-asked : (d : Data) (eq r : ℕ) (cells : List Index) → AreAsked d eq r cells → (outer : Index) → instances_with d eq cells outer ≡ instances_with d eq (inners_of d eq r) outer
instances-asked d eq r cells are outer =
    ap (λ is. instances_with d eq is outer) are.are
    ∙ flat_map-kept are.asked (λ cell. instance_at d eq (joined outer cell))
    (λ cell none. not_listed (stands_at d eq (joined outer cell)) (are.asked cell) (name_at eq (joined outer cell)) (are.every outer cell) none) (inners_of d eq r)

-- the index is one of the equation
abbrev pub IsIndex : Data → ℕ → Index → Type 0
IsIndex d eq i = is_index d (subscripts_of eq) i ≡ true

region-within : (d : Data) (eq r : ℕ) → IsEquation eq → r < count_of d sets.region → AllByRecursion (IsIndex d eq) (indices_in d eq r)
region-within d eq r equation inside =
    AllByRecursion-middle (IsIndex d eq) (indices_in d eq) (range_with_len 0 (r - 0)) r (range_with_len (r + 1) ((0 + count_of d sets.region) - (r + 1)))
    (subst (AllByRecursion (IsIndex d eq))
    (indices-regions d eq equation ∙ ap (flat_map (indices_in d eq)) (range-middle 0 (count_of d sets.region) r (omega arith) (omega (arith, inside))))
    (all-from (IsIndex d eq) (indices d (subscripts_of eq)) (indices-pass d (subscripts_of eq))))

-- with each of the outer ones they are indices
pub asked-within : (d : Data) (eq r : ℕ) (cells earlier : List Index) (outer : Index) (later : List Index) → IsEquation eq → r < count_of d sets.region → AreAsked d eq r cells
    → outers_of d eq r ≡ earlier ++ outer ∷ later → AllByRecursion (λ cell. IsIndex d eq (joined outer cell)) cells
asked-within d eq r cells earlier outer later equation inside are split =
    let of_outer : AllByRecursion (λ cell. IsIndex d eq (joined outer cell)) (inners_of d eq r) =
    AllByRecursion-from_map (IsIndex d eq) (joined outer) (inners_of d eq r)
    (AllByRecursion-middle (IsIndex d eq) (λ other. map (joined other) (inners_of d eq r)) earlier outer later
    (subst (λ outers. AllByRecursion (IsIndex d eq) (flat_map (λ other. map (joined other) (inners_of d eq r)) outers)) split (region-within d eq r equation inside))) in
    subst (AllByRecursion (λ cell. IsIndex d eq (joined outer cell))) (sym are.are)
    (AllByRecursion-weaker (λ cell. IsIndex d eq (joined outer cell) × (are.asked cell ≡ true)) (λ cell. IsIndex d eq (joined outer cell)) (λ cell both. both.0) (filter are.asked (inners_of d eq r))
    (AllByRecursion-filter (λ cell. IsIndex d eq (joined outer cell)) are.asked (inners_of d eq r) of_outer))
