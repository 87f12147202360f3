-- The values of parameters at the positions of members: which of them are at least 0, and that a life is at least a year.
use Rattle.row_book.proofs.Common.{◌≡◌, ℕ, suc, zero, ◌<◌, ◌≤◌, ◌*◌, ◌/◌, ◌^◌, ℤ, pos, Bool, true, false, inl, inr, List, [], ◌∷◌, ◌++◌, length, map, Option, Some, None, refl, ap, sym, ◌∙◌, subst, arith, ltb-true, flat_map, ◌≤ℤ◌, IsSomeAnd, ⊤, slice_index_or, unsigned_abs, unwrap_or, ints, mul-div_cancel, Data, IsUsedParam, indices_over, value_at, SetLists, members, OPERATIONAL_LIFE, region_name, technology_name, value_of, life_of, Contains-from_Has, Has, AreComplete, IsValueIn}
use Rattle.model_sets.specs.Names as sets
use Rattle.model_sets.specs.Params.{range_of, subscript_sets}
use Rattle.param_tables.specs.Ranges.{IsInRange, billion}
use Rattle.model_sets.specs.declared.params.Range.{Range}
use Rattle.model_sets.specs.declared.params.Range.TheVariants.{Any, AtLeastZero, AboveZero, ZeroToOne, OneOrTwo, Lifetime, ZeroOnly, MinusOneOrAtLeastZero}
use Rattle.row_book.proofs.Elements.{Has-map}
use Rattle.row_book.proofs.Subscripts.{In}

-- ---- indices

has_left : {A : Type 0} (xs ys : List A) (x : A) → Has xs x → Has (xs ++ ys) x
has_left [] ys x has = absurd has
has_left (z ∷ xs) ys x (inl e) = inl e
has_left (z ∷ xs) ys x (inr has) = inr (has_left xs ys x has)

has_right : {A : Type 0} (xs ys : List A) (x : A) → Has ys x → Has (xs ++ ys) x
has_right [] ys x has = has
has_right (z ∷ xs) ys x has = inr (has_right xs ys x has)

-- an element of one of the parts
pub Has-part : {A B : Type 0} (f : A → List B) (xs : List A) (x : A) (y : B) → Has xs x → Has (f x) y → Has (flat_map f xs) y
Has-part f [] x y has here = absurd has
Has-part f (z ∷ xs) x y (inl e) here = has_left (f z) (flat_map f xs) y (subst (λ w. Has (f w) y) (sym e) here)
Has-part f (z ∷ xs) x y (inr has) here = has_right (f z) (flat_map f xs) y (Has-part f xs x y has here)

-- the names are those of members, one of each of these sets
abbrev pub AreNames : SetLists → List ℕ → List (List ℕ) → Type 0
AreNames sets [] [] = ⊤
AreNames sets [] (name ∷ names) = ⊥
AreNames sets (k ∷ ks) [] = ⊥
AreNames sets (k ∷ ks) (name ∷ names) = Has (members sets k) name × AreNames sets ks names

has-names : (sets : SetLists) (ks : List ℕ) (names : List (List ℕ)) → AreNames sets ks names → Has (indices_over sets ks) names
has-names sets [] [] are = inl refl
has-names sets [] (name ∷ names) are = absurd are
has-names sets (k ∷ ks) [] are = absurd are
has-names sets (k ∷ ks) (name ∷ names) are =
    Has-part (λ first. map (λ rest. first ∷ rest) (indices_over sets ks)) (members sets k) name (name ∷ names) are.0
    (Has-map (λ rest. name ∷ rest) (indices_over sets ks) names (has-names sets ks names are.1))

has_at : (xs : List (List ℕ)) (i : ℕ) → i < length xs → Has xs (slice_index_or xs i [])
has_at [] i inside = absurd (omega (arith, inside))
has_at (x ∷ xs) zero inside = inl refl
has_at (x ∷ xs) (suc i) inside = inr (has_at xs i (omega (arith, inside)))

-- the member at the position of one
pub Has-member : (d : Data) (k i : ℕ) → In d k i → Has (members d.sets k) (slice_index_or (members d.sets k) i [])
Has-member d k i inside = has_at (members d.sets k) i (ltb-true i (length (members d.sets k)) inside)

-- ---- values

given : (value : Option ℤ) (P : ℤ → Type 0) → IsSomeAnd value P → P (unwrap_or value (pos 0))
given None P h = absurd h
given (Some z) P h = h

-- the value lies in the range of its parameter
pub value-in_range : (d : Data) (p : ℕ) (names : List (List ℕ)) → AreComplete d → IsUsedParam d p → AreNames d.sets (subscript_sets p) names → IsInRange (range_of p) (value_of d p names)
value-in_range d p names complete used are =
    (given (value_at d p names) (IsValueIn (range_of p))
    (complete.values p used names (Contains-from_Has (indices_over d.sets (subscript_sets p)) names (has-names d.sets (subscript_sets p) names are)))).within

-- the values of this range are at least 0
abbrev pub is_from_zero : Range → Bool
is_from_zero Any = false
is_from_zero AtLeastZero = true
is_from_zero AboveZero = true
is_from_zero ZeroToOne = true
is_from_zero OneOrTwo = true
is_from_zero Lifetime = true
is_from_zero ZeroOnly = true
is_from_zero MinusOneOrAtLeastZero = false

from_zero : (range : Range) (v : ℤ) → is_from_zero range ≡ true → IsInRange range v → pos 0 ≤ℤ v
from_zero Any v test within = absurd (cc test)
from_zero AtLeastZero v test within = within
from_zero AboveZero v test within = omega (arith, ints, within)
from_zero ZeroToOne v test within = within.0
from_zero OneOrTwo v test (inl one) = omega (arith, ints, one)
from_zero OneOrTwo v test (inr two) = omega (arith, ints, two)
from_zero Lifetime v test (n, is, least, most) = subst (λ z. pos 0 ≤ℤ z) (sym is) (omega (arith, ints))
from_zero ZeroOnly v test within = omega (arith, ints, within)
from_zero MinusOneOrAtLeastZero v test within = absurd (cc test)

pub value-at_least : (d : Data) (p : ℕ) (names : List (List ℕ)) → AreComplete d → IsUsedParam d p → is_from_zero (range_of p) ≡ true → AreNames d.sets (subscript_sets p) names → pos 0 ≤ℤ value_of d p names
value-at_least d p names complete used from are = from_zero (range_of p) (value_of d p names) from (value-in_range d p names complete used are)

-- ---- lives

years_of : (v : ℤ) → IsInRange Lifetime v → 1 ≤ unsigned_abs v / 10 ^ 9
years_of v (n, is, least, most) =
    let years : n * billion / 10 ^ 9 ≡ n = mul-div_cancel n (omega arith) in
    let same : unsigned_abs v / 10 ^ 9 ≡ n = ap (λ z. unsigned_abs z / 10 ^ 9) is ∙ years in
    omega (arith, same, least)

pub life-at_least : (d : Data) (r t : ℕ) → AreComplete d → In d sets.region r → In d sets.technology t → 1 ≤ life_of d r t
life-at_least d r t complete in_r in_t =
    years_of (value_of d OPERATIONAL_LIFE (region_name d r ∷ technology_name d t ∷ []))
    (value-in_range d OPERATIONAL_LIFE (region_name d r ∷ technology_name d t ∷ []) complete ((omega arith, omega arith), refl) (Has-member d sets.region r in_r, (Has-member d sets.technology t in_t, tt)))
