-- The values that were given, value by value.
use Rattle.param_tables.proofs.Common.{◌≡◌, ◌≢◌, ℕ, ◌+◌, ◌<◌, ◌≤◌, Bool, true, false, cond, not, ◌||◌, List, [], ◌∷◌, ◌++◌, Option, None, Some, length, nat_eq, get_or, take, refl, sym, ap, ◌∙◌, inl, inr, arith, pointwise, pointwise_decides, find, list_any, option_map, option_or, bytes_eq, cases_eq, eq-eqb, ne_eqb, false≢true, get_or_default, take_more, find-append, bytes_eq-Decides, indices_of, SetLists, IsParam, subscript_sets, IsPlaceOf, Refusal, UnknownName, GivenBefore, is_given_among, names_members, value_refusal, GivenValue, AreGiven, given_among, subscripts_are_sets}
use Rattle.std.specs.Prelude.{ℤ, pos, is_some, if◌then◌else◌}
use Rattle.std.specs.Bool.{Decides}
use Rattle.param_tables.proofs.IndexLaws.{HaveApart, indices_apart}

-- two indices are one
pub names_same : (xs ys : List (List ℕ)) → Decides (pointwise bytes_eq xs ys) (xs ≡ ys)
names_same = pointwise_decides bytes_eq-Decides

-- ---- the value at a place

-- a value to name where there may be none
pub no_value : GivenValue
no_value = record { index = []; value = pos 0; at = record { line = 0; column = 0 } }

pub value_there : (values : List GivenValue) (i : ℕ) → i < length values → get_or values i no_value ≡ get_or values i (get_or values i no_value)
value_there values i below = get_or_default values i no_value (get_or values i no_value) below

-- ---- why a value is refused

refusal_by : Bool → Bool → GivenValue → Option Refusal
refusal_by member before value = if not member then Some (UnknownName value.at) else if before then Some (GivenBefore value.at) else None

pub unknown_refused : (sets : SetLists) (param : ℕ) (before : List GivenValue) (value : GivenValue) → names_members sets param value.index ≡ false → value_refusal sets param before value ≡ Some (UnknownName value.at)
unfolding refusal_by
unknown_refused sets param before value e = ap (λ b. refusal_by b (is_given_among before value.index) value) e

pub twice_refused : (sets : SetLists) (param : ℕ) (before : List GivenValue) (value : GivenValue) → names_members sets param value.index ≡ true → is_given_among before value.index ≡ true → value_refusal sets param before value ≡ Some (GivenBefore value.at)
unfolding refusal_by
twice_refused sets param before value e f = ap (λ b. refusal_by b (is_given_among before value.index) value) e ∙ ap (λ b. refusal_by true b value) f

pub value_free : (sets : SetLists) (param : ℕ) (before : List GivenValue) (value : GivenValue) → names_members sets param value.index ≡ true → is_given_among before value.index ≡ false → value_refusal sets param before value ≡ None
unfolding refusal_by
value_free sets param before value e f = ap (λ b. refusal_by b (is_given_among before value.index) value) e ∙ ap (λ b. refusal_by true b value) f

-- ---- what was given

is_some-find : {X Y : Type 0} (f : X → Y) (p : X → Bool) (xs : List X) → is_some (option_map f (find p xs)) ≡ list_any p xs
is_some-find f p [] = refl
is_some-find f p (x ∷ xs) = by (p x) (is_some-find f p xs)
  where
    by : (b : Bool) → is_some (option_map f (find p xs)) ≡ list_any p xs → is_some (option_map f (cond b (Some x) (find p xs))) ≡ (b || list_any p xs)
    by true e = refl
    by false e = e

-- a value was given at an index exactly where a look-up finds one
pub is_some-given : (values : List GivenValue) (index : List (List ℕ)) → is_some (given_among values index) ≡ is_given_among values index
is_some-given values index = is_some-find (λ v. v.value) (λ v. pointwise bytes_eq v.index index) values

pub none_from : {X : Type 0} (o : Option X) → is_some o ≡ false → o ≡ None
none_from None e = refl
none_from (Some x) e = absurd (false≢true (sym e))

-- one more value
given_among-push : (values : List GivenValue) (v : GivenValue) (index : List (List ℕ)) → given_among (values ++ v ∷ []) index ≡ option_or (given_among values index) (if pointwise bytes_eq v.index index then Some v.value else None)
given_among-push values v index = ap (option_map (λ w. w.value)) (find-append (λ w. pointwise bytes_eq w.index index) values (v ∷ [])) ∙ of_or (find (λ w. pointwise bytes_eq w.index index) values) (pointwise bytes_eq v.index index)
  where
    of_or : (o : Option GivenValue) (b : Bool) → option_map (λ w. w.value) (option_or o (cond b (Some v) None)) ≡ option_or (option_map (λ w. w.value) o) (if b then Some v.value else None)
    of_or None true = refl
    of_or None false = refl
    of_or (Some w) b = refl

option_or-none : {X : Type 0} (o : Option X) → option_or o None ≡ o
option_or-none None = refl
option_or-none (Some x) = refl

module _ (sets : SetLists) (apart : HaveApart sets) (param : ℕ) (listed : IsParam param) (values : List GivenValue) (i : ℕ) (v : GivenValue) (below : i < length values) (is : v ≡ get_or values i v) (place : ℕ) (at : IsPlaceOf sets (subscript_sets param) v.index place) (found : ℕ → Option ℤ) (so_far : AreGiven sets param (take i values) found) where
  -- the look-up at the value's place finds what was given at its index
  pub found_here : found place ≡ given_among (take i values) v.index
  found_here = so_far.inside place at.below ∙ ap (given_among (take i values)) at.at

  longer : (index : List (List ℕ)) → given_among (take (i + 1) values) index ≡ option_or (given_among (take i values) index) (if pointwise bytes_eq v.index index then Some v.value else None)
  longer index = ap (λ vs. given_among vs index) (take_more values i v below ∙ ap (λ w. take i values ++ w ∷ []) (sym is)) ∙ given_among-push (take i values) v index

  pub given_more : (next : ℕ → Option ℤ) → found place ≡ None → ((q : ℕ) → next q ≡ (if nat_eq q place then Some v.value else found q)) → AreGiven sets param (take (i + 1) values) next
  given_more next none step = record { inside = inside; outside = outside }
    where
      all : List (List (List ℕ))
      all = indices_of sets param

      here : (q : ℕ) → q < length (indices_of sets param) → q ≡ place → next q ≡ given_among (take (i + 1) values) (get_or (indices_of sets param) q [])
      here q inside same =
          let name : get_or (indices_of sets param) q [] ≡ v.index = ap (λ n. get_or (indices_of sets param) n []) same ∙ at.at in
          step q ∙ ap (λ b. if b then Some v.value else found q) (eq-eqb q place same)
          ∙ sym
          (ap (given_among (take (i + 1) values)) name
          ∙ longer v.index
          ∙ ap (λ o. option_or o (if pointwise bytes_eq v.index v.index then Some v.value else None)) (sym found_here ∙ none)
          ∙ ap (λ b. if b then Some v.value else None) ((names_same v.index v.index).1 refl))

      there : (q : ℕ) → q < length (indices_of sets param) → (q ≢ place) → next q ≡ given_among (take (i + 1) values) (get_or (indices_of sets param) q [])
      there q inside other =
          let apart_here : pointwise bytes_eq v.index (get_or (indices_of sets param) q []) ≡ false = false_from (pointwise bytes_eq v.index (get_or (indices_of sets param) q [])) (λ t. other (indices_apart sets apart (subscript_sets param) q place (subscripts_are_sets param listed) inside at.below (sym ((names_same v.index (get_or (indices_of sets param) q [])).0 t) ∙ sym at.at))) in
          step q ∙ ap (λ b. if b then Some v.value else found q) (ne_eqb q place other)
          ∙ so_far.inside q inside
          ∙ sym
          (longer (get_or (indices_of sets param) q [])
          ∙ ap (λ b. option_or (given_among (take i values) (get_or (indices_of sets param) q [])) (if b then Some v.value else None)) apart_here
          ∙ option_or-none (given_among (take i values) (get_or (indices_of sets param) q [])))
        where
          false_from : (b : Bool) → ((b ≡ true) → ⊥) → b ≡ false
          false_from true no_way = absurd (no_way refl)
          false_from false no_way = refl

      inside : (q : ℕ) → q < length (indices_of sets param) → next q ≡ given_among (take (i + 1) values) (get_or (indices_of sets param) q [])
      inside q below = elim (cases_eq q place) [ inl same ↦ here q below same | inr other ↦ there q below other ]

      outside : (q : ℕ) → length (indices_of sets param) ≤ q → next q ≡ None
      outside q above =
          let short = at.below in
          let other : q ≢ place = λ e. omega arith in
          step q ∙ ap (λ b. if b then Some v.value else found q) (ne_eqb q place other) ∙ so_far.outside q above
