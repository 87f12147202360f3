-- The data of statements, statement by statement.
use Rattle.param_tables.proofs.Common.{◌≡◌, ◌≢◌, ℕ, zero, suc, ◌+◌, ◌<◌, ◌≤◌, Bool, true, false, cond, ◌&&◌, List, [], ◌∷◌, ◌++◌, Option, None, Some, length, map, nat_eq, get_or, take, refl, sym, ap, ap₂, ◌∙◌, subst, inl, inr, arith, All, ℤ, if◌then◌else◌, pointwise, IsDistinct, cons_option, filter_map, find, flat_map, option_map, option_or, bytes_eq, cases_eq, eq-eqb, ne_eqb, eqb-false, append-nil, get_or-map, get_or-take, length-map, length-take, take_all, take_more, flat_map-append, filter_map-append, find-append, apart_from_distinct, Data, Default, Given, default_of, given_at, indices_of, is_given_at, value_at, value_of_none, SetLists, data_of, given_of, givens_of, stated_default, ParamBlock, GivenValue, IsTableFor, given_among, table_value, ParamTable}

option_or-none : {X : Type 0} (o : Option X) → option_or o None ≡ o
option_or-none None = refl
option_or-none (Some x) = refl

pub option_or-map : {X Y : Type 0} (f : X → Y) (o p : Option X) → option_map f (option_or o p) ≡ option_or (option_map f o) (option_map f p)
option_or-map f None p = refl
option_or-map f (Some x) p = refl

-- ---- one statement

nothing : Option ℤ
nothing = None

none_either_way : (b : Bool) → nothing ≡ (if b then nothing else nothing)
none_either_way true = refl
none_either_way false = refl

given_step : (q : ℕ) (v : GivenValue) (b t : Bool) (f : Option Given) (h : Option GivenValue) → option_map (λ g. g.value) f ≡ (if b then option_map (λ w. w.value) h else None) → option_map (λ g. g.value) (cond (b && t) (Some (given_of q v)) f) ≡ (if b then option_map (λ w. w.value) (cond t (Some v) h) else None)
given_step q v true true f h e = refl
given_step q v true false f h e = e
given_step q v false t f h e = e

find-given : (q p : ℕ) (index : List (List ℕ)) (values : List GivenValue) → option_map (λ g. g.value) (find (is_given_at p index) (map (given_of q) values)) ≡ (if nat_eq q p then given_among values index else None)
unfolding nothing
find-given q p index [] = none_either_way (nat_eq q p)
find-given q p index (v ∷ vs) = given_step q v (nat_eq q p) (pointwise bytes_eq v.index index) (find (is_given_at p index) (map (given_of q) vs)) (find (λ w. pointwise bytes_eq w.index index) vs) (find-given q p index vs)

default_step : (n p : ℕ) (default : Option ℤ) → option_map (λ d. d.value) (find (λ (d : Default). nat_eq d.param p) (cons_option (option_map (λ value. record { param = n; value = value }) default) [])) ≡ (if nat_eq n p then default else None)
unfolding nothing
default_step n p None = none_either_way (nat_eq n p)
default_step n p (Some v) = by (nat_eq n p)
  where
    by : (b : Bool) → option_map (λ (d : Default). d.value) (cond b (Some (record { param = n; value = v })) None) ≡ (if b then Some v else None)
    by true = refl
    by false = refl

-- ---- one more statement

module _ (sets : SetLists) (xs : List ParamBlock) (s : ParamBlock) (p : ℕ) where
  given_at-push : (index : List (List ℕ)) → given_at (data_of sets (xs ++ s ∷ [])) p index ≡ option_or (given_at (data_of sets xs) p index) (if nat_eq s.param p then given_among s.values index else None)
  given_at-push index =
      ap (λ gs. option_map (λ g. g.value) (find (is_given_at p index) gs)) (flat_map-append givens_of xs (s ∷ []) ∙ ap (λ gs. flat_map givens_of xs ++ gs) (append-nil (givens_of s)))
      ∙ ap (option_map (λ g. g.value)) (find-append (is_given_at p index) (flat_map givens_of xs) (givens_of s))
      ∙ option_or-map (λ g. g.value) (find (is_given_at p index) (flat_map givens_of xs)) (find (is_given_at p index) (givens_of s))
      ∙ ap (option_or (given_at (data_of sets xs) p index)) (find-given s.param p index s.values)

  default_of-push : default_of (data_of sets (xs ++ s ∷ [])) p ≡ option_or (default_of (data_of sets xs) p) (if nat_eq s.param p then s.default else None)
  default_of-push =
      ap (λ ds. option_map (λ d. d.value) (find (λ d. nat_eq d.param p) ds)) (filter_map-append stated_default xs (s ∷ []))
      ∙ ap (option_map (λ d. d.value)) (find-append (λ d. nat_eq d.param p) (filter_map stated_default xs) (filter_map stated_default (s ∷ [])))
      ∙ option_or-map (λ d. d.value) (find (λ d. nat_eq d.param p) (filter_map stated_default xs)) (find (λ d. nat_eq d.param p) (filter_map stated_default (s ∷ [])))
      ∙ ap (option_or (default_of (data_of sets xs) p)) (default_step s.param p s.default)

  -- the statement is on another parameter
  pub given_at-other : (s.param ≢ p) → (index : List (List ℕ)) → given_at (data_of sets (xs ++ s ∷ [])) p index ≡ given_at (data_of sets xs) p index
  given_at-other other index =
      given_at-push index
      ∙ ap (λ b. option_or (given_at (data_of sets xs) p index) (if b then given_among s.values index else None)) (ne_eqb s.param p other)
      ∙ option_or-none (given_at (data_of sets xs) p index)

  pub default_of-other : (s.param ≢ p) → default_of (data_of sets (xs ++ s ∷ [])) p ≡ default_of (data_of sets xs) p
  default_of-other other =
      default_of-push ∙ ap (λ b. option_or (default_of (data_of sets xs) p) (if b then s.default else None)) (ne_eqb s.param p other) ∙ option_or-none (default_of (data_of sets xs) p)

  -- the statement is on the parameter, and none before it is
  pub given_at-here : s.param ≡ p → ((index : List (List ℕ)) → given_at (data_of sets xs) p index ≡ None) → (index : List (List ℕ)) → given_at (data_of sets (xs ++ s ∷ [])) p index ≡ given_among s.values index
  given_at-here same no_value index =
      given_at-push index
      ∙ ap (λ o. option_or o (if nat_eq s.param p then given_among s.values index else None)) (no_value index)
      ∙ ap (λ b. if b then given_among s.values index else None) (eq-eqb s.param p same)

  pub default_of-here : s.param ≡ p → default_of (data_of sets xs) p ≡ None → default_of (data_of sets (xs ++ s ∷ [])) p ≡ s.default
  default_of-here same no_default =
      default_of-push ∙ ap (λ o. option_or o (if nat_eq s.param p then s.default else None)) no_default ∙ ap (λ b. if b then s.default else None) (eq-eqb s.param p same)

-- ---- no statement on the parameter

none_of : (sets : SetLists) (xs : List ParamBlock) (p : ℕ) → All (λ s. s.param ≡ p → ⊥) xs → ((index : List (List ℕ)) → given_at (data_of sets xs) p index ≡ None) × (default_of (data_of sets xs) p ≡ None)
none_of sets [] p others = (λ index. refl, refl)
none_of sets (x ∷ xs) p others =
    let rest = none_of sets xs p (λ j d below. others (suc j) d (omega arith)) in
    let no : nat_eq x.param p ≡ false = ne_eqb x.param p (others 0 x (omega arith)) in (
      λ index.
          ap (option_map (λ g. g.value)) (find-append (is_given_at p index) (givens_of x) (flat_map givens_of xs))
          ∙ option_or-map (λ g. g.value) (find (is_given_at p index) (givens_of x)) (find (is_given_at p index) (flat_map givens_of xs))
          ∙ ap (λ o. option_or o (given_at (data_of sets xs) p index)) (find-given x.param p index x.values ∙ ap (λ b. if b then given_among x.values index else None) no)
          ∙ rest.0 index,
      default_skipped x.param p x.default (filter_map stated_default xs) no ∙ rest.1,
    )
  where
    default_skipped : (n p : ℕ) (default : Option ℤ) (ds : List Default) → nat_eq n p ≡ false → option_map (λ (d : Default). d.value) (find (λ (d : Default). nat_eq d.param p) (cons_option (option_map (λ value. record { param = n; value = value }) default) ds)) ≡ option_map (λ (d : Default). d.value) (find (λ (d : Default). nat_eq d.param p) ds)
    default_skipped n p None ds apart = refl
    default_skipped n p (Some v) ds apart = ap (λ b. option_map (λ (d : Default). d.value) (cond b (Some (record { param = n; value = v })) (find (λ (d : Default). nat_eq d.param p) ds))) apart

-- of statements on different parameters, those before one are on others
pub none_before : (sets : SetLists) (all : List ParamBlock) (i : ℕ) (s : ParamBlock) → IsDistinct nat_eq (map (λ t. t.param) all) → i < length all → get_or all i s ≡ s → ((index : List (List ℕ)) → given_at (data_of sets (take i all)) s.param index ≡ None) × (default_of (data_of sets (take i all)) s.param ≡ None)
none_before sets all i s distinct below at = none_of sets (take i all) s.param others
  where
    others : All (λ t. t.param ≡ s.param → ⊥) (take i all)
    others j d short same =
        let before : j < i = let long = length-take i all in omega arith in
        let inside : i < length (map (λ t. t.param) all) = let long : length (map (λ t. t.param) all) ≡ length all = length-map all (λ t. t.param) in omega arith in
        let in_all : j < length all = omega arith in
        let first : get_or (map (λ t. t.param) all) j 0 ≡ (get_or (take i all) j d).param = get_or-map (λ t. t.param) all j d 0 in_all ∙ ap (λ t. t.param) (sym (get_or-take i all j d before)) in
        let second : get_or (map (λ t. t.param) all) i 0 ≡ s.param = get_or-map (λ t. t.param) all i s 0 below ∙ ap (λ t. t.param) at in
        eqb-false (get_or (map (λ t. t.param) all) j 0) (get_or (map (λ t. t.param) all) i 0) (apart_from_distinct nat_eq (map (λ t. t.param) all) j i 0 distinct before inside) (first ∙ same ∙ sym second)

-- ---- all statements

-- what the statement at a place gives, whatever stands after it
module _ (sets : SetLists) (all : List ParamBlock) (distinct : IsDistinct nat_eq (map (λ t. t.param) all)) (i : ℕ) (s : ParamBlock) (inside : i < length all) (at : get_or all i s ≡ s) (index : List (List ℕ)) where
  later_apart : (m : ℕ) → i < m → m < length all → ((get_or all m s).param ≢ s.param)
  later_apart m after below same =
      let long : length (map (λ t. t.param) all) ≡ length all = length-map all (λ t. t.param) in
      let here : get_or (map (λ t. t.param) all) i 0 ≡ s.param = get_or-map (λ t. t.param) all i s 0 inside ∙ ap (λ t. t.param) at in
      let there : get_or (map (λ t. t.param) all) m 0 ≡ (get_or all m s).param = get_or-map (λ t. t.param) all m s 0 below in
      eqb-false (get_or (map (λ t. t.param) all) i 0) (get_or (map (λ t. t.param) all) m 0) (apart_from_distinct nat_eq (map (λ t. t.param) all) i m 0 distinct after (omega arith)) (here ∙ sym same ∙ sym there)

  -- what holds once the statement stands, and stays with statements on others, holds of all
  carried : (P : List ParamBlock → Type 0) → P (take i all ++ s ∷ []) → ((xs : List ParamBlock) (t : ParamBlock) → t.param ≢ s.param → P xs → P (xs ++ t ∷ [])) → (n : ℕ) → i < n → n ≤ length all → P (take n all)
  carried P here more zero before within = absurd (omega arith)
  carried P here more (suc m) before within = elim (cases_eq i m) [
    | inl last ↦
        let taken : take (suc m) all ≡ take i all ++ s ∷ [] = (let n : suc m ≡ i + 1 = omega arith in ap (λ k. take k all) n) ∙ take_more all i s inside ∙ ap (λ t. take i all ++ t ∷ []) at in
        subst P (sym taken) here
    | inr later ↦
        let after : i < m = omega arith in
        let below : m < length all = omega arith in
        let taken : take (suc m) all ≡ take m all ++ get_or all m s ∷ [] = (let n : suc m ≡ m + 1 = omega arith in ap (λ k. take k all) n) ∙ take_more all m s below in
        subst P (sym taken) (more (take m all) (get_or all m s) (later_apart m after below) (carried P here more m after (omega arith)))
  ]

  of_all : (P : List ParamBlock → Type 0) → P (take i all ++ s ∷ []) → ((xs : List ParamBlock) (t : ParamBlock) → t.param ≢ s.param → P xs → P (xs ++ t ∷ [])) → P all
  of_all P here more = subst P (take_all (length all) all (omega arith)) (carried P here more (length all) inside (omega arith))

  pub given_of_statement : given_at (data_of sets all) s.param index ≡ given_among s.values index
  given_of_statement =
      let none = none_before sets all i s distinct inside at in
      of_all (λ xs. given_at (data_of sets xs) s.param index ≡ given_among s.values index)
      (given_at-here sets (take i all) s s.param refl none.0 index)
      (λ xs t other so_far. given_at-other sets xs t s.param other index ∙ so_far)

  pub default_of_statement : default_of (data_of sets all) s.param ≡ s.default
  default_of_statement =
      let none = none_before sets all i s distinct inside at in
      of_all (λ xs. default_of (data_of sets xs) s.param ≡ s.default)
      (default_of-here sets (take i all) s s.param refl none.1)
      (λ xs t other so_far. default_of-other sets xs t s.param other ∙ so_far)

-- ---- the value by a table

-- the value at the index of a place is that of the table there
pub value_by_table : (d : Data) (p : ℕ) (table : ParamTable) → IsTableFor d p table → (place : ℕ) → place < length (indices_of d.sets p) → value_at d p (get_or (indices_of d.sets p) place []) ≡ table_value p table place
value_by_table d p table for place below = ap₂ (λ given default. option_or given (option_or default (value_of_none p))) (for.given place below) for.default
