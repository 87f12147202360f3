-- Tables that no check refuses are complete data, those that the statements give.
use Rattle.param_tables.proofs.Common.{◌≡◌, ℕ, zero, suc, ◌-◌, ◌<◌, Bool, true, false, cond, List, [], ◌∷◌, ◌++◌, Option, None, Some, pos, length, map, nat_eq, get_or, refl, sym, ap, ap₂, ◌∙◌, subst, arith, All, ℤ, Contains, IfSome, IsSomeAnd, if◌then◌else◌, cons_option, filter_map, find, flat_map, range_with_len, option_map, option_or, get_or_default, get_or-range_with_len, length-range_with_len, find-append, Data, Default, Given, IsUsedParam, used_params, default_of, given_at, indices_of, is_given_at, unit_capacity, value_at, value_of_none, SetLists, AreSets, param_count, range_of, data_of, given_of, givens_of, has_second, stated_default, AreComplete, IsValueIn, canonical, AtIndex, fault_at, param_refusals, value_fault, ParamBlock, GivenValue, AreTablesFor, HaveShapes, GiveTheSame, AreKept, data_by, facts_of, IsWithinLimit, IsParamBlock, ParamTable, Range}
use Rattle.param_tables.proofs.CanonicalLaws.{canonical_one, value_canonical}
use Rattle.param_tables.proofs.FactLaws.{tables_for_data}
use Rattle.param_tables.proofs.ParamLaws.{if_used, refusals_if_used, used_each}
use Rattle.param_tables.proofs.RangeRules.{in_range_from}
use Rattle.param_tables.proofs.ViewLaws.{usable}

-- tables of some data have the shapes of the parameters
pub shapes_of : (d : Data) (tables : List ParamTable) → AreTablesFor d tables → HaveShapes d.sets tables
shapes_of d tables for = record { all = for.all; each = λ p used e. (for.each p used e).shape }

-- ---- the same data

-- two data with the same tables give the same
pub same_tables : (d e : Data) (tables : List ParamTable) → d.sets ≡ e.sets → d.second ≡ e.second → AreTablesFor d tables → AreTablesFor e tables → GiveTheSame d e
same_tables d e [] same use_same ford fore = absurd (omega (arith, ford.all))
same_tables d e (table ∷ tables) same use_same ford fore = record {
  sets = same;
  second = use_same;
  values = λ p used index has.
      let kept = usable d p used in
      let place = has.0 in
      let below : place < length (indices_of d.sets p) = has.1 in
      let name : get_or (indices_of d.sets p) place [] ≡ index = get_or_default (indices_of d.sets p) place [] index below ∙ has.2 in
      let there : place < length (indices_of e.sets p) = let P : SetLists → Type 0 = λ sets. place < length (indices_of sets p) in subst P same below in
      let name_there : get_or (indices_of e.sets p) place [] ≡ index = ap (λ sets. get_or (indices_of sets p) place []) (sym same) ∙ name in
      ap (given_at d p) (sym name) ∙ (ford.each p kept table).given place below ∙ sym ((fore.each p kept table).given place there) ∙ ap (given_at e p) name_there;
  defaults = λ p used. let kept = usable d p used in (ford.each p kept table).default ∙ sym (fore.each p kept table).default;
}

-- data in canonical form are complete where the data are
pub complete_canonical : (d : Data) → AreComplete d → AreComplete (canonical d)
complete_canonical d is = record {
  sets = is.sets;
  values = λ p used index has. subst (λ o. IsSomeAnd o (IsValueIn (range_of p))) (sym (value_canonical d p used index has)) (is.values p used index has);
}

-- ---- numbers

some_of : {X Y : Type 0} (P : Y → Type 0) (f : X → Y) (o p : Option X) → IfSome (option_map f o) P → IfSome (option_map f p) P → IfSome (option_map f (option_or o p)) P
some_of P f None p first second = second
some_of P f (Some x) p first second = first

either_some : {X : Type 0} (P : X → Type 0) (o p : Option X) → IfSome o P → IfSome p P → IfSome (option_or o p) P
either_some P None p first second = second
either_some P (Some x) p first second = first

given_numbers_of : (q p : ℕ) (index : List (List ℕ)) (values : List GivenValue) → All (λ v. IsWithinLimit v.value) values → IfSome (option_map (λ g. g.value) (find (is_given_at p index) (map (given_of q) values))) IsWithinLimit
given_numbers_of q p index [] every = tt
given_numbers_of q p index (v ∷ vs) every = by (is_given_at p index (given_of q v)) (given_numbers_of q p index vs (λ k d below. every (suc k) d (omega arith)))
  where
    by : (b : Bool) → IfSome (option_map (λ g. g.value) (find (is_given_at p index) (map (given_of q) vs))) IsWithinLimit → IfSome (option_map (λ g. g.value) (cond b (Some (given_of q v)) (find (is_given_at p index) (map (given_of q) vs)))) IsWithinLimit
    by true others = every 0 v (omega arith)
    by false others = others

given_numbers : (sets : SetLists) (xs : List ParamBlock) (p : ℕ) (index : List (List ℕ)) → All IsParamBlock xs → IfSome (given_at (data_of sets xs) p index) IsWithinLimit
given_numbers sets [] p index every = tt
given_numbers sets (x ∷ xs) p index every =
    let first = given_numbers_of x.param p index x.values (λ k d below. ((every 0 x (omega arith)).values k d below).number) in
    let others = given_numbers sets xs p index (λ k d below. every (suc k) d (omega arith)) in
    subst (λ o. IfSome (option_map (λ g. g.value) o) IsWithinLimit) (sym (find-append (is_given_at p index) (givens_of x) (flat_map givens_of xs)))
    (some_of IsWithinLimit (λ (g : Given). g.value) (find (is_given_at p index) (givens_of x)) (find (is_given_at p index) (flat_map givens_of xs)) first others)

default_number : (x : ParamBlock) (p : ℕ) (ds : List Default) (default : Option ℤ) → IfSome default IsWithinLimit → IfSome (option_map (λ d. d.value) (find (λ (d : Default). nat_eq d.param p) ds)) IsWithinLimit → IfSome (option_map (λ d. d.value) (find (λ (d : Default). nat_eq d.param p) (cons_option (option_map (λ value. record { param = x.param; value = value }) default) ds))) IsWithinLimit
default_number x p ds None number others = others
default_number x p ds (Some v) number others = by (nat_eq x.param p)
  where
    by : (b : Bool) → IfSome (option_map (λ d. d.value) (cond b (Some (record { param = x.param; value = v })) (find (λ (d : Default). nat_eq d.param p) ds))) IsWithinLimit
    by true = number
    by false = others

default_numbers : (sets : SetLists) (xs : List ParamBlock) (p : ℕ) → All IsParamBlock xs → IfSome (default_of (data_of sets xs) p) IsWithinLimit
default_numbers sets [] p every = tt
default_numbers sets (x ∷ xs) p every = default_number x p (filter_map stated_default xs) x.default (every 0 x (omega arith)).default (default_numbers sets xs p (λ k d below. every (suc k) d (omega arith)))

none_number : (p : ℕ) → IfSome (value_of_none p) IsWithinLimit
none_number p = by (nat_eq p unit_capacity)
  where
    by : (b : Bool) → IfSome (if b then Some (pos 0) else None) IsWithinLimit
    by true = omega arith
    by false = tt

-- every value of statements that a text can give is a number
pub values_are_numbers : (sets : SetLists) (xs : List ParamBlock) (p : ℕ) (index : List (List ℕ)) → All IsParamBlock xs → IfSome (value_at (data_of sets xs) p index) IsWithinLimit
values_are_numbers sets xs p index every = either_some IsWithinLimit (given_at (data_of sets xs) p index) (option_or (default_of (data_of sets xs) p) (value_of_none p)) (given_numbers sets xs p index every) (either_some IsWithinLimit (default_of (data_of sets xs) p) (value_of_none p) (default_numbers sets xs p every) (none_number p))

-- ---- no refusal, so a value in its range

empty_left : {X : Type 0} (xs ys : List X) → xs ++ ys ≡ [] → xs ≡ []
empty_left [] ys e = refl
empty_left (x ∷ xs) ys e = absurd cc

empty_right : {X : Type 0} (xs ys : List X) → xs ++ ys ≡ [] → ys ≡ []
empty_right [] ys e = e
empty_right (x ∷ xs) ys e = absurd cc

each_empty : {X Y : Type 0} (f : X → List Y) (xs : List X) (i : ℕ) (d : X) → flat_map f xs ≡ [] → i < length xs → f (get_or xs i d) ≡ []
each_empty f [] i d e below = absurd (omega arith)
each_empty f (x ∷ xs) zero d e below = empty_left (f x) (flat_map f xs) e
each_empty f (x ∷ xs) (suc i) d e below = each_empty f xs i d (empty_right (f x) (flat_map f xs) e) (omega arith)

none_head : {Y : Type 0} (o : Option Y) (ys : List Y) → cons_option o ys ≡ [] → (o ≡ None) × (ys ≡ [])
none_head None ys e = (refl, e)
none_head (Some y) ys e = absurd cc

pub none_kept : {X Y : Type 0} (f : X → Option Y) (xs : List X) (i : ℕ) (d : X) → filter_map f xs ≡ [] → i < length xs → f (get_or xs i d) ≡ None
none_kept f [] i d e below = absurd (omega arith)
none_kept f (x ∷ xs) zero d e below = (none_head (f x) (filter_map f xs) e).0
none_kept f (x ∷ xs) (suc i) d e below = none_kept f xs i d (none_head (f x) (filter_map f xs) e).1 (omega arith)

pub unmapped : {X Y : Type 0} (f : X → Y) (o : Option X) → option_map f o ≡ None → o ≡ None
unmapped f None e = refl
unmapped f (Some x) e = absurd cc

value_in : (range : Range) (o : Option ℤ) → value_fault range o ≡ None → IfSome o IsWithinLimit → IsSomeAnd o (IsValueIn range)
value_in range None e number = absurd cc
value_in range (Some v) e number = record { within = in_range_from range v e; number = number }

-- data of which nothing is refused, and whose values are numbers, are complete
pub complete_of : (d : Data) → AreSets d.sets → flat_map (param_refusals d) (used_params d) ≡ [] → ((p : ℕ) → IsUsedParam d p → (index : List (List ℕ)) → Contains (indices_of d.sets p) index → IfSome (value_at d p index) IsWithinLimit) → AreComplete d
complete_of d are free numbers = record { sets = are; values = values }
  where
    none_of_param : (p : ℕ) → IsUsedParam d p → param_refusals d p ≡ []
    none_of_param p used =
        let low = used.0.0 in
        let high = used.0.1 in
        let at : get_or (range_with_len 1 param_count) (p - 1) 0 ≡ p = get_or-range_with_len 1 param_count (p - 1) 0 (omega arith) ∙ omega arith in
        let inside : p - 1 < length (range_with_len 1 param_count) = omega (arith, length-range_with_len 1 param_count) in
        let free_each : flat_map (refusals_if_used d) (range_with_len 1 param_count) ≡ [] = sym (used_each d) ∙ free in
        if_used d p used.1 ∙ ap (refusals_if_used d) (sym at) ∙ each_empty (refusals_if_used d) (range_with_len 1 param_count) (p - 1) 0 free_each inside

    values : (p : ℕ) → IsUsedParam d p → (index : List (List ℕ)) → Contains (indices_of d.sets p) index → IsSomeAnd (value_at d p index) (IsValueIn (range_of p))
    values p used index has =
        let place = has.0 in
        let below : place < length (indices_of d.sets p) = has.1 in
        let name : get_or (indices_of d.sets p) place [] ≡ index = get_or_default (indices_of d.sets p) place [] index below ∙ has.2 in
        let free_there = unmapped (λ fault. AtIndex fault p (get_or (indices_of d.sets p) place [])) (fault_at d p (get_or (indices_of d.sets p) place [])) (none_kept (λ i. option_map (λ fault. AtIndex fault p i) (fault_at d p i)) (indices_of d.sets p) place [] (none_of_param p used) below) in
        let free_here : fault_at d p index ≡ None = ap (fault_at d p) (sym name) ∙ free_there in
        value_in (range_of p) (value_at d p index) free_here (numbers p used index has)

-- tables of the statements mean their data
pub facts_told : (sets : SetLists) (params : List ParamBlock) (tables : List ParamTable) (second : Bool) → second ≡ has_second params → AreSets sets → AreTablesFor (data_of sets params) tables → facts_of sets tables second ≡ canonical (data_of sets params)
facts_told sets params tables second told are for =
    canonical_one (data_by sets tables second) (data_of sets params)
    (same_tables (data_by sets tables second) (data_of sets params) tables refl told (tables_for_data sets tables second are (shapes_of (data_of sets params) tables for)) for)

-- and are kept where no check refuses them
pub kept_of : (sets : SetLists) (params : List ParamBlock) (tables : List ParamTable) (second : Bool) → second ≡ has_second params → AreSets sets → AreTablesFor (data_of sets params) tables → All IsParamBlock params → flat_map (param_refusals (data_by sets tables second)) (used_params (data_by sets tables second)) ≡ [] → AreKept sets tables second
kept_of sets params tables second told are for every free =
    let d = data_by sets tables second in
    let tabled = tables_for_data sets tables second are (shapes_of (data_of sets params) tables for) in
    let same = same_tables d (data_of sets params) tables refl told tabled for in
    record {
      tabled = tabled;
      complete = complete_canonical d (complete_of d are free (λ p used index has.
          subst (λ o. IfSome o IsWithinLimit) (sym (ap₂ (λ given default. option_or given (option_or default (value_of_none p))) (same.values p used index has) (same.defaults p used))) (values_are_numbers sets params p index every)));
    }
