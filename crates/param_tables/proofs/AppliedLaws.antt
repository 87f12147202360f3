-- What a change puts into the table of its parameter means the data with the change.
use Rattle.param_tables.proofs.Common.{◌≡◌, ◌≢◌, ℕ, zero, ◌-◌, ◌^◌, ◌<◌, ◌&&◌, Bool, true, false, not, cond, List, [], ◌∷◌, ◌++◌, Option, None, Some, length, map, set, get_or, refl, sym, ap, ap₂, ◌∙◌, subst, inl, inr, arith, ℤ, pos, Contains, IsSomeAnd, nat_eq, filter, filter_map, find, cons_option, range_with_len, pointwise, bytes_eq, option_and_then, option_map, option_or, if◌then◌else◌, get_or_default, get_or-set_other, get_or-set_same, length-set, length-map, cases_eq, eq-eqb, ne_eqb, leb-true, find-append, length-map-range_with_len, get_or-map-range_with_len, same_lists, IsStrictlyIncreasing, first_of, Data, Given, IsUsedParam, default_of, given_at, indices_of, is_given_at, value_at, SetLists, IsParam, param_count, param_at, is_used, range_of, subscript_sets, IsValueIn, IsWithinLimit, given_value, given_in, value_else, range_fault, unless, nat_le, AtIndex, CellFault, OutOfRange, PlaceFault, IsUsable, Range}
use Rattle.std.specs.Prelude.{unsigned_abs}
use Rattle.std.specs.Option.{option_map_or}
use Rattle.std.specs.Ordering.{int_eq}
use Rattle.param_tables.specs.Changes.{Change, change_refusals, changed_at, changed_fault, changed_value, indices_named, is_left, is_rounded_at, is_rounded_by, names_index, refusal_of, rounded_by, with_change}
use Rattle.param_tables.specs.ChangeTold.{IsChangeOf, change_told, named_over}
use Rattle.param_tables.specs.OpenTables.{AreOpen, ArePut, HasValues, IsOpenTable, KeepsShape, MayBePut, default_by_tables, facts_opened, fault_by, given_by_tables, given_open, open_value, places_of_change, put_by, refusal_by, rounds_at, rule_of}
use Rattle.param_tables.specs.declared.change.Change.{Change as ChangeByPositions}
use Rattle.param_tables.specs.declared.open_table.OpenTable.{OpenTable}
use Rattle.param_tables.proofs.AscendingLaws.{contains_cases, contains_later}
use Rattle.param_tables.proofs.DataLaws.{option_or-map}
use Rattle.param_tables.proofs.FactLaws.{place_test}
use Rattle.param_tables.proofs.IndexLaws.{names_apart_from}
use Rattle.param_tables.proofs.KeptLaws.{none_kept, unmapped}
use Rattle.param_tables.proofs.NamedLaws.{filter-same, map-filter, places_below}
use Rattle.param_tables.proofs.OpenLaws.{default_at_tables, default_of_opened, given_at_opened, given_at_tables, opened_is, value_opened}
use Rattle.param_tables.proofs.RangeRules.{in_range_from}

-- ---- lists by their places

module _ {X : Type 0} (xs : List X) (d : X) where
  at_each : map (λ i. get_or xs i d) (range_with_len 0 (length xs)) ≡ xs
  at_each = same_lists (map (λ i. get_or xs i d) (range_with_len 0 (length xs))) xs (length-map-range_with_len (λ i. get_or xs i d) 0 (length xs)) (λ k e below.
      let inside : k < length xs = omega (arith, below, length-map-range_with_len (λ i. get_or xs i d) 0 (length xs)) in
      get_or-map-range_with_len (λ i. get_or xs i d) 0 (length xs) k k e inside (omega arith) ∙ get_or_default xs k d e inside)

  pub at_filtered : (f : X → Bool) → map (λ i. get_or xs i d) (filter (λ i. f (get_or xs i d)) (range_with_len 0 (length xs))) ≡ filter f xs
  at_filtered f = sym (map-filter (λ i. get_or xs i d) f (range_with_len 0 (length xs))) ∙ ap (filter f) at_each

-- what is found of items by their places, as what is found of the places
module _ {Y Z : Type 0} (k : ℕ → Option Z) (g : Z → Y) where
  mapped_one : (i : ℕ) (is : List ℕ) (o : Option Z) → cons_option (option_map g o) (map g (filter_map k is)) ≡ map g (cons_option o (filter_map k is))
  mapped_one i is None = refl
  mapped_one i is (Some z) = refl

  found_mapped : {X : Type 0} (f : X → Option Y) (at : ℕ → X) (ps : List ℕ) → ((i : ℕ) → Contains ps i → f (at i) ≡ option_map g (k i)) → filter_map f (map at ps) ≡ map g (filter_map k ps)
  found_mapped f at [] same = refl
  found_mapped f at (i ∷ is) same =
      ap₂ (λ o ys. cons_option o ys) (same i (zero, omega arith, refl)) (found_mapped f at is (λ j has. same j (contains_later i is j has)))
      ∙ mapped_one i is (k i)

first_mapped : {Y Z : Type 0} (g : Z → Y) (zs : List Z) → first_of (map g zs) ≡ option_map g (first_of zs)
first_mapped g [] = refl
first_mapped g (z ∷ zs) = refl

module _ {X Y : Type 0} (f : X → Option Y) where
  contains_filter_map : (xs : List X) (y : Y) → Contains (filter_map f xs) y → (x : X) × Contains xs x × (f x ≡ Some y)
  contains_filter_map [] y has = let below = has.1 in absurd (omega arith)
  contains_filter_map (x ∷ xs) y has = by (λ others. contains_filter_map xs y others) (f x) refl has
    where
      by : (Contains (filter_map f xs) y → (z : X) × Contains xs z × (f z ≡ Some y)) → (o : Option Y) → f x ≡ o → Contains (cons_option o (filter_map f xs)) y → (z : X) × Contains (x ∷ xs) z × (f z ≡ Some y)
      by rest None e found = let there = rest found in (there.0, contains_later x xs there.0 there.1, there.2)
      by rest (Some z) e found = elim (contains_cases z (filter_map f xs) y found) [
        | inl here ↦ (x, (zero, omega arith, refl), e ∙ ap Some here)
        | inr others ↦ let there = rest others in (there.0, contains_later x xs there.0 there.1, there.2)
      ]

-- ---- values that aren't refused

pub changed_in : (range : Range) (v : ℤ) → changed_fault range v ≡ None → IsValueIn range v
changed_in range v free = by (range_fault range v) refl free
  where
    passed : (b : Bool) → nat_le (unsigned_abs v) (10 ^ 24) ≡ b → unless b OutOfRange ≡ None → IsWithinLimit v
    passed true t e = leb-true (unsigned_abs v) (10 ^ 24) t
    passed false t e = absurd cc

    by : (o : Option CellFault) → range_fault range v ≡ o → option_or o (unless (nat_le (unsigned_abs v) (10 ^ 24)) OutOfRange) ≡ None → IsValueIn range v
    by None t e = record { within = in_range_from range v t; number = passed (nat_le (unsigned_abs v) (10 ^ 24)) refl e }
    by (Some fault) t e = absurd cc

-- the fault at the place
abbrev fault_here : ℕ → CellFault → PlaceFault
fault_here place fault = record { place = place; fault = fault }

-- what is put at a place where nothing is refused
put_is : (rule : Change) (table : OpenTable) (i : ℕ) (put : ℕ × ℤ) → put_by rule table i ≡ Some put → fault_by rule table i ≡ None → (put.0 ≡ i) × IsValueIn (range_of rule.param) put.1
put_is rule table i put is free = by (open_value rule.param table i) is free
  where
    w : ℤ → ℤ
    w v = changed_value rule v

    same : (b : Bool) (v : ℤ) → (if b then None else Some (i, w v)) ≡ Some put → (i, w v) ≡ put
    same true v e = absurd cc
    same false v e = cc

    by : (o : Option ℤ) → option_and_then (λ v. if int_eq (w v) v then None else Some (i, w v)) o ≡ Some put → option_map (fault_here i) (option_and_then (λ v. changed_fault (range_of rule.param) (w v)) o) ≡ None → (put.0 ≡ i) × IsValueIn (range_of rule.param) put.1
    by None e none = absurd cc
    by (Some v) e none =
        let at : (i, w v) ≡ put = same (int_eq (w v) v) v e in
        (sym (ap (λ (q : ℕ × ℤ). q.0) at), subst (λ (q : ℕ × ℤ). IsValueIn (range_of rule.param) q.1) at (changed_in (range_of rule.param) (w v) (unmapped (fault_here i) (changed_fault (range_of rule.param) (w v)) none)))

-- ---- one change

module _ (sets : SetLists) (tables : List OpenTable) (second : Bool) (is : AreOpen sets tables second) (change : ChangeByPositions) (ok : IsChangeOf (facts_opened sets tables second) change) (e : OpenTable) where
  abbrev before : Data
  before = facts_opened sets tables second

  abbrev told : Change
  told = change_told sets change

  abbrev rule : Change
  rule = rule_of change

  abbrev table : OpenTable
  table = get_or tables (change.param - 1) e

  abbrev indices : List (List (List ℕ))
  indices = indices_of sets change.param

  abbrev at : ℕ → List (List ℕ)
  at i = get_or indices i []

  abbrev places : List ℕ
  places = places_of_change sets change

  place_inside : (i : ℕ) → Contains places i → i < length indices
  place_inside i has = places_below sets (subscript_sets change.param) (named_over sets (subscript_sets change.param) change.members.items) i has

  -- the indices that are named, by their places
  named_at : map at places ≡ indices_named before told
  named_at = at_filtered indices [] (names_index told)

  value_there : (i : ℕ) → i < length indices → value_at before change.param (at i) ≡ open_value change.param table i
  value_there i below = value_opened sets tables second change.param i e is.members is.all ok.used below

  -- ---- refusals

  refusal_there : (i : ℕ) → Contains places i → refusal_of before told (at i) ≡ option_map (refusal_by sets change.param) (fault_by rule table i)
  refusal_there i has =
      ap (λ o. option_map (λ fault. AtIndex fault change.param (at i)) (option_and_then (λ v. changed_fault (range_of change.param) (changed_value told v)) o)) (value_there i (place_inside i has))
      ∙ twice (option_and_then (λ v. changed_fault (range_of change.param) (changed_value told v)) (open_value change.param table i))
    where
      twice : (o : Option CellFault) → option_map (λ fault. AtIndex fault change.param (at i)) o ≡ option_map (refusal_by sets change.param) (option_map (fault_here i) o)
      twice None = refl
      twice (Some fault) = refl

  pub refusals_are : change_refusals before told ≡ map (refusal_by sets change.param) (filter_map (fault_by rule table) places)
  refusals_are = ap (filter_map (refusal_of before told)) (sym named_at) ∙ found_mapped (fault_by rule table) (refusal_by sets change.param) (refusal_of before told) at places refusal_there

  pub first_refusal_is : option_map (refusal_by sets change.param) (first_of (filter_map (fault_by rule table) places)) ≡ first_of (change_refusals before told)
  first_refusal_is = sym (ap first_of refusals_are ∙ first_mapped (refusal_by sets change.param) (filter_map (fault_by rule table) places))

  -- ---- rounded values

  pub rounded_are : length (filter (rounds_at rule table) places) ≡ rounded_by before told
  rounded_are =
      sym (
      ap (λ named. length (filter (is_rounded_at before told) named)) (sym named_at)
      ∙ ap length (map-filter at (is_rounded_at before told) places)
      ∙ length-map (filter (λ i. is_rounded_at before told (at i)) places) at
      ∙ ap length (filter-same (λ i. is_rounded_at before told (at i)) (rounds_at rule table) places (λ i has.
      ap (λ o. option_map_or (λ v. not (is_left told v) && is_rounded_by change.kind change.amount v) o false) (value_there i (place_inside i has)))))

  -- ---- the look-up in what is changed

  -- at a place: what is put there
  changed_there : (j : ℕ) → j < length indices → (ps : List ℕ) → ((i : ℕ) → Contains ps i → i < length indices) → option_map (λ (g : Given). g.value) (find (is_given_at change.param (at j)) (filter_map (changed_at before told) (map at ps))) ≡ given_in (filter_map (put_by rule table) ps) j
  changed_there j below [] inside = refl
  changed_there j below (i ∷ ps) inside =
      let here : i < length indices = inside i (zero, omega arith, refl) in
      ap (λ o. option_map (λ (g : Given). g.value) (find (is_given_at change.param (at j)) (cons_option (option_and_then change_of o) (filter_map (changed_at before told) (map at ps))))) (value_there i here)
      ∙ by here (changed_there j below ps (λ k has. inside k (contains_later i ps k has))) (open_value change.param table i)
    where
      change_of : ℤ → Option Given
      change_of v = if int_eq (changed_value told v) v then None else Some (given_value change.param (at i) (changed_value told v))

      put_of : ℤ → Option (ℕ × ℤ)
      put_of v = if int_eq (changed_value rule v) v then None else Some (i, changed_value rule v)

      test : i < length indices → (is_given_at change.param (at j) (given_value change.param (at i) (pos 0))) ≡ nat_eq j i
      test here = ap (λ b. b && pointwise bytes_eq (at i) (at j)) (eq-eqb change.param change.param refl) ∙ place_test sets (names_apart_from sets is.members) change.param ok.used.0 i j here below

      kept : i < length indices → option_map (λ (g : Given). g.value) (find (is_given_at change.param (at j)) (filter_map (changed_at before told) (map at ps))) ≡ given_in (filter_map (put_by rule table) ps) j → (v : ℤ) (b : Bool)
          → option_map (λ (g : Given). g.value) (find (is_given_at change.param (at j)) (cons_option (if b then None else Some (given_value change.param (at i) v)) (filter_map (changed_at before told) (map at ps)))) ≡ given_in (cons_option (if b then None else Some (i, v)) (filter_map (put_by rule table) ps)) j
      kept here rest v true = rest
      kept here rest v false =
          ap (λ b. option_map (λ (g : Given). g.value) (cond b (Some (given_value change.param (at i) v)) (find (is_given_at change.param (at j)) (filter_map (changed_at before told) (map at ps))))) (test here)
          ∙ one (nat_eq j i)
        where
          one : (b : Bool) → option_map (λ (g : Given). g.value) (cond b (Some (given_value change.param (at i) v)) (find (is_given_at change.param (at j)) (filter_map (changed_at before told) (map at ps)))) ≡ cond b (Some v) (given_in (filter_map (put_by rule table) ps) j)
          one true = refl
          one false = rest

      by : i < length indices → option_map (λ (g : Given). g.value) (find (is_given_at change.param (at j)) (filter_map (changed_at before told) (map at ps))) ≡ given_in (filter_map (put_by rule table) ps) j → (o : Option ℤ)
          → option_map (λ (g : Given). g.value) (find (is_given_at change.param (at j)) (cons_option (option_and_then change_of o) (filter_map (changed_at before told) (map at ps)))) ≡ given_in (cons_option (option_and_then put_of o) (filter_map (put_by rule table) ps)) j
      by here rest None = rest
      by here rest (Some v) = kept here rest (changed_value told v) (int_eq (changed_value told v) v)

  -- of another parameter: nothing
  changed_elsewhere : (q : ℕ) (index : List (List ℕ)) → q ≢ change.param → (named : List (List (List ℕ))) → option_map (λ (g : Given). g.value) (find (is_given_at q index) (filter_map (changed_at before told) named)) ≡ None
  changed_elsewhere q index other [] = refl
  changed_elsewhere q index other (name ∷ named) = by (changed_elsewhere q index other named) (value_at before change.param name)
    where
      kept : option_map (λ (g : Given). g.value) (find (is_given_at q index) (filter_map (changed_at before told) named)) ≡ None → (v : ℤ) (b : Bool)
          → option_map (λ (g : Given). g.value) (find (is_given_at q index) (cons_option (if b then None else Some (given_value change.param name v)) (filter_map (changed_at before told) named))) ≡ None
      kept rest v true = rest
      kept rest v false =
          let no : nat_eq change.param q ≡ false = ne_eqb change.param q (λ same. other (sym same)) in
          ap (λ b. option_map (λ (g : Given). g.value) (cond (b && pointwise bytes_eq name index) (Some (given_value change.param name v)) (find (is_given_at q index) (filter_map (changed_at before told) named)))) no ∙ rest

      by : option_map (λ (g : Given). g.value) (find (is_given_at q index) (filter_map (changed_at before told) named)) ≡ None → (o : Option ℤ)
          → option_map (λ (g : Given). g.value) (find (is_given_at q index) (cons_option (option_and_then (λ v. if int_eq (changed_value told v) v then None else Some (given_value change.param name (changed_value told v))) o) (filter_map (changed_at before told) named))) ≡ None
      by rest None = rest
      by rest (Some v) = kept rest (changed_value told v) (int_eq (changed_value told v) v)

  -- ---- the data with the change

  abbrev wanted : Data
  wanted = record { sets = sets; given = filter_map (changed_at before told) (indices_named before told) ++ before.given; defaults = before.defaults; second = second }

  given_wanted : (q : ℕ) (index : List (List ℕ)) → given_at wanted q index ≡ option_or (option_map (λ (g : Given). g.value) (find (is_given_at q index) (filter_map (changed_at before told) (indices_named before told)))) (given_at before q index)
  given_wanted q index =
      ap (option_map (λ (g : Given). g.value)) (find-append (is_given_at q index) (filter_map (changed_at before told) (indices_named before told)) before.given)
      ∙ option_or-map (λ (g : Given). g.value) (find (is_given_at q index) (filter_map (changed_at before told) (indices_named before told))) (find (is_given_at q index) before.given)

  inside_all : change.param - 1 < length tables
  inside_all = let low = ok.used.0.0 in let high = ok.used.0.1 in let all = is.all in omega arith

  module _ (new : OpenTable) where
    abbrev after : List OpenTable
    after = set tables (change.param - 1) new

    here_is : get_or after (change.param - 1) e ≡ new
    here_is = get_or-set_same tables (change.param - 1) new e inside_all

    others_are : (q : ℕ) → IsParam q → q ≢ change.param → (f : OpenTable) → get_or after (q - 1) f ≡ get_or tables (q - 1) f
    others_are q listed other f =
        let low = listed.0 in
        let first = ok.used.0.0 in
        let apart : q - 1 ≢ (change.param - 1) = λ same. other (omega arith) in
        get_or-set_other tables (change.param - 1) (q - 1) new f apart

    all_after : length after ≡ param_count
    all_after = length-set tables (change.param - 1) new ∙ is.all

    module _ (shape : KeepsShape table new) where
      -- with all that is put
      module _ (are : ArePut (filter_map (put_by rule table) places) table new) where
        given_after : (q : ℕ) → IsUsedParam before q → (index : List (List ℕ)) → Contains (indices_of sets q) index → given_by_tables sets after q index ≡ given_at wanted q index
        given_after q used index has = elim (cases_eq q change.param) [
          | inl same ↦ subst (λ (n : ℕ). Contains (indices_of sets n) index → given_by_tables sets after n index ≡ given_at wanted n index) (sym same) of_here has
          | inr other ↦
              let i = has.0 in
              let below : i < length (indices_of sets q) = has.1 in
              let name : get_or (indices_of sets q) i [] ≡ index = get_or_default (indices_of sets q) i [] index below ∙ has.2 in
              ap (given_by_tables sets after q) (sym name)
              ∙ given_at_tables sets after q i e is.members used.0 all_after below
              ∙ ap (λ t. given_open t i) (others_are q used.0 other e)
              ∙ sym (given_at_tables sets tables q i e is.members used.0 is.all below)
              ∙ ap (given_by_tables sets tables q) name
              ∙ sym (given_at_opened sets tables second q index used has)
              ∙ sym (given_wanted q index ∙ ap (λ o. option_or o (given_at before q index)) (changed_elsewhere q index other (indices_named before told)))
        ]
          where
            of_here : Contains (indices_of sets change.param) index → given_by_tables sets after change.param index ≡ given_at wanted change.param index
            of_here has_here =
                let i = has_here.0 in
                let below : i < length indices = has_here.1 in
                let name : at i ≡ index = get_or_default indices i [] index below ∙ has_here.2 in
                let has_name : Contains indices (at i) = (i, below, get_or_default indices i (at i) [] below) in
                ap (given_by_tables sets after change.param) (sym name)
                ∙ given_at_tables sets after change.param i e is.members ok.used.0 all_after below
                ∙ ap (λ t. given_open t i) here_is
                ∙ are i
                ∙ ap₂ option_or
                (sym (ap (λ named. option_map (λ (g : Given). g.value) (find (is_given_at change.param (at i)) (filter_map (changed_at before told) named))) (sym named_at) ∙ changed_there i below places place_inside))
                (sym (given_at_opened sets tables second change.param (at i) ok.used has_name ∙ given_at_tables sets tables change.param i e is.members ok.used.0 is.all below))
                ∙ sym (given_wanted change.param (at i))
                ∙ ap (given_at wanted change.param) name

        default_after : (q : ℕ) → IsUsedParam before q → default_by_tables after q ≡ default_of wanted q
        default_after q used = elim (cases_eq q change.param) [
          | inl same ↦
              subst (λ (n : ℕ). IsUsedParam before n → default_by_tables after n ≡ default_of wanted n) (sym same)
              (λ used_here.
              default_at_tables after change.param e ok.used.0 all_after
              ∙ ap (λ (t : OpenTable). t.table.default) here_is
              ∙ shape.default
              ∙ sym (default_at_tables tables change.param e ok.used.0 is.all)
              ∙ sym (default_of_opened sets tables second change.param used_here))
              used
          | inr other ↦
              default_at_tables after q e used.0 all_after
              ∙ ap (λ (t : OpenTable). t.table.default) (others_are q used.0 other e)
              ∙ sym (default_at_tables tables q e used.0 is.all)
              ∙ sym (default_of_opened sets tables second q used)
        ]

        pub facts_changed : facts_opened sets after second ≡ with_change before told
        facts_changed = opened_is sets after second wanted refl refl given_after default_after

      -- with some of what is put, where nothing is refused
      module _ (some : MayBePut (filter_map (put_by rule table) places) table new) (free : filter_map (fault_by rule table) places ≡ []) where
        put_there : (place : ℕ) (v : ℤ) → Contains (filter_map (put_by rule table) places) (place, v) → (place < length indices) × IsValueIn (range_of change.param) v
        put_there place v has =
            let found = contains_filter_map (put_by rule table) places (place, v) has in
            let among : Contains places found.0 = found.1 in
            let k = among.0 in
            let one : get_or places k found.0 ≡ found.0 = among.2 in
            let none : fault_by rule table found.0 ≡ None = ap (fault_by rule table) (sym one) ∙ none_kept (fault_by rule table) places k found.0 free among.1 in
            let put = put_is rule table found.0 (place, v) found.2 none in
            let inside : found.0 < length indices = place_inside found.0 among in
            let same : place ≡ found.0 = put.0 in
            (omega arith, put.1)

        shape_after : IsUsable change.param → IsOpenTable (length indices) new
        shape_after usable_here =
            let old = is.shapes change.param usable_here e in
            record {
              ascending = subst IsStrictlyIncreasing (sym shape.places) old.ascending;
              long = shape.long ∙ old.long ∙ sym (ap length shape.places);
              inside = λ place past. elim (some place) [
                | inl same ↦ same ∙ old.inside place past
                | inr put ↦ let below = (put_there place put.0 put.1).0 in absurd (omega arith)
              ];
            }

        values_after : IsUsable change.param → is_used second (param_at change.param).used ≡ true → HasValues change.param (length indices) new
        values_after usable_here used = record {
          each = λ place below. elim (some place) [
            | inl same ↦
                let value : open_value change.param new place ≡ open_value change.param table place = ap₂ (λ given default. option_or given (value_else change.param default)) same shape.default in
                subst (λ o. IsSomeAnd o (IsValueIn (range_of change.param))) (sym value) ((is.values change.param usable_here used e).each place below)
            | inr put ↦
                let value : open_value change.param new place ≡ Some put.0 = ap (λ o. option_or o (value_else change.param new.table.default)) put.2 in
                subst (λ o. IsSomeAnd o (IsValueIn (range_of change.param))) (sym value) (put_there place put.0 put.1).1
          ];
        }

        pub open_after : AreOpen sets after second
        open_after = record {
          members = is.members;
          all = all_after;
          shapes = λ q usable_q f. elim (cases_eq q change.param) [
            | inl same ↦
                subst (λ (n : ℕ). IsUsable n → IsOpenTable (length (indices_of sets n)) (get_or after (n - 1) f)) (sym same)
                (λ usable_here. subst (IsOpenTable (length indices)) (sym (get_or-set_same tables (change.param - 1) new f inside_all)) (shape_after usable_here)) usable_q
            | inr other ↦ subst (IsOpenTable (length (indices_of sets q))) (sym (others_are q usable_q.0 other f)) (is.shapes q usable_q f)
          ];
          values = λ q usable_q used f. elim (cases_eq q change.param) [
            | inl same ↦
                subst (λ (n : ℕ). IsUsable n → is_used second (param_at n).used ≡ true → HasValues n (length (indices_of sets n)) (get_or after (n - 1) f)) (sym same)
                (λ usable_here used_here. subst (HasValues change.param (length indices)) (sym (get_or-set_same tables (change.param - 1) new f inside_all)) (values_after usable_here used_here)) usable_q used
            | inr other ↦ subst (HasValues q (length (indices_of sets q))) (sym (others_are q usable_q.0 other f)) (is.values q usable_q used f)
          ];
        }
