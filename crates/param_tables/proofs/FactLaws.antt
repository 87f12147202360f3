-- The data that tables mean are those of statements that say the same.
use Rattle.param_tables.proofs.Common.{◌≡◌, ℕ, suc, ◌+◌, ◌-◌, ◌<◌, ◌≤◌, Bool, true, false, cond, List, [], ◌∷◌, ◌++◌, Some, length, map, nat_eq, get_or, refl, sym, ap, ◌∙◌, subst, inl, inr, arith, All, ℤ, pointwise, IsDistinct, cons_option, enumerate_from, filter_map, find, flat_map, range_with_len, zip, option_map, bytes_eq, cases_eq, eq-eqb, ne_eqb, get_or-map, length-map, get_or-enumerate_from, get_or-range_with_len, length-enumerate_from, length-range_with_len, IsDistinct-from_apart, Mark, Default, default_of, given_at, indices_of, is_given_at, SetLists, AreSets, IsParam, param_count, subscript_sets, data_of, given_of, givens_of, stated_default, ParamBlock, GivenValue, AreTablesFor, HaveShapes, IsUsable, IsTable, IsTableFor, entries_of, given_among, given_in, default_by, data_by, given_by, ParamTable, subscripts_are_sets}
use Rattle.param_tables.proofs.DataLaws.{default_of_statement, given_of_statement}
use Rattle.param_tables.proofs.GivenLaws.{names_same}
use Rattle.param_tables.proofs.IndexLaws.{HaveApart, indices_apart, names_apart_from}

nowhere : Mark
nowhere = record { line = 0; column = 0 }

-- an entry as a value of a statement, and a table as a statement
value_by : SetLists → ℕ → (ℕ × ℤ) → GivenValue
value_by sets param entry = record { index = get_or (indices_of sets param) entry.0 []; value = entry.1; at = nowhere }

statement_by : SetLists → ℕ → ParamTable → ParamBlock
statement_by sets param table = record { param = param; default = table.default; values = map (value_by sets param) (entries_of table) }

statements_by : SetLists → ℕ → List ParamTable → List ParamBlock
statements_by sets n tables = map (λ (param, table). statement_by sets param table) (enumerate_from n tables)

-- ---- what is given

map-map : {A B C : Type 0} (g : B → C) (f : A → B) (xs : List A) → map g (map f xs) ≡ map (λ x. g (f x)) xs
map-map g f [] = refl
map-map g f (x ∷ xs) = ap (λ ys. g (f x) ∷ ys) (map-map g f xs)

same_given : (sets : SetLists) (n : ℕ) (tables : List ParamTable) → flat_map (λ (param, table). map (given_by sets param) (entries_of table)) (enumerate_from n tables) ≡ flat_map givens_of (statements_by sets n tables)
unfolding statements_by statement_by value_by
same_given sets n [] = refl
same_given sets n (t ∷ ts) = ap (λ gs. gs ++ flat_map (λ (param, table). map (given_by sets param) (entries_of table)) (enumerate_from (n + 1) ts)) (sym (map-map (given_of n) (value_by sets n) (entries_of t))) ∙ ap (λ gs. map (given_of n) (map (value_by sets n) (entries_of t)) ++ gs) (same_given sets (n + 1) ts)

same_defaults : (sets : SetLists) (n : ℕ) (tables : List ParamTable) → filter_map (λ (param, table). default_by param table) (enumerate_from n tables) ≡ filter_map stated_default (statements_by sets n tables)
unfolding statements_by statement_by
same_defaults sets n [] = refl
same_defaults sets n (t ∷ ts) = ap (cons_option (default_by n t)) (same_defaults sets (n + 1) ts)

same_givens : (sets : SetLists) (tables : List ParamTable) (second : Bool) (p : ℕ) (index : List (List ℕ)) → given_at (data_by sets tables second) p index ≡ given_at (data_of sets (statements_by sets 1 tables)) p index
same_givens sets tables second p index = ap (λ gs. option_map (λ g. g.value) (find (is_given_at p index) gs)) (same_given sets 1 tables)

-- but for the statement on DiscountRateIdv
same_default : (sets : SetLists) (tables : List ParamTable) (second : Bool) (p : ℕ) → default_of (data_by sets tables second) p ≡ default_of (data_of sets (statements_by sets 1 tables)) p
same_default sets tables second p = ap (λ ds. option_map (λ (d : Default). d.value) (find (λ (d : Default). nat_eq d.param p) ds)) (same_defaults sets 1 tables)

-- ---- one statement for each parameter

params_by : (sets : SetLists) (n : ℕ) (tables : List ParamTable) → map (λ s. s.param) (statements_by sets n tables) ≡ range_with_len n (length tables)
unfolding statements_by statement_by
params_by sets n [] = refl
params_by sets n (t ∷ ts) = ap (λ ns. n ∷ ns) (params_by sets (n + 1) ts)

numbers_apart : (a n : ℕ) → IsDistinct nat_eq (range_with_len a n)
numbers_apart a n = IsDistinct-from_apart nat_eq (range_with_len a n) (λ i j d before below.
    let long = length-range_with_len a n in
    let first : get_or (range_with_len a n) i d ≡ a + i = get_or-range_with_len a n i d (omega arith) in
    let second : get_or (range_with_len a n) j d ≡ a + j = get_or-range_with_len a n j d (omega arith) in
    ne_eqb (get_or (range_with_len a n) i d) (get_or (range_with_len a n) j d) (λ e. omega arith))

-- ---- the look-up by names is that by places

module _ (sets : SetLists) (apart : HaveApart sets) (p : ℕ) (listed : IsParam p) where
  pub place_test : (q j : ℕ) → q < length (indices_of sets p) → j < length (indices_of sets p) → pointwise bytes_eq (get_or (indices_of sets p) q []) (get_or (indices_of sets p) j []) ≡ nat_eq j q
  place_test q j bq bj = elim (cases_eq j q) [
    | inl same ↦ (names_same (get_or (indices_of sets p) q []) (get_or (indices_of sets p) j [])).1 (ap (λ n. get_or (indices_of sets p) n []) (sym same)) ∙ sym (eq-eqb j q same)
    | inr other ↦ false_from (pointwise bytes_eq (get_or (indices_of sets p) q []) (get_or (indices_of sets p) j [])) (λ t. other (sym (indices_apart sets apart (subscript_sets p) q j (subscripts_are_sets p listed) bq bj ((names_same (get_or (indices_of sets p) q []) (get_or (indices_of sets p) j [])).0 t)))) ∙ sym (ne_eqb j q other)
  ]
    where
      false_from : (b : Bool) → ((b ≡ true) → ⊥) → b ≡ false
      false_from true no_way = absurd (no_way refl)
      false_from false no_way = refl

  given_by_place : (places : List ℕ) (values : List ℤ) (j : ℕ) → All (λ q. q < length (indices_of sets p)) places → j < length (indices_of sets p) → given_among (map (value_by sets p) (zip places values)) (get_or (indices_of sets p) j []) ≡ given_in (zip places values) j
  unfolding value_by
  given_by_place [] values j within below = refl
  given_by_place (q ∷ qs) [] j within below = refl
  given_by_place (q ∷ qs) (v ∷ vs) j within below =
      ap (λ b. option_map (λ (w : GivenValue). w.value) (cond b (Some (value_by sets p (q, v))) (find (λ w. pointwise bytes_eq w.index (get_or (indices_of sets p) j [])) (map (value_by sets p) (zip qs vs))))) (place_test q j (within 0 q (omega arith)) below)
      ∙ of_cond (nat_eq j q) (given_by_place qs vs j (λ k d short. within (suc k) d (omega arith)) below)
    where
      of_cond : (b : Bool) → given_among (map (value_by sets p) (zip qs vs)) (get_or (indices_of sets p) j []) ≡ given_in (zip qs vs) j → option_map (λ (w : GivenValue). w.value) (cond b (Some (value_by sets p (q, v))) (find (λ w. pointwise bytes_eq w.index (get_or (indices_of sets p) j [])) (map (value_by sets p) (zip qs vs)))) ≡ cond b (Some v) (given_in (zip qs vs) j)
      of_cond true e = refl
      of_cond false e = e

-- tables with the shapes of the parameters are those of the data that they mean
pub tables_for_data : (sets : SetLists) (tables : List ParamTable) (second : Bool) → AreSets sets → HaveShapes sets tables → AreTablesFor (data_by sets tables second) tables
unfolding statements_by statement_by
tables_for_data sets tables second are shapes = record { all = shapes.all; each = each }
  where
    all : List ParamBlock
    all = statements_by sets 1 tables

    distinct : IsDistinct nat_eq (map (λ s. s.param) all)
    distinct = subst (IsDistinct nat_eq) (sym (params_by sets 1 tables)) (numbers_apart 1 (length tables))

    each : (p : ℕ) → IsUsable p → (e : ParamTable) → IsTableFor (data_by sets tables second) p (get_or tables (p - 1) e)
    each p used e = record { shape = shape; given = given; default = default }
      where
        low : 1 ≤ p
        low = used.0.0

        high : p ≤ param_count
        high = used.0.1

        table : ParamTable
        table = get_or tables (p - 1) e

        shape : IsTable (length (indices_of sets p)) (get_or tables (p - 1) e)
        shape = shapes.each p used e

        s : ParamBlock
        s = statement_by sets p table

        short : p - 1 < length tables
        short = let a = low in let b = high in omega (arith, shapes.all)

        inside : p - 1 < length all
        inside = let a = short in omega (arith, length-map (enumerate_from 1 tables) (λ (param, t). statement_by sets param t), length-enumerate_from 1 tables)

        at : get_or all (p - 1) s ≡ s
        at =
            let number : 1 + (p - 1) ≡ p = let a = low in omega arith in
            let in_list : p - 1 < length (enumerate_from 1 tables) = let a = short in omega (arith, length-enumerate_from 1 tables) in
            get_or-map (λ (param, t). statement_by sets param t) (enumerate_from 1 tables) (p - 1) (p, e) s in_list
            ∙ ap (λ x. statement_by sets x.0 x.1) (get_or-enumerate_from 1 tables (p - 1) (p, e) short)
            ∙ ap (λ n. statement_by sets n table) number

        by_places : (place : ℕ) → place < length (indices_of sets p) → given_among s.values (get_or (indices_of sets p) place []) ≡ given_in (entries_of table) place
        by_places place below = given_by_place sets (names_apart_from sets are) p used.0 table.places.items table.values.items place shape.below below

        given : (place : ℕ) → place < length (indices_of sets p) → given_at (data_by sets tables second) p (get_or (indices_of sets p) place []) ≡ given_in (entries_of (get_or tables (p - 1) e)) place
        given place below =
            same_givens sets tables second p (get_or (indices_of sets p) place [])
            ∙ given_of_statement sets all distinct (p - 1) s inside at (get_or (indices_of sets p) place [])
            ∙ by_places place below

        default : default_of (data_by sets tables second) p ≡ table.default
        default = same_default sets tables second p ∙ default_of_statement sets all distinct (p - 1) s inside at []
