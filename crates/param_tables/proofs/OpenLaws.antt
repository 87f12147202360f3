-- Tables that are open to changes mean data: what those are at each index, and when they are given data.
use Rattle.param_tables.proofs.Common.{◌≡◌, ℕ, ◌-◌, ◌<◌, ◌≤◌, Bool, List, [], ◌∷◌, Option, None, Some, length, get_or, refl, sym, ap, ap₂, ◌∙◌, subst, arith, Contains, IsSomeAnd, filter, filter_map, flat_map, range_with_len, pointwise, option_and_then, option_map, option_or, slice_get-get_or, get_or_default, is_some, list_any_at, bytes_eq, false≢true, Data, IsUsedParam, used_params, default_of, given_at, indices_of, value_at, value_of_none, SetLists, AreSets, IsParam, is_used, param_at, param_count, range_of, subscript_sets, subscripts_are_sets, AreComplete, IsValueIn, canonical, defaults_in_order, given_in_order, given_value}
use Rattle.std.specs.Prelude.{position}
use Rattle.std.proofs.lemmas.List.Quantifiers.{position-Some}
use Rattle.param_tables.specs.OpenTables.{AreOpen, default_by_tables, facts_opened, given_by_tables, given_open, open_value}
unfoldable use Rattle.param_tables.specs.OpenTables.{defaults_opened, given_opened}
use Rattle.param_tables.specs.declared.open_table.OpenTable.{OpenTable}
use Rattle.param_tables.proofs.CanonicalLaws.{default_by_look, filter_map-same, flat_map-same, found_by_look, listed_is_used, used_is_listed}
use Rattle.param_tables.proofs.GivenLaws.{names_same}
use Rattle.param_tables.proofs.IndexLaws.{HaveApart, indices_apart, names_apart_from}
use Rattle.param_tables.proofs.PlaceLaws.{is_some-position}
use Rattle.param_tables.proofs.ViewLaws.{usable}

-- ---- the place of an index

module _ (sets : SetLists) (apart : HaveApart sets) (p : ℕ) (listed : IsParam p) where
  pub position_at : (i : ℕ) → i < length (indices_of sets p) → position (pointwise bytes_eq (get_or (indices_of sets p) i [])) (indices_of sets p) ≡ Some i
  position_at i below = by (position test all) refl
    where
      all : List (List (List ℕ))
      all = indices_of sets p

      test : List (List ℕ) → Bool
      test = pointwise bytes_eq (get_or all i [])

      by : (o : Option ℕ) → position test all ≡ o → o ≡ Some i
      by None e = absurd (false≢true (ap is_some (sym e) ∙ is_some-position test all ∙ list_any_at test all i [] below ((names_same (get_or all i []) (get_or all i [])).1 refl)))
      by (Some j) e =
          let found = position-Some test all j [] e in
          let same : get_or all i [] ≡ get_or all j [] = (names_same (get_or all i []) (get_or all j [])).0 found.1 in
          ap Some (sym (indices_apart sets apart (subscript_sets p) i j (subscripts_are_sets p listed) below found.0 same))

-- the value given at an index is that at its place
pub given_at_tables : (sets : SetLists) (tables : List OpenTable) (p i : ℕ) (e : OpenTable) → AreSets sets → IsParam p → length tables ≡ param_count → i < length (indices_of sets p) → given_by_tables sets tables p (get_or (indices_of sets p) i []) ≡ given_open (get_or tables (p - 1) e) i
given_at_tables sets tables p i e are listed all below =
    let low : 1 ≤ p = listed.0 in
    let high : p ≤ param_count = listed.1 in
    ap (λ o. option_and_then (λ table. option_and_then (given_open table) (position (pointwise bytes_eq (get_or (indices_of sets p) i [])) (indices_of sets p))) o) (slice_get-get_or tables (p - 1) e (omega (arith, all)))
    ∙ ap (option_and_then (given_open (get_or tables (p - 1) e))) (position_at sets (names_apart_from sets are) p listed i below)

pub default_at_tables : (tables : List OpenTable) (p : ℕ) (e : OpenTable) → IsParam p → length tables ≡ param_count → default_by_tables tables p ≡ (get_or tables (p - 1) e).table.default
default_at_tables tables p e listed all =
    let low : 1 ≤ p = listed.0 in
    let high : p ≤ param_count = listed.1 in
    ap (option_and_then (λ (table : OpenTable). table.table.default)) (slice_get-get_or tables (p - 1) e (omega (arith, all)))

-- ---- the data

module _ (sets : SetLists) (tables : List OpenTable) (second : Bool) where
  abbrev pub opened : Data
  opened = facts_opened sets tables second

  pub given_at_opened : (p : ℕ) (index : List (List ℕ)) → IsUsedParam opened p → Contains (indices_of sets p) index → given_at opened p index ≡ given_by_tables sets tables p index
  unfolding given_opened
  given_at_opened p index used has = found_by_look sets (given_by_tables sets tables) p index has (used_params opened) (used_is_listed opened p used)

  pub default_of_opened : (p : ℕ) → IsUsedParam opened p → default_of opened p ≡ default_by_tables tables p
  unfolding defaults_opened
  default_of_opened p used = default_by_look (default_by_tables tables) p (used_params opened) (used_is_listed opened p used)

  -- they are these data in canonical form where they give the same
  module _ (d : Data) (same_sets : sets ≡ d.sets) (same_second : second ≡ d.second) where
    abbrev used_by : Bool → List ℕ
    used_by stated = filter (λ n. is_used stated (param_at n).used) (range_with_len 1 param_count)

    given_alike : ((p : ℕ) → IsUsedParam opened p → (index : List (List ℕ)) → Contains (indices_of sets p) index → given_by_tables sets tables p index ≡ given_at d p index) → given_opened sets tables second ≡ given_in_order d
    unfolding given_opened given_in_order
    given_alike same =
        flat_map-same
        (λ p. filter_map (λ index. option_map (given_value p index) (given_by_tables sets tables p index)) (indices_of sets p))
        (λ p. filter_map (λ index. option_map (given_value p index) (given_at d p index)) (indices_of sets p))
        (used_by second)
        (λ p has.
        filter_map-same
        (λ index. option_map (given_value p index) (given_by_tables sets tables p index))
        (λ index. option_map (given_value p index) (given_at d p index))
        (indices_of sets p)
        (λ index has_index. ap (option_map (given_value p index)) (same p (listed_is_used opened p has) index has_index)))
        ∙ ap₂ (λ (all : SetLists) (stated : Bool). flat_map (λ p. filter_map (λ index. option_map (given_value p index) (given_at d p index)) (indices_of all p)) (used_by stated)) same_sets same_second

    defaults_alike : ((p : ℕ) → IsUsedParam opened p → default_by_tables tables p ≡ default_of d p) → defaults_opened tables second ≡ defaults_in_order d
    unfolding defaults_opened defaults_in_order
    defaults_alike same =
        filter_map-same
        (λ p. option_map (λ value. record { param = p; value = value }) (default_by_tables tables p))
        (λ p. option_map (λ value. record { param = p; value = value }) (default_of d p))
        (used_by second)
        (λ p has. ap (option_map (λ value. record { param = p; value = value })) (same p (listed_is_used opened p has)))
        ∙ ap (λ (stated : Bool). filter_map (λ p. option_map (λ value. record { param = p; value = value }) (default_of d p)) (used_by stated)) same_second

    pub opened_is : ((p : ℕ) → IsUsedParam opened p → (index : List (List ℕ)) → Contains (indices_of sets p) index → given_by_tables sets tables p index ≡ given_at d p index) → ((p : ℕ) → IsUsedParam opened p → default_by_tables tables p ≡ default_of d p) → opened ≡ canonical d
    opened_is values defaults =
        ap₂ (λ (all : SetLists) (stated : Bool). record { sets = all; given = given_opened sets tables second; defaults = defaults_opened tables second; second = stated }) same_sets same_second
        ∙ ap₂ (λ given defaults. record { sets = d.sets; given = given; defaults = defaults; second = d.second }) (given_alike values) (defaults_alike defaults)

  -- the value at the place of an index
  pub value_opened : (p i : ℕ) (e : OpenTable) → AreSets sets → length tables ≡ param_count → IsUsedParam opened p → i < length (indices_of sets p) → value_at opened p (get_or (indices_of sets p) i []) ≡ open_value p (get_or tables (p - 1) e) i
  value_opened p i e are all used below =
      let index = get_or (indices_of sets p) i [] in
      let has : Contains (indices_of sets p) index = (i, below, get_or_default (indices_of sets p) i index [] below) in
      ap₂ (λ given default. option_or given (option_or default (value_of_none p)))
      (given_at_opened p index used has ∙ given_at_tables sets tables p i e are used.0 all below)
      (default_of_opened p used ∙ default_at_tables tables p e used.0 all)

  -- they are complete
  pub complete_opened : AreOpen sets tables second → AreComplete opened
  complete_opened is = record { sets = is.members; values = λ p used index has. by tables refl p used index has }
    where
      by : (ts : List OpenTable) → tables ≡ ts → (p : ℕ) → IsUsedParam opened p → (index : List (List ℕ)) → Contains (indices_of sets p) index → IsSomeAnd (value_at opened p index) (IsValueIn (range_of p))
      by [] none p used index has = let all = is.all in let long : length tables ≡ 0 = ap length none in absurd (omega arith)
      by (e ∷ ts) some p used index has =
          let i = has.0 in
          let below : i < length (indices_of sets p) = has.1 in
          let name : get_or (indices_of sets p) i [] ≡ index = get_or_default (indices_of sets p) i [] index below ∙ has.2 in
          let value : value_at opened p index ≡ open_value p (get_or tables (p - 1) e) i = ap (value_at opened p) (sym name) ∙ value_opened p i e is.members is.all used below in
          subst (λ o. IsSomeAnd o (IsValueIn (range_of p))) (sym value) ((is.values p (usable opened p used) used.1 e).each i below)
