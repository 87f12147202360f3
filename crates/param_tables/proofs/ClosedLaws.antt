-- Tables that are opened, and tables that are closed, mean the data that they meant.
use Rattle.param_tables.proofs.Common.{◌≡◌, ℕ, ◌+◌, ◌-◌, ◌<◌, Bool, List, [], ◌∷◌, ◌++◌, Option, None, Some, length, get_or, refl, sym, ap, ap₂, ◌∙◌, subst, inl, inr, arith, All, ℤ, pos, Contains, IsSomeAnd, option_or, slice_get-get_or, get_or_default, get_or_append_left, get_or-append_right, length-append, cases_lt, IsStrictlyIncreasing, IsUsedParam, given_at, indices_of, value_at, SetLists, IsParam, param_count, range_of, subscript_sets, AreComplete, IsValueIn, IsPlaceOf, AreTablesFor, HaveShapes, IsTable, IsUsable, entries_of, given_in, table_value, value_else, AreKept, data_by, facts_of, ParamTable}
use Rattle.param_tables.specs.OpenTables.{AreClosed, AreOpen, AreOpened, HasValues, IsClosedTable, IsOpenTable, facts_opened, given_by_tables, given_open, open_value}
use Rattle.param_tables.specs.declared.open_table.OpenTable.{OpenTable}
use Rattle.param_tables.proofs.ChangeLaws.{none_past, some_none}
use Rattle.param_tables.proofs.EntryLaws.{given_at_place}
use Rattle.param_tables.proofs.FactLaws.{tables_for_data}
use Rattle.param_tables.proofs.OpenLaws.{complete_opened, default_at_tables, given_at_tables, opened, opened_is}
use Rattle.param_tables.proofs.ViewLaws.{usable, value_kept}

-- one more table that is closed
pub closed_more : (xs : List OpenTable) (ys : List ParamTable) (x : OpenTable) (y : ParamTable) → AreClosed xs ys → IsClosedTable x y → AreClosed (xs ++ x ∷ []) (ys ++ y ∷ [])
closed_more xs ys x y are is = record {
  all = length-append ys (y ∷ []) ∙ ap (λ n. n + 1) are.all ∙ sym (length-append xs (x ∷ []));
  each = each;
}
  where
    each : (i : ℕ) → i < length (xs ++ x ∷ []) → (e : OpenTable) (f : ParamTable) → IsClosedTable (get_or (xs ++ x ∷ []) i e) (get_or (ys ++ y ∷ []) i f)
    each i below e f = elim (cases_lt i (length xs)) [
      | inl before ↦
          let short : i < length ys = omega (arith, before, are.all) in
          subst (λ a. IsClosedTable a (get_or (ys ++ y ∷ []) i f)) (sym (get_or_append_left xs (x ∷ []) e i before))
          (subst (λ b. IsClosedTable (get_or xs i e) b) (sym (get_or_append_left ys (y ∷ []) f i short)) (are.each i before e f))
      | inr past ↦
          let last : i ≡ length xs = omega (arith, below, past, length-append xs (x ∷ [])) in
          let none : i - length xs ≡ 0 = omega (arith, last) in
          let none_there : i - length ys ≡ 0 = omega (arith, last, are.all) in
          let at : get_or (xs ++ x ∷ []) i e ≡ x = get_or-append_right xs (x ∷ []) (length xs) i e refl past ∙ ap (λ n. get_or (x ∷ []) n e) none in
          let at_there : get_or (ys ++ y ∷ []) i f ≡ y = get_or-append_right ys (y ∷ []) (length ys) i f refl (omega (arith, past, are.all)) ∙ ap (λ n. get_or (y ∷ []) n f) none_there in
          subst (λ a. IsClosedTable a (get_or (ys ++ y ∷ []) i f)) (sym at) (subst (λ b. IsClosedTable x b) (sym at_there) is)
    ]

or_none : {X : Type 0} (o : Option X) → option_or o None ≡ o
or_none None = refl
or_none (Some x) = refl

below_count : (p n : ℕ) → IsParam p → n ≡ param_count → p - 1 < n
below_count p n listed all = let low = listed.0 in let high = listed.1 in omega (arith, low, high, all)

-- ---- opened

module _ (sets : SetLists) (tables : List ParamTable) (second : Bool) (kept : AreKept sets tables second) (open_tables : List OpenTable) (are : AreOpened tables open_tables) (f : OpenTable) where
  all_open : length open_tables ≡ param_count
  all_open = are.all ∙ kept.tabled.all

  -- the table that is opened
  abbrev table_of : ℕ → ParamTable
  table_of p = get_or tables (p - 1) f.table

  abbrev open_of : ℕ → OpenTable
  open_of p = get_or open_tables (p - 1) f

  same_table : (p : ℕ) → IsParam p → (open_of p).table ≡ table_of p
  same_table p listed = are.table (p - 1) (below_count p (length tables) listed kept.tabled.all) f.table f

  same_given : (p : ℕ) → IsParam p → (place : ℕ) → given_open (open_of p) place ≡ given_in (entries_of (table_of p)) place
  same_given p listed place =
      ap₂ (λ (t : ParamTable) (o : Option ℤ). option_or (given_in (entries_of t) place) o) (same_table p listed) (are.none (p - 1) (below_count p (length tables) listed kept.tabled.all) f place)
      ∙ or_none (given_in (entries_of (table_of p)) place)

  same_value : (p : ℕ) → IsParam p → (place : ℕ) → open_value p (open_of p) place ≡ table_value p (table_of p) place
  same_value p listed place = ap₂ (λ given (t : ParamTable). option_or given (value_else p t.default)) (same_given p listed place) (same_table p listed)

  open_shape : (p : ℕ) → IsUsable p → IsOpenTable (length (indices_of sets p)) (open_of p)
  open_shape p usable_p =
      let shape = (kept.tabled.each p usable_p f.table).shape in
      record {
        ascending = subst (λ (t : ParamTable). IsStrictlyIncreasing t.places.items) (sym (same_table p usable_p.0)) shape.ascending;
        long = ap (λ (t : ParamTable). length t.values.items) (same_table p usable_p.0) ∙ shape.long ∙ sym (ap (λ (t : ParamTable). length t.places.items) (same_table p usable_p.0));
        inside = λ place past. same_given p usable_p.0 place ∙ none_past (length (indices_of sets p)) (table_of p) shape place past;
      }

  open_values : (p : ℕ) → IsUsedParam (facts_of sets tables second) p → HasValues p (length (indices_of sets p)) (open_of p)
  open_values p used = record {
    each = λ place below.
        let index = get_or (indices_of sets p) place [] in
        let at : IsPlaceOf sets (subscript_sets p) index place = record { below = below; at = refl } in
        let is : table_of p ≡ get_or tables (p - 1) (table_of p) = get_or_default tables (p - 1) f.table (table_of p) (below_count p (length tables) used.0 kept.tabled.all) in
        let has : Contains (indices_of sets p) index = (place, below, get_or_default (indices_of sets p) place index [] below) in
        let value : value_at (facts_of sets tables second) p index ≡ open_value p (open_of p) place = value_kept sets tables second kept p used index place at (table_of p) is ∙ sym (same_value p used.0 place) in
        subst (λ o. IsSomeAnd o (IsValueIn (range_of p))) value (kept.complete.values p used index has);
  }

  facts_opened_same : facts_opened sets open_tables second ≡ facts_of sets tables second
  facts_opened_same =
      opened_is sets open_tables second (data_by sets tables second) refl refl
      (λ p used index has.
      let i = has.0 in
      let below : i < length (indices_of sets p) = has.1 in
      let name : get_or (indices_of sets p) i [] ≡ index = get_or_default (indices_of sets p) i [] index below ∙ has.2 in
      ap (given_by_tables sets open_tables p) (sym name)
      ∙ given_at_tables sets open_tables p i f kept.complete.sets used.0 all_open below
      ∙ same_given p used.0 i
      ∙ sym ((kept.tabled.each p (usable (opened sets open_tables second) p used) f.table).given i below)
      ∙ ap (given_at (data_by sets tables second) p) name)
      (λ p used.
      default_at_tables open_tables p f used.0 all_open
      ∙ ap (λ (t : ParamTable). t.default) (same_table p used.0)
      ∙ sym ((kept.tabled.each p (usable (opened sets open_tables second) p used) f.table).default))

-- what is opened has a table to speak of
pub opened_kept : (sets : SetLists) (tables : List ParamTable) (second : Bool) → AreKept sets tables second → (open_tables : List OpenTable) → AreOpened tables open_tables → AreOpen sets open_tables second × (facts_opened sets open_tables second ≡ facts_of sets tables second)
opened_kept sets tables second kept [] are = let none = are.all in let all = kept.tabled.all in absurd (omega (arith, none, all))
opened_kept sets tables second kept (f ∷ fs) are = (
  record {
    members = kept.complete.sets;
    all = are.all ∙ kept.tabled.all;
    shapes = λ p usable_p e. open_shape sets tables second kept (f ∷ fs) are e p usable_p;
    values = λ p usable_p used e. open_values sets tables second kept (f ∷ fs) are e p (usable_p.0, used);
  },
  facts_opened_same sets tables second kept (f ∷ fs) are f,
)

-- ---- closed

module _ (sets : SetLists) (open_tables : List OpenTable) (second : Bool) (is : AreOpen sets open_tables second) (tables : List ParamTable) (are : AreClosed open_tables tables) (f : OpenTable) where
  closed_of : (p : ℕ) → IsParam p → (e : ParamTable) → IsClosedTable (get_or open_tables (p - 1) f) (get_or tables (p - 1) e)
  closed_of p listed e = are.each (p - 1) (below_count p (length open_tables) listed is.all) f e

  pub closed_shapes : HaveShapes sets tables
  closed_shapes = record { all = are.all ∙ is.all; each = each }
    where
      each : (p : ℕ) → IsUsable p → (e : ParamTable) → IsTable (length (indices_of sets p)) (get_or tables (p - 1) e)
      each p usable_p e = record { ascending = rising; long = long; below = below }
        where
          table : ParamTable
          table = get_or tables (p - 1) e

          shape : IsOpenTable (length (indices_of sets p)) (get_or open_tables (p - 1) f)
          shape = is.shapes p usable_p f

          rising : IsStrictlyIncreasing table.places.items
          rising = (closed_of p usable_p.0 e).ascending shape.ascending

          long : length table.values.items ≡ length table.places.items
          long = (closed_of p usable_p.0 e).long shape.long

          below : All (λ place. place < length (indices_of sets p)) table.places.items
          below k d here = elim (cases_lt (get_or table.places.items k d) (length (indices_of sets p))) [
            | inl less ↦ less
            | inr past ↦
                let q = get_or table.places.items k 0 in
                let at : get_or table.places.items k d ≡ q = get_or_default table.places.items k d 0 here in
                let short : k < length table.values.items = omega (arith, long, here) in
                let some : given_in (entries_of table) q ≡ Some (get_or table.values.items k (pos 0)) = given_at_place table.places.items table.values.items k rising long here ∙ slice_get-get_or table.values.items k (pos 0) short in
                let none : given_in (entries_of table) q ≡ None = (closed_of p usable_p.0 e).given q ∙ shape.inside q (omega (arith, past, at)) in
                absurd (some_none (get_or table.values.items k (pos 0)) (sym some ∙ none))
          ]

  closed_tabled : AreTablesFor (data_by sets tables second) tables
  closed_tabled = tables_for_data sets tables second is.members closed_shapes

  pub facts_closed : (e : ParamTable) → facts_opened sets open_tables second ≡ facts_of sets tables second
  facts_closed e =
      opened_is sets open_tables second (data_by sets tables second) refl refl
      (λ p used index has.
      let i = has.0 in
      let below : i < length (indices_of sets p) = has.1 in
      let name : get_or (indices_of sets p) i [] ≡ index = get_or_default (indices_of sets p) i [] index below ∙ has.2 in
      ap (given_by_tables sets open_tables p) (sym name)
      ∙ given_at_tables sets open_tables p i f is.members used.0 is.all below
      ∙ sym ((closed_of p used.0 e).given i)
      ∙ sym ((closed_tabled.each p (usable (opened sets open_tables second) p used) e).given i below)
      ∙ ap (given_at (data_by sets tables second) p) name)
      (λ p used.
      default_at_tables open_tables p f used.0 is.all
      ∙ sym (closed_of p used.0 e).default
      ∙ sym ((closed_tabled.each p (usable (opened sets open_tables second) p used) e).default))

  pub closed_kept : AreKept sets tables second
  closed_kept = record {
    tabled = closed_tabled;
    complete = subst AreComplete (facts_closed f.table) (complete_opened sets open_tables second is);
  }

-- what is closed has a table to speak of
pub shapes_closed : (sets : SetLists) (open_tables : List OpenTable) (second : Bool) → AreOpen sets open_tables second → (tables : List ParamTable) → AreClosed open_tables tables → HaveShapes sets tables
shapes_closed sets [] second is tables are = let none = is.all in absurd (omega (arith, none))
shapes_closed sets (f ∷ fs) second is tables are = closed_shapes sets (f ∷ fs) second is tables are f

pub kept_closed : (sets : SetLists) (open_tables : List OpenTable) (second : Bool) → AreOpen sets open_tables second → (tables : List ParamTable) → AreClosed open_tables tables → AreKept sets tables second × (facts_opened sets open_tables second ≡ facts_of sets tables second)
kept_closed sets [] second is tables are = let none = is.all in absurd (omega (arith, none))
kept_closed sets (f ∷ fs) second is tables are = (closed_kept sets (f ∷ fs) second is tables are f, facts_closed sets (f ∷ fs) second is tables are f f.table)
