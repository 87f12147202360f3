-- The table of a statement, and the tables of all parameters, statement by statement.
use Rattle.param_tables.proofs.Common.{◌≡◌, ◌≢◌, ℕ, true, false, ◌+◌, ◌-◌, ◌<◌, ◌≤◌, List, [], ◌∷◌, ◌++◌, Option, None, Some, length, map, nat_eq, get_or, set, take, refl, sym, ap, ◌∙◌, subst, inl, inr, arith, All, IsDistinct, IsStrictlyIncreasing, cases_eq, cases_lt, false≢true, get_or_default, get_or-set_same, get_or-set_other, length-set, take_more, slice_get-get_or, default_of, given_at, indices_of, SetLists, is_used, param_at, param_count, data_of, in_turn, Refusal, value_refusal, value_refusals, ParamBlock, AreGiven, AreTablesFor, IsUsable, IsTableFor, IsTableOf, entries_of, given_in, IsStopDue, refusal_told, Stop, ParamTable}
use Rattle.std.specs.Prelude.{ℤ, pos, Result, Err, IfErr, if◌then◌else◌}
use Rattle.param_tables.specs.declared.fault.Stop.TheVariants as stop
use Rattle.param_tables.proofs.DataLaws.{default_of-here, default_of-other, given_at-here, given_at-other, none_before}
use Rattle.param_tables.proofs.EntryLaws.{given_at_place}

some_none : (v : ℤ) → Some v ≡ None → ⊥
some_none v e = cc

-- ---- one statement

pub used_refusals : (sets : SetLists) (s : ParamBlock) → is_used true (param_at s.param).used ≡ true → value_refusals sets s ≡ in_turn (value_refusal sets s.param) s.values
used_refusals sets s used = ap (λ b. if b then in_turn (value_refusal sets s.param) s.values else []) used

pub unused_refusals : (sets : SetLists) (s : ParamBlock) → is_used true (param_at s.param).used ≡ false → value_refusals sets s ≡ []
unused_refusals sets s unused = ap (λ b. if b then in_turn (value_refusal sets s.param) s.values else []) unused

pub table_of_given : (sets : SetLists) (s : ParamBlock) (table : ParamTable) (found : ℕ → Option ℤ) → table.default ≡ s.default → IsStrictlyIncreasing table.places.items × (length table.values.items ≡ length table.places.items) → ((place : ℕ) → given_in (entries_of table) place ≡ found place) → AreGiven sets s.param s.values found → IsTableOf sets s table
table_of_given sets s table found same parts finds given = record {
  shape = record {
    ascending = parts.0;
    long = parts.1;
    below = λ k d inside. below k d inside;
  };
  default = same;
  given = λ place inside. finds place ∙ given.inside place inside;
}
  where
    below : All (λ place. place < length (indices_of sets s.param)) table.places.items
    below k d inside = elim (cases_lt (get_or table.places.items k d) (length (indices_of sets s.param))) [
      | inl less ↦ less
      | inr past ↦
          let at : get_or table.places.items k d ≡ get_or table.places.items k 0 = get_or_default table.places.items k d 0 inside in
          let short : k < length table.values.items = omega (arith, parts.1) in
          let some : given_in (entries_of table) (get_or table.places.items k 0) ≡ Some (get_or table.values.items k (pos 0)) = given_at_place table.places.items table.values.items k parts.0 parts.1 inside ∙ slice_get-get_or table.values.items k (pos 0) short in
          let none : given_in (entries_of table) (get_or table.places.items k 0) ≡ None = finds (get_or table.places.items k 0) ∙ given.outside (get_or table.places.items k 0) (omega arith) in
          absurd (some_none (get_or table.values.items k (pos 0)) (sym some ∙ none))
    ]

-- ---- all parameters

module _ (sets : SetLists) where
  -- a statement on another parameter
  table_stays : (xs : List ParamBlock) (s : ParamBlock) (p : ℕ) (table : ParamTable) → (s.param ≢ p) → IsTableFor (data_of sets xs) p table → IsTableFor (data_of sets (xs ++ s ∷ [])) p table
  table_stays xs s p table other for = record {
    shape = for.shape;
    given = λ place below. given_at-other sets xs s p other (get_or (indices_of sets p) place []) ∙ for.given place below;
    default = default_of-other sets xs s p other ∙ for.default;
  }

  -- the first statement on the parameter
  table_comes : (xs : List ParamBlock) (s : ParamBlock) (table : ParamTable) → ((index : List (List ℕ)) → given_at (data_of sets xs) s.param index ≡ None) × (default_of (data_of sets xs) s.param ≡ None) → IsTableOf sets s table → IsTableFor (data_of sets (xs ++ s ∷ [])) s.param table
  table_comes xs s table none of = record {
    shape = of.shape;
    given = λ place below. given_at-here sets xs s s.param refl none.0 (get_or (indices_of sets s.param) place []) ∙ sym (of.given place below);
    default = default_of-here sets xs s s.param refl none.1 ∙ sym of.default;
  }

  module _ (all : List ParamBlock) (i : ℕ) (s : ParamBlock) (below : i < length all) (at : get_or all i s ≡ s) (tables : List ParamTable) (so_far : AreTablesFor (data_of sets (take i all)) tables) where
    next : take (i + 1) all ≡ take i all ++ s ∷ []
    next = take_more all i s below ∙ ap (λ t. take i all ++ t ∷ []) at

    pub tables_unused : is_used true (param_at s.param).used ≡ false → AreTablesFor (data_of sets (take (i + 1) all)) tables
    tables_unused unused = subst (λ xs. AreTablesFor (data_of sets xs) tables) (sym next) (record {
      all = so_far.all;
      each = λ p used e. table_stays (take i all) s p (get_or tables (p - 1) e) (λ same. false≢true (sym unused ∙ ap (λ n. is_used true (param_at n).used) same ∙ used.1)) (so_far.each p used e);
    })

    pub tables_more : IsDistinct nat_eq (map (λ t. t.param) all) → IsUsable s.param → (table : ParamTable) → IsTableOf sets s table → AreTablesFor (data_of sets (take (i + 1) all)) (set tables (s.param - 1) table)
    tables_more distinct used table of = subst (λ xs. AreTablesFor (data_of sets xs) (set tables (s.param - 1) table)) (sym next) (record {
      all = length-set tables (s.param - 1) table ∙ so_far.all;
      each = each;
    })
      where
        low : 1 ≤ s.param
        low = used.0.0

        high : s.param ≤ param_count
        high = used.0.1

        long : length tables ≡ param_count
        long = so_far.all

        inside : s.param - 1 < length tables
        inside = let a = low in let b = high in let c = long in omega arith

        each : (p : ℕ) → IsUsable p → (e : ParamTable) → IsTableFor (data_of sets (take i all ++ s ∷ [])) p (get_or (set tables (s.param - 1) table) (p - 1) e)
        each p is e = elim (cases_eq s.param p) [
          | inl same ↦
              let now : get_or (set tables (s.param - 1) table) (s.param - 1) e ≡ table = get_or-set_same tables (s.param - 1) table e inside in
              let here = table_comes (take i all) s table (none_before sets all i s distinct below at) of in
              subst (λ q. IsTableFor (data_of sets (take i all ++ s ∷ [])) q (get_or (set tables (s.param - 1) table) (q - 1) e)) same (subst (IsTableFor (data_of sets (take i all ++ s ∷ [])) s.param) (sym now) here)
          | inr other ↦
              let a = low in
              let first = is.0.0 in
              let apart : (p - 1) ≢ (s.param - 1) = λ h. other (omega arith) in
              subst (IsTableFor (data_of sets (take i all ++ s ∷ [])) p) (sym (get_or-set_other tables (s.param - 1) (p - 1) table e apart)) (table_stays (take i all) s p (get_or tables (p - 1) e) other (so_far.each p is e))
        ]

-- ---- nothing is given

-- the table of a parameter of which nothing is given
pub record IsEmptyTable (table : ParamTable) : Type 0 where
  pub default : table.default ≡ None
  pub places : table.places.items ≡ []
  pub values : table.values.items ≡ []

-- what is said of the stop of a `?` is said of the error that it hands on
pub stop_handed : (r : Result (Unit {0}) Stop) (y why : Stop) (P : Stop → Type 0) → r ≡ Err y → y ≡ why → P why → IfErr r P
stop_handed r y why P e f p = subst (λ s. IfErr s P) (sym e) (subst P (sym f) p)

-- a stop that the values of one statement are the cause of
pub stop_first : (o p : Option Refusal) (sets : SetLists) (why : Stop) → ((r : Refusal) → o ≡ Some r → p ≡ Some r) → IsStopDue o sets why → IsStopDue p sets why
stop_first o p sets (stop.Fault fault) first due = (first (refusal_told sets fault) due.0, due.1)
stop_first o p sets stop.Memory first due = tt
