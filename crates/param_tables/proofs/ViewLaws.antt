-- What the sets and tables in memory mean, index by index.
use Rattle.param_tables.proofs.Common.{◌≡◌, ℕ, ◌-◌, Bool, true, refl, List, [], get_or, sym, ap, ◌∙◌, Contains, IsSomeAnd, get_or_default, Data, IsUsedParam, given_at, indices_of, value_at, SetLists, is_used, param_at, range_of, subscript_sets, IsValueIn, IsPlaceOf, IsTableFor, IsUsable, entries_of, given_in, table_value, AreKept, data_by, facts_of, ParamTable}
use Rattle.model_sets.specs.declared.params.Use.{Use}
use Rattle.model_sets.specs.declared.params.Use.TheVariants.{Always, WhereStated, Never}
use Rattle.param_tables.proofs.CanonicalLaws.{given_canonical, value_canonical}
use Rattle.param_tables.proofs.DataLaws.{value_by_table}

pub Contains-place : (sets : SetLists) (p : ℕ) (index : List (List ℕ)) (place : ℕ) → IsPlaceOf sets (subscript_sets p) index place → Contains (indices_of sets p) index
Contains-place sets p index place at = (place, at.below, get_or_default (indices_of sets p) place index [] at.below ∙ at.at)

-- what is used in data without a statement for it is used in data with one
used_more : (second : Bool) (use_of : Use) → is_used second use_of ≡ true → is_used true use_of ≡ true
used_more second Always is = refl
used_more second WhereStated is = refl
used_more second Never is = is

-- a parameter that these data use
pub usable : (d : Data) (p : ℕ) → IsUsedParam d p → IsUsable p
usable d p used = (used.0, used_more d.second (param_at p).used used.1)

module _ (sets : SetLists) (tables : List ParamTable) (second : Bool) (kept : AreKept sets tables second) (p : ℕ) (used : IsUsedParam (facts_of sets tables second) p) (index : List (List ℕ)) (place : ℕ) (at : IsPlaceOf sets (subscript_sets p) index place) where
  has_index : Contains (indices_of sets p) index
  has_index = Contains-place sets p index place at

  table_of : (table : ParamTable) → IsTableFor (data_by sets tables second) p (get_or tables (p - 1) table)
  table_of = kept.tabled.each p (usable (data_by sets tables second) p used)

  pub value_kept : (table : ParamTable) → table ≡ get_or tables (p - 1) table → value_at (facts_of sets tables second) p index ≡ table_value p table place
  value_kept table is =
      value_canonical (data_by sets tables second) p used index has_index
      ∙ ap (value_at (data_by sets tables second) p) (sym at.at)
      ∙ value_by_table (data_by sets tables second) p (get_or tables (p - 1) table) (table_of table) place at.below
      ∙ ap (λ t. table_value p t place) (sym is)

  pub given_kept : (table : ParamTable) → table ≡ get_or tables (p - 1) table → given_at (facts_of sets tables second) p index ≡ given_in (entries_of table) place
  given_kept table is =
      given_canonical (data_by sets tables second) p index has_index used
      ∙ ap (given_at (data_by sets tables second) p) (sym at.at)
      ∙ (table_of table).given place at.below
      ∙ ap (λ t. given_in (entries_of t) place) (sym is)

  pub value_complete : IsSomeAnd (value_at (facts_of sets tables second) p index) (IsValueIn (range_of p))
  value_complete = kept.complete.values p used index has_index
