-- The tables of a report: for each kind of variable, the values that aren't 0.
use Rattle.std.specs.Prelude.{ℕ, Bool, List, [], ◌∷◌, ◌++◌, map, filter, not, codes, ◌==◌, if◌then◌else◌}
use Rattle.std.specs.List.{flat_map, list_any}
use Rattle.exact_num.specs.Rational.{Rational}
use Rattle.model_sets.specs.Members.{SetLists}
use Rattle.row_core.specs.declared.Index.{Index}
use Rattle.row_core.specs.declared.Row.{Row}
use Rattle.row_core.specs.declared.RowName.{RowName}
use Rattle.row_core.specs.declared.Var.{Var}
use Rattle.row_core.specs.declared.kind_numbers.TheConstants as k
use Rattle.row_core.specs.Equations.{equation_has}
use Rattle.row_core.specs.Kinds.{kind_has, word_of_kind}
use Rattle.row_core.specs.NameTexts.{member}
use Rattle.row_core.specs.Numbers.{is_zero}
use Rattle.row_core.specs.Order.{var_cmp}
use Rattle.row_core.specs.Plans.{value_in}
use Rattle.scaled_decimals.specs.PrintedFraction.{fraction_text}
use Rattle.scaled_decimals.specs.PrintedPlaces.{places_text}
use Rattle.plan_files.specs.Files.{Fields}
use Rattle.plan_files.specs.Records.{places}
use Rattle.plan_files.specs.Texts.{records_text}
use Rattle.result_tables.specs.Lines.{heading}
use Rattle.result_tables.specs.Prices.{prices}

-- a table: its name, and its records
pub record Table : Type 0 where
  pub name : List ℕ
  pub records : List Fields

-- its heading, and its records as CSV
abbrev pub table_text : Table → List ℕ
table_text table = heading table.name ++ records_text table.records

-- ---- records

-- the members of those subscripts that there are, in their order
abbrev pub members_of : SetLists → (ℕ → Bool) → Index → Fields
members_of sets has i = flat_map (λ place. if has place then member sets i place ∷ [] else []) places

-- a value as a fraction, and rounded to six decimal places
abbrev pub value_fields : Rational → Fields
value_fields x = fraction_text x ∷ places_text x ∷ []

-- the members of a variable, or of a row, and a value
abbrev pub quantity_record : SetLists → Var × Rational → Fields
quantity_record sets e = members_of sets (kind_has e.0.kind) e.0.index ++ value_fields e.1

abbrev pub price_record : SetLists → RowName × Rational → Fields
price_record sets e = members_of sets (equation_has e.0.eq) e.0.index ++ value_fields e.1

-- the word of a variable, its members, and a value
abbrev pub named_record : SetLists → Var × Rational → Fields
named_record sets e = word_of_kind e.0.kind ∷ quantity_record sets e

-- ---- tables

-- the values that aren't 0
abbrev pub nonzero : {K : Type 0} → List (K × Rational) → List (K × Rational)
nonzero values = filter (λ e. not (is_zero e.1.top)) values

-- the variables of a kind, in their order, each with its value in a plan
abbrev pub of_kind : ℕ → List Var → List (Var × Rational) → List (Var × Rational)
of_kind kind vars plan = map (λ v. (v, value_in var_cmp plan v)) (filter (λ v. v.kind == kind) vars)

-- the table of a kind
abbrev pub kind_table : SetLists → List Var → List (Var × Rational) → ℕ → Table
kind_table sets vars plan kind =
    record { name = word_of_kind kind; records = map (quantity_record sets) (nonzero (of_kind kind vars plan)) }

-- the table of prices
abbrev pub price_table : SetLists → List Row → List (RowName × Rational) → Table
price_table sets rows multipliers =
    record { name = codes "FuelPrice"; records = map (price_record sets) (nonzero (prices rows multipliers)) }

-- the kinds that have a table, in its order
abbrev pub table_kinds : List ℕ
table_kinds =
    k.NEW_CAPACITY ∷ k.TOTAL_CAPACITY_ANNUAL ∷ k.TOTAL_TECHNOLOGY_ANNUAL_ACTIVITY ∷ k.PRODUCTION_BY_TECHNOLOGY_ANNUAL ∷ k.USE_BY_TECHNOLOGY_ANNUAL
    ∷ k.TRADE_ANNUAL ∷ k.ANNUAL_EMISSIONS ∷ k.DISCOUNTED_CAPITAL_INVESTMENT ∷ k.DISCOUNTED_OPERATING_COST ∷ k.DISCOUNTED_TECHNOLOGY_EMISSIONS_PENALTY
    ∷ k.DISCOUNTED_SALVAGE_VALUE ∷ k.TOTAL_DISCOUNTED_COST ∷ []

-- all tables of a plan and of multipliers
abbrev pub all_tables : SetLists → List Var → List (Var × Rational) → List Row → List (RowName × Rational) → List Table
all_tables sets vars plan rows multipliers = map (kind_table sets vars plan) table_kinds ++ price_table sets rows multipliers ∷ []

-- ---- directions

-- the kinds of variables that are chosen: all others follow from them
abbrev pub chosen_kinds : List ℕ
chosen_kinds = k.RATE_OF_ACTIVITY ∷ k.NEW_CAPACITY ∷ k.TRADE ∷ []

abbrev pub is_chosen : Var → Bool
is_chosen v = list_any (λ kind. v.kind == kind) chosen_kinds

-- the table of a direction, a value for each variable: of the chosen ones, in their order, those that aren't 0
abbrev pub direction_table : SetLists → List (Var × Rational) → Table
direction_table sets direction =
    record { name = codes "Direction"; records = map (named_record sets) (nonzero (filter (λ e. is_chosen e.0) direction)) }
