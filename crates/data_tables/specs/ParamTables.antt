-- The table of a parameter: its header, and a record for each index at which its value says something, with the columns of otoole's file
-- of the parameter (https://otoole.readthedocs.io).
use Rattle.std.specs.Prelude.{ℕ, ◌==◌, pos, negsuc, Bool, true, false, ◌&&◌, ◌||◌, not, int_lt, List, [], ◌∷◌, ◌++◌, map, filter, codes, if◌then◌else◌}
use Rattle.std.specs.List.{flat_map}
use Rattle.std.specs.Ordering.{int_eq}
use Rattle.exact_num.specs.Rational.{Rational}
use Rattle.model_sets.specs.declared.param_numbers.TheConstants.{ANNUAL_EMISSION_LIMIT, MODEL_PERIOD_EMISSION_LIMIT, TOTAL_ANNUAL_MAX_CAPACITY, TOTAL_ANNUAL_MAX_CAPACITY_INVESTMENT, TOTAL_TECHNOLOGY_ANNUAL_ACTIVITY_UPPER_LIMIT, TOTAL_TECHNOLOGY_MODEL_PERIOD_ACTIVITY_UPPER_LIMIT}
use Rattle.model_sets.specs.Data.{Data}
use Rattle.model_sets.specs.Members.{SetLists}
use Rattle.model_sets.specs.Names.{region, set_word}
use Rattle.model_sets.specs.Params.{subscript_sets}
use Rattle.param_tables.specs.Built.{amount_at}
use Rattle.param_tables.specs.Positions.{names_at}
use Rattle.param_tables.specs.Ratios.{positions_in}
use Rattle.plan_files.specs.Files.{Fields}
use Rattle.plan_files.specs.Texts.{records_text}
use Rattle.plan_tables.specs.declared.shown.NumberForm.{NumberForm}
use Rattle.plan_tables.specs.ValueTables.{number_text}

-- ---- columns

-- the head of the column of a subscript, the first of its parameter or a later one: the set that it runs over; the other region of a trade route is `_REGION`
abbrev pub column_word : (is_later : Bool) → ℕ → List ℕ
column_word is_later k = if is_later && k == region then codes "_REGION" else set_word k

-- the heads of the columns of these sets
abbrev pub column_words : (is_later : Bool) → List ℕ → Fields
column_words is_later [] = []
column_words is_later (k ∷ ks) = column_word is_later k ∷ column_words true ks

-- the first record of a table
abbrev pub param_header : ℕ → Fields
param_header param = column_words false (subscript_sets param) ++ codes "VALUE" ∷ []

-- ---- values

-- the limits of which any number but -1 is one
abbrev pub has_minus_one : ℕ → Bool
has_minus_one param =
    param == TOTAL_ANNUAL_MAX_CAPACITY || param == TOTAL_ANNUAL_MAX_CAPACITY_INVESTMENT || param == TOTAL_TECHNOLOGY_ANNUAL_ACTIVITY_UPPER_LIMIT
    || param == ANNUAL_EMISSION_LIMIT || param == MODEL_PERIOD_EMISSION_LIMIT

abbrev pub is_minus_one : Rational → Bool
is_minus_one x = int_eq x.top (negsuc 0) && int_eq x.bottom (pos 1)

-- the value says something: of TotalTechnologyModelPeriodActivityUpperLimit it is above 0, of the other upper limits it isn't -1, and of all else it isn't 0
abbrev pub says : ℕ → Rational → Bool
says param x =
    if param == TOTAL_TECHNOLOGY_MODEL_PERIOD_ACTIVITY_UPPER_LIMIT then int_lt (pos 0) x.top
    else if has_minus_one param then not (is_minus_one x)
    else not (int_eq x.top (pos 0))

-- ---- records

-- all indices over these sets, by the positions of their members, the last subscript running fastest
abbrev pub positions_over : SetLists → List ℕ → List (List ℕ)
positions_over sets [] = [] ∷ []
positions_over sets (k ∷ ks) = flat_map (λ i. map (λ rest. i ∷ rest) (positions_over sets ks)) (positions_in sets k)

-- the record of an index: its members, and the value there
abbrev pub cell_record : NumberForm → Data → ℕ → List ℕ → Fields
cell_record form d param at = names_at d.sets param at ++ number_text form (amount_at d param at) ∷ []

-- of these indices the records of those at which the value says something
abbrev pub cell_records : NumberForm → Data → ℕ → List (List ℕ) → List Fields
cell_records form d param indices = map (cell_record form d param) (filter (λ at. says param (amount_at d param at)) indices)

-- The text of the table.
abbrev pub param_text : NumberForm → Data → ℕ → List ℕ
param_text form d param = records_text (param_header param ∷ cell_records form d param (positions_over d.sets (subscript_sets param)))
