-- The tables of a plan: of each kind of variables a record for each value that isn't 0, in the order of the variables.
use Rattle.std.specs.Prelude.{ℕ, Bool, ◌==◌, ◌&&◌, not, List, [], ◌∷◌, ◌++◌, map, filter, codes}
use Rattle.std.specs.List.{flat_map}
use Rattle.exact_num.specs.Rational.{Rational}
use Rattle.model_sets.specs.Members.{SetLists}
use Rattle.row_core.specs.declared.Var.{Var}
use Rattle.row_core.specs.Kinds.{word_of_kind}
use Rattle.row_core.specs.NameTexts.{member}
use Rattle.row_core.specs.Numbers.{is_zero}
use Rattle.scaled_decimals.specs.PrintedFraction.{fraction_text}
use Rattle.scaled_decimals.specs.PrintedPlaces.{places_text}
use Rattle.plan_files.specs.Files.{Fields}
use Rattle.plan_files.specs.Texts.{records_text}
use Rattle.plan_tables.specs.declared.shown.NumberForm.{NumberForm}
use Rattle.plan_tables.specs.declared.shown.NumberForm.TheVariants.{Decimals, Fractions}
use Rattle.plan_tables.specs.declared.shown.Table.{Table}
use Rattle.plan_tables.specs.declared.shown.Table.TheVariants.{AllValues, Values}
use Rattle.plan_tables.specs.Columns.{columns, header_of}
use Rattle.plan_tables.specs.TableNames.{all_kinds}

-- a value rounded to six decimal places, or as a fraction
abbrev pub number_text : NumberForm → Rational → List ℕ
number_text Decimals x = places_text x
number_text Fractions x = fraction_text x

-- the record of a value: the members that its subscripts stand for, in the order of these columns, and the value
abbrev pub value_record : SetLists → NumberForm → List ℕ → Var × Rational → Fields
value_record sets form places e = map (member sets e.0.index) places ++ number_text form e.1 ∷ []

-- a value is one of the kind, and isn't 0
abbrev pub is_shown : ℕ → Var × Rational → Bool
is_shown kind e = e.0.kind == kind && not (is_zero e.1.top)

-- the records of the values of a kind that aren't 0, in the order of a plan
abbrev pub value_records : SetLists → NumberForm → List (Var × Rational) → ℕ → List Fields
value_records sets form plan kind = map (value_record sets form (columns kind)) (filter (is_shown kind) plan)

-- the table of a kind: its header, and its records
abbrev pub kind_text : SetLists → NumberForm → List (Var × Rational) → ℕ → List ℕ
kind_text sets form plan kind = records_text (header_of (columns kind) ∷ value_records sets form plan kind)

-- the same after a line with the kind's name
abbrev pub named_text : SetLists → NumberForm → List (Var × Rational) → ℕ → List ℕ
named_text sets form plan kind = (word_of_kind kind ++ codes "\n") ++ kind_text sets form plan kind

-- The text of a table of a plan.
abbrev pub table_text : SetLists → NumberForm → List (Var × Rational) → Table → List ℕ
table_text sets form plan (Values kind) = kind_text sets form plan kind
table_text sets form plan AllValues = flat_map (named_text sets form plan) all_kinds
