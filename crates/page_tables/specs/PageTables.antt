-- The tables that a page is drawn from, each after a line with its name.
use Rattle.std.specs.Prelude.{ℕ, List, ◌++◌, codes, ⊤}
use Rattle.std.specs.List.{AllByRecursion, flat_map}
use Rattle.exact_num.specs.Rational.{Rational}
use Rattle.model_sets.specs.Data.{Data}
use Rattle.model_sets.specs.Members.{SetLists}
use Rattle.model_sets.specs.Params.{param_word}
use Rattle.row_core.specs.declared.Row.{Row}
use Rattle.row_core.specs.declared.RowName.{RowName}
use Rattle.row_core.specs.declared.Var.{Var}
use Rattle.row_core.specs.NameTexts.{VariableIsWithin}
use Rattle.proof_files.specs.declared.proof.Proof.{Proof}
use Rattle.proof_files.specs.declared.proof.Proof.TheVariants.{Descent, Optimum, Refutation}
use Rattle.plan_tables.specs.declared.shown.NumberForm.{NumberForm}
use Rattle.plan_tables.specs.ValueTables.{named_text}
use Rattle.price_tables.specs.declared.shown.PriceTable.{PriceTable}
use Rattle.price_tables.specs.declared.shown.PriceTable.TheVariants.{Fuels, Limits}
use Rattle.price_tables.specs.PriceTables.{price_text}
use Rattle.data_tables.specs.declared.names.DataTable.{DataTable}
use Rattle.data_tables.specs.declared.names.DataTable.TheVariants.{Param, Sets, Worth}
use Rattle.data_tables.specs.DataTexts.{data_text}
use Rattle.page_tables.specs.declared.lists.TheConstants.{DIRECTION_KINDS, PAGE_DATA, PAGE_KINDS, PAGE_PRICES}

-- the name of a table of the data
abbrev pub data_word : DataTable → List ℕ
data_word Sets = codes "sets"
data_word Worth = codes "worth"
data_word (Param param) = param_word param

-- the name of a table of prices
abbrev pub price_word : PriceTable → List ℕ
price_word Limits = codes "limits"
price_word Fuels = codes "prices"

abbrev pub named_data : NumberForm → ℕ → Data → DataTable → List ℕ
named_data form places d table = (data_word table ++ codes "\n") ++ data_text form places d table

abbrev pub named_prices : NumberForm → SetLists → List Row → List (RowName × Rational) → PriceTable → List ℕ
named_prices form sets rows multipliers table = (price_word table ++ codes "\n") ++ price_text sets form rows multipliers table

-- these tables of the data
abbrev pub data_texts : NumberForm → ℕ → Data → List DataTable → List ℕ
data_texts form places d tables = flat_map (named_data form places d) tables

-- the tables of these kinds of variables
abbrev pub kinds_text : NumberForm → SetLists → List (Var × Rational) → List ℕ → List ℕ
kinds_text form sets plan kinds = flat_map (named_text sets form plan) kinds

-- these tables of prices
abbrev pub price_texts : NumberForm → SetLists → List Row → List (RowName × Rational) → List PriceTable → List ℕ
price_texts form sets rows multipliers tables = flat_map (named_prices form sets rows multipliers) tables

-- The tables of a plan and of its multipliers over rows of the data.
unfoldable pub plan_tables : NumberForm → ℕ → Data → List Row → List (Var × Rational) → List (RowName × Rational) → List ℕ
plan_tables form places d rows plan multipliers =
    data_texts form places d PAGE_DATA ++ kinds_text form d.sets plan PAGE_KINDS ++ price_texts form d.sets rows multipliers PAGE_PRICES

-- Those of a direction along which the cost falls without end.
unfoldable pub direction_tables : NumberForm → ℕ → Data → List (Var × Rational) → List ℕ
direction_tables form places d direction = named_data form places d Sets ++ kinds_text form d.sets direction DIRECTION_KINDS

-- That of data without a plan.
unfoldable pub no_plan_tables : NumberForm → ℕ → Data → List ℕ
no_plan_tables form places d = named_data form places d Sets

-- ---- of a proof

-- each subscript of a variable of the values that are shown, those of an optimum's plan or of a direction, is the position of a member
abbrev pub HasValuesWithin : SetLists → Proof → Type 0
HasValuesWithin sets (Optimum plan multipliers) = AllByRecursion (λ e. VariableIsWithin sets e.0) plan
HasValuesWithin sets (Refutation multipliers) = ⊤
HasValuesWithin sets (Descent plan direction) = AllByRecursion (λ e. VariableIsWithin sets e.0) direction

-- The tables of what a proof over rows of the data shows.
abbrev pub proof_tables : NumberForm → ℕ → Data → List Row → Proof → List ℕ
proof_tables form places d rows (Optimum plan multipliers) = plan_tables form places d rows plan multipliers
proof_tables form places d rows (Refutation multipliers) = no_plan_tables form places d
proof_tables form places d rows (Descent plan direction) = direction_tables form places d direction
