-- The names of tables: the word of each kind of variables, the words that otoole has for two of them, and `all`.
use Rattle.std.specs.Prelude.{ℕ, Bool, ◌==◌, List, [], ◌∷◌, codes, Option, Some, option_map, ⊤, if◌then◌else◌}
use Rattle.std.specs.List.{find, list_any, range_with_len}
use Rattle.std.specs.Str.{bytes_eq}
use Rattle.row_core.specs.declared.kind_numbers.TheConstants as k
use Rattle.row_core.specs.declared.kind_numbers.TheConstants.{KIND_COUNT}
use Rattle.row_core.specs.Kinds.{IsKind, word_of_kind}
use Rattle.plan_tables.specs.declared.shown.Table.{Table}
use Rattle.plan_tables.specs.declared.shown.Table.TheVariants.{AllValues, Values}

-- the numbers of the kinds
abbrev pub all_kinds : List ℕ
all_kinds = range_with_len 1 KIND_COUNT

-- what otoole calls the values of a kind, where it is another word
abbrev pub other_names : ℕ → List (List ℕ)
other_names kind =
    if kind == k.TOTAL_DISCOUNTED_COST_BY_TECHNOLOGY then codes "DiscountedCostByTechnology" ∷ []
    else if kind == k.DISCOUNTED_OPERATING_COST then codes "DiscountedOperationalCost" ∷ []
    else []

-- the kind has this name: its own word, or the other one
abbrev pub has_name : List ℕ → ℕ → Bool
has_name name kind = list_any (bytes_eq name) (word_of_kind kind ∷ other_names kind)

-- the kind of this name, if there is one
abbrev pub kind_named : List ℕ → Option ℕ
kind_named name = find (has_name name) all_kinds

-- the table of this name, if there is one
abbrev pub table_named : List ℕ → Option Table
table_named name = if bytes_eq name (codes "all") then Some AllValues else option_map Values (kind_named name)

-- a table of a kind is one of a kind that there is
abbrev pub IsTable : Table → Type 0
IsTable (Values kind) = IsKind kind
IsTable AllValues = ⊤
