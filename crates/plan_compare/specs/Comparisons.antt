-- The text of a comparison.
use Rattle.std.specs.Prelude.{ℕ, Bool, true, false, ◌==◌, not, List, [], ◌∷◌, ◌++◌, length, map, filter, codes, decimal, if◌then◌else◌}
use Rattle.std.specs.List.{flat_map}
use Rattle.exact_num.specs.Value.{value_of}
use Rattle.model_sets.specs.Members.{SetLists}
use Rattle.row_core.specs.declared.kind_numbers.TheConstants as k
use Rattle.row_core.specs.Kinds.{word_of_kind}
use Rattle.row_core.specs.NameTexts.{member}
use Rattle.plan_files.specs.Files.{Fields}
use Rattle.plan_files.specs.Records.{places}
use Rattle.plan_files.specs.Texts.{records_text}
use Rattle.plan_compare.specs.declared.change.Change.{Change}
use Rattle.plan_compare.specs.declared.scenario.Scenario.{Scenario}
use Rattle.plan_compare.specs.Amounts.{difference, field_of}
use Rattle.plan_compare.specs.Changes.{changes}
use Rattle.plan_compare.specs.Counterparts.{counts}
use Rattle.plan_compare.specs.GreatestFirst.{greatest_first, size_of_change}
use Rattle.plan_compare.specs.Heads.{head_text}
use Rattle.plan_compare.specs.Members.{only_here}
use Rattle.plan_compare.specs.Scenarios.{Side, side_of}
use Rattle.plan_compare.specs.Sums.{sums}

-- ---- records

-- the members of those subscripts that count, by the sets of the plan that has the variable
abbrev pub members_of : Bool → ℕ → Side → Side → Change → Fields
members_of by_year kind first second change =
    map (member (if change.in_second then second.sets else first.sets) change.var.index) (filter (counts by_year kind) places)

-- these, both numbers, and the second less the first
abbrev pub change_record : Bool → ℕ → Side → Side → Change → Fields
change_record by_year kind first second change =
    members_of by_year kind first second change ++ field_of change.one ∷ field_of change.two ∷ field_of (difference change.one change.two) ∷ []

-- ---- tables

-- those that differ, and how many don't
abbrev pub differing : List Change → List Change
differing all = filter (λ change. change.differs) all

abbrev pub same_count : List Change → ℕ
same_count all = length (filter (λ change. not change.differs) all)

-- a word and a number
abbrev pub counted : List ℕ → ℕ → List ℕ
counted word n = word ++ decimal n

-- a line with a word, a name, how many differ and how many don't
abbrev pub heading_line : List ℕ → List ℕ → ℕ → ℕ → List ℕ
heading_line word name changed same = word ++ codes " " ++ name ++ counted (codes " changed ") changed ++ counted (codes " same ") same ++ codes "\n"

-- values are a table, and sums are sums
abbrev pub section_word : Bool → List ℕ
section_word by_year = if by_year then codes "table" else codes "sums"

-- this line of the kind, and a record for each that differs, the greatest difference first
abbrev pub section_text : Bool → ℕ → Side → Side → List Change → List ℕ
section_text by_year kind first second all =
    heading_line (section_word by_year) (word_of_kind kind) (length (differing all)) (same_count all)
    ++ records_text (map (change_record by_year kind first second) (greatest_first size_of_change (differing all)))

-- the kinds of a report's tables, in its order
abbrev pub compared_kinds : List ℕ
compared_kinds =
    k.NEW_CAPACITY ∷ k.TOTAL_CAPACITY_ANNUAL ∷ k.TOTAL_TECHNOLOGY_ANNUAL_ACTIVITY ∷ k.PRODUCTION_BY_TECHNOLOGY_ANNUAL ∷ k.USE_BY_TECHNOLOGY_ANNUAL
    ∷ k.TRADE_ANNUAL ∷ k.ANNUAL_EMISSIONS ∷ k.DISCOUNTED_CAPITAL_INVESTMENT ∷ k.DISCOUNTED_OPERATING_COST ∷ k.DISCOUNTED_TECHNOLOGY_EMISSIONS_PENALTY
    ∷ k.DISCOUNTED_SALVAGE_VALUE ∷ k.TOTAL_DISCOUNTED_COST ∷ []

-- years may be added up, but not of what stands: a capacity
abbrev pub has_sums : ℕ → Bool
has_sums kind = not (kind == k.TOTAL_CAPACITY_ANNUAL)

abbrev pub sums_text : ℕ → Side → Side → List ℕ
sums_text kind first second = if has_sums kind then section_text false kind first second (sums kind first second) else []

-- the table of a kind, and its sums
abbrev pub kind_text : Side → Side → ℕ → List ℕ
kind_text first second kind = section_text true kind first second (changes kind first second) ++ sums_text kind first second

-- ---- the whole

-- a line, and the members that the other file doesn't have
abbrev pub only_text : List ℕ → SetLists → SetLists → List ℕ
only_text line here there = line ++ records_text (only_here here there)

-- the members that only one of the files has
abbrev pub members_text : SetLists → SetLists → List ℕ
members_text first second = only_text (codes "only first\n") first second ++ only_text (codes "only second\n") second first

-- the first lines of a comparison
abbrev pub head_of : Scenario → Scenario → List ℕ
head_of first second = head_text (value_of first.cost) (value_of first.bound) (value_of second.cost) (value_of second.bound)

-- its text
abbrev pub compared_text : Scenario → Scenario → List ℕ
compared_text first second =
    head_of first second
    ++ members_text first.sets.now second.sets.now
    ++ flat_map (kind_text (side_of first) (side_of second)) compared_kinds
    ++ codes "end\n"
