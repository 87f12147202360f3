-- The names of variables and rows in texts: a word, and in brackets the members that the subscripts stand for, with commas between them.
use Rattle.std.specs.Prelude.{◌≡◌, ℕ, ◌<◌, List, [], ◌∷◌, ◌++◌, map, codes, length, slice_index_or}
use Rattle.std.specs.List.{join_with_byte, AllByRecursion}
use Rattle.model_sets.specs.Members.{SetLists, members}
use Rattle.model_sets.specs.Names.{region, technology, fuel, emission, mode, timeslice, year}
use Rattle.row_core.specs.declared.Index.{Index}
use Rattle.row_core.specs.declared.Var.{Var}
use Rattle.row_core.specs.declared.RowName.{RowName}
use Rattle.row_core.specs.Kinds.{kind_at, word_of_kind}
use Rattle.row_core.specs.Equations.{equation_at, word_of_equation}

-- the sets over which the subscripts run, in the order of the fields of `Index`
abbrev pub subscript_sets : List ℕ
subscript_sets = region ∷ region ∷ timeslice ∷ technology ∷ fuel ∷ emission ∷ mode ∷ year ∷ []

-- the set over which the subscript at a place runs
abbrev pub set_of : ℕ → ℕ
set_of place = slice_index_or subscript_sets place year

-- the subscripts in the order of their places
abbrev pub positions : Index → List ℕ
positions i = i.region ∷ i.other ∷ i.slice ∷ i.tech ∷ i.fuel ∷ i.emission ∷ i.mode ∷ i.year ∷ []

-- the subscript at a place, a position in its set
abbrev pub position_at : Index → ℕ → ℕ
position_at i place = slice_index_or (positions i) place 0

-- the name of the member that the subscript at a place stands for
abbrev pub member : SetLists → Index → ℕ → List ℕ
member sets i place = slice_index_or (members sets (set_of place)) (position_at i place) []

-- a word, and in brackets the members of the subscripts at these places, with commas between them
abbrev pub full_name : SetLists → List ℕ → List ℕ → Index → List ℕ
full_name sets word places i = word ++ codes "[" ++ join_with_byte 44 (map (member sets i) places) ++ codes "]"

-- the name of a variable
abbrev pub variable_name : SetLists → Var → List ℕ
variable_name sets v = full_name sets (word_of_kind v.kind) (kind_at v.kind).subscripts v.index

-- the name of a row
abbrev pub row_name : SetLists → RowName → List ℕ
row_name sets n = full_name sets (word_of_equation n.eq) (equation_at n.eq).subscripts n.index

-- the subscript at a place is the position of a member
abbrev pub IsWithin : SetLists → Index → ℕ → Type 0
IsWithin sets i place = position_at i place < length (members sets (set_of place))

-- each subscript that the variable has is the position of a member
abbrev pub VariableIsWithin : SetLists → Var → Type 0
VariableIsWithin sets v = AllByRecursion (IsWithin sets v.index) (kind_at v.kind).subscripts

-- each subscript that the row's equation has is the position of a member
abbrev pub RowNameIsWithin : SetLists → RowName → Type 0
RowNameIsWithin sets n = AllByRecursion (IsWithin sets n.index) (equation_at n.eq).subscripts

-- the longer text begins with the shorter one
pub record Extends (old new : List ℕ) : Type 0 where
  pub added : List ℕ
  pub whole : new ≡ old ++ added
