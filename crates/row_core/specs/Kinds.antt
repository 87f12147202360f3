-- The 48 kinds of variables of the OSeMOSYS long code, in the order in which its equations define them after the three that are chosen: RateOfActivity, NewCapacity and Trade.
use Rattle.std.specs.Prelude.{ℕ, ◌-◌, ◌≤◌, Bool, false, List, [], map, nat_eq, slice_index_or}
use Rattle.std.specs.List.{list_any}
use Rattle.row_core.specs.declared.kind_numbers.TheConstants.{KIND_COUNT}
use Rattle.row_core.specs.declared.kinds.TheConstants.{KINDS}

-- a kind of variable: its word, its subscripts, and whether it may be below 0
pub record Kind : Type 0 where
  pub word : List ℕ
  pub subscripts : List ℕ
  pub free : Bool

-- the kinds, from number 1: the one table that the code has too
abbrev pub kinds : List Kind
kinds = map (λ (word, subscripts, free). record { word = word.now; subscripts = subscripts.now; free = free }) KINDS

-- no kind
abbrev pub no_kind : Kind
no_kind = record { word = []; subscripts = []; free = false }

-- the number is that of a kind
abbrev pub IsKind : ℕ → Type 0
IsKind kind = (1 ≤ kind) × (kind ≤ KIND_COUNT)

-- the kind of a number
abbrev pub kind_at : ℕ → Kind
kind_at kind = slice_index_or kinds (kind - 1) no_kind

-- the word of a kind, as names of variables begin
abbrev pub word_of_kind : ℕ → List ℕ
word_of_kind kind = (kind_at kind).word

-- the kind has the subscript at this place
abbrev pub kind_has : ℕ → ℕ → Bool
kind_has kind place = list_any (nat_eq place) (kind_at kind).subscripts

-- variables of the kind may be below 0
abbrev pub kind_is_free : ℕ → Bool
kind_is_free kind = (kind_at kind).free
