-- Why the parameters that statements give are refused: every refusal, in the order in which they are looked for.
use Rattle.std.specs.Prelude.{ℕ, ℤ, Bool, true, not, List, [], ◌∷◌, ◌++◌, length, nat_lt, Option, None, Some, if◌then◌else◌}
use Rattle.std.specs.Cmp.Lexicographic.{pointwise}
use Rattle.std.specs.List.{filter_map, flat_map, list_any}
use Rattle.std.specs.Option.{option_map}
use Rattle.std.specs.Str.{bytes_eq}
use Rattle.mathprog_data.specs.declared.blocks.Mark.{Mark}
use Rattle.model_sets.specs.declared.set_numbers.TheConstants.{STORAGE}
use Rattle.model_sets.specs.Data.{Data, indices_of, used_params, value_at}
use Rattle.model_sets.specs.Members.{SetLists, members}
use Rattle.model_sets.specs.Params.{is_used, param_at, range_of, subscript_sets}
use Rattle.param_tables.specs.BlockData.{data_told}
use Rattle.param_tables.specs.Places.{are_members}
use Rattle.param_tables.specs.Ranges.{range_fault}
use Rattle.param_tables.specs.InTurn.{first_of, in_turn}
use Rattle.mathprog_data.specs.Meaning.{GivenValue, ParamBlock, Blocks}
use Rattle.param_tables.specs.declared.fault.CellFault.{CellFault}
use Rattle.param_tables.specs.declared.fault.CellFault.TheVariants.{NoValue}
use Rattle.model_sets.specs.declared.params.Range.{Range}

-- why data are refused
pub data Refusal : Type 0 where
  -- STORAGE has a member
  StorageMember : Refusal
  -- the index of the value at this place of the text has a name that is no member of its set
  UnknownName : (at : Mark) → Refusal
  -- the index of the value at this place of the text was given before
  GivenBefore : (at : Mark) → Refusal
  -- the parameter has this fault at this index
  AtIndex : CellFault → (param : ℕ) → (index : List (List ℕ)) → Refusal

-- the number of the set STORAGE
abbrev pub storage : ℕ
storage = STORAGE

-- the storage equations aren't part of the model, so STORAGE may have no member
abbrev pub storage_refusals : SetLists → List Refusal
storage_refusals sets = if nat_lt 0 (length (members sets storage)) then StorageMember ∷ [] else []

-- whether each name of the index is a member of the set of its subscript
abbrev pub names_members : SetLists → ℕ → List (List ℕ) → Bool
names_members sets param index = are_members sets (subscript_sets param) index

-- whether the index is that of one of the values
abbrev pub is_given_among : List GivenValue → List (List ℕ) → Bool
is_given_among values index = list_any (λ value. pointwise bytes_eq value.index index) values

-- why the value of the parameter is refused that follows on these
abbrev pub value_refusal : SetLists → ℕ → List GivenValue → GivenValue → Option Refusal
value_refusal sets param before value =
    if not (names_members sets param value.index) then Some (UnknownName value.at)
    else if is_given_among before value.index then Some (GivenBefore value.at)
    else None

-- whether the statement is on a used parameter: one that is used in all data, or that is used where there is a statement for it, as this one
abbrev pub is_on_used : ParamBlock → Bool
is_on_used statement = is_used true (param_at statement.param).used

-- the refusals of the values of a statement on a used parameter, value by value in the order of the text; nobody looks at the values of the others
abbrev pub value_refusals : SetLists → ParamBlock → List Refusal
value_refusals sets statement = if is_on_used statement then in_turn (value_refusal sets statement.param) statement.values else []

-- the fault of a value, or of a missing one
abbrev pub value_fault : Range → Option ℤ → Option CellFault
value_fault range None = Some NoValue
value_fault range (Some v) = range_fault range v

-- the fault of the parameter at the index: no value, or a value out of its range
abbrev pub fault_at : Data → ℕ → List (List ℕ) → Option CellFault
fault_at d param index = value_fault (range_of param) (value_at d param index)

-- the refusals of the parameter, index by index in the order of the members, the last subscript running fastest
abbrev pub param_refusals : Data → ℕ → List Refusal
param_refusals d param = filter_map (λ index. option_map (λ fault. AtIndex fault param index) (fault_at d param index)) (indices_of d.sets param)

-- every refusal of what the statements give: a member of STORAGE; the values of the used parameters, in the order of the text; the used parameters, in the order of their numbers
abbrev pub refusals : Blocks → List Refusal
refusals statements =
    let d = data_told statements in
    storage_refusals d.sets
    ++ flat_map (value_refusals d.sets) statements.params
    ++ flat_map (param_refusals d) (used_params d)

-- the first refusal
abbrev pub first_refusal : Blocks → Option Refusal
first_refusal statements = first_of (refusals statements)
