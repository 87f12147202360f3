-- What a list of tokens means: the blocks of a data section (GNU MathProg).
use Rattle.std.specs.Prelude.{◌≡◌, ℕ, ℤ, ◌+◌, Bool, false, List, [], ◌∷◌, map, sum, codes, Option, Some, None, nat_eq, if◌then◌else◌}
use Rattle.std.specs.List.{list_any, flat_map}
use Rattle.mathprog_data.specs.declared.blocks.Mark.{Mark}
use Rattle.mathprog_data.specs.declared.lexeme.Sign.TheVariants as signs
use Rattle.mathprog_data.specs.Lexemes.{Placed}
use Rattle.mathprog_data.specs.Statements.{Statement, Set, Param, IsStatement, Begun, SetBegun, ParamBegun, TabbingBegun, Beginning}
use Rattle.mathprog_data.specs.Symbols.{Name, Number, IsSign, IsKeyword}
use Rattle.mathprog_data.specs.Tables.{Given}

-- a given value of a block: its full index, its value in billionths, and its mark
pub record GivenValue : Type 0 where
  pub index : List Name
  pub value : ℤ
  pub at : Mark

-- the number of a set, and its members
pub record SetBlock : Type 0 where
  pub set : ℕ
  pub members : List Name

-- the number of a parameter, its default, and its values
pub record ParamBlock : Type 0 where
  pub param : ℕ
  pub default : Option ℤ
  pub values : List GivenValue

-- the blocks of a data section, and how many of its defaults and given values are rounded
pub record Blocks : Type 0 where
  pub sets : List SetBlock
  pub params : List ParamBlock
  pub rounded : ℕ

-- a given value, without whether it is rounded
abbrev pub value_of : Given → GivenValue
value_of g = record { index = g.index; value = g.number.0; at = g.at }

-- the value of a default
abbrev pub default_value : Option Number → Option ℤ
default_value None = None
default_value (Some number) = Some number.0

-- the block of a set
abbrev pub set_blocks : Statement → List SetBlock
set_blocks (Set number members) = record { set = number; members = members } ∷ []
set_blocks (Param form number default values) = []

-- the block of a parameter
abbrev pub param_blocks : Statement → List ParamBlock
param_blocks (Set number members) = []
param_blocks (Param form number default values) =
    record { param = number; default = default_value default; values = map value_of values } ∷ []

-- 1 for a rounded number, 0 for another
abbrev pub count_of : Number → ℕ
count_of number = if number.1 then 1 else 0

-- how many of these values are rounded
abbrev pub rounded_values : List Given → ℕ
rounded_values values = sum (map (λ g. count_of g.number) values)

-- 1 for a rounded default, 0 for another or none
abbrev pub rounded_default : Option Number → ℕ
rounded_default None = 0
rounded_default (Some number) = count_of number

-- how many of a statement's default and values are rounded
abbrev pub rounded_of : Statement → ℕ
rounded_of (Set number members) = 0
rounded_of (Param form number default values) = rounded_default default + rounded_values values

-- the blocks of these statements, in their order
abbrev pub blocks_of : List Statement → Blocks
blocks_of statements = record {
  sets = flat_map set_blocks statements;
  params = flat_map param_blocks statements;
  rounded = sum (map rounded_of statements);
}

-- what a statement names: a set or a parameter, by number
pub data Item : Type 0 where
  SetItem : ℕ → Item
  ParamItem : ℕ → Item

-- what a statement names
abbrev pub item_of : Statement → Item
item_of (Set number members) = SetItem number
item_of (Param form number default values) = ParamItem number

-- what the beginning of a statement names
abbrev pub item_begun : Begun → Item
item_begun (SetBegun number) = SetItem number
item_begun (ParamBegun number) = ParamItem number
item_begun (TabbingBegun number default) = ParamItem number

-- two items are one set, or one parameter
abbrev pub same_item : Item → Item → Bool
same_item (SetItem a) (SetItem b) = nat_eq a b
same_item (SetItem a) (ParamItem b) = false
same_item (ParamItem a) (SetItem b) = false
same_item (ParamItem a) (ParamItem b) = nat_eq a b

-- one of the statements names this item
abbrev pub is_named : Item → List Statement → Bool
is_named item statements = list_any (λ s. same_item item (item_of s)) statements

-- `data ;` at the beginning, or nothing
pub data Opening : List Placed → List Placed → Type 0 where
  none : {ts : List Placed} → Opening ts ts
  words : {t u : Placed} {rest : List Placed}
      → IsKeyword (codes "data") t → IsSign signs.Semicolon u
      → Opening (t ∷ u ∷ rest) rest

-- statements, one after the other
pub data Statements : List Placed → List Placed → List Statement → Type 0 where
  none : {ts : List Placed} → Statements ts ts []
  more : {ts us rest : List Placed} {statement : Statement} {statements : List Statement}
      → IsStatement ts us statement → Statements us rest statements
      → Statements ts rest (statement ∷ statements)

-- `end ;` at the end, or nothing
pub data Closing : List Placed → Type 0 where
  none : Closing []
  words : {t u : Placed} → IsKeyword (codes "end") t → IsSign signs.Semicolon u → Closing (t ∷ u ∷ [])

-- the list is an optional `data ;`, these statements, and an optional `end ;`, where two statements may have one name
pub data IsLoose : List Placed → List Statement → Type 0 where
  loose : {ts us vs : List Placed} {statements : List Statement}
      → Opening ts us → Statements us vs statements → Closing vs
      → IsLoose ts statements

-- no name in the list begins a second statement: wherever whole statements are followed by the beginning of another one, through its
-- name, that name is the name of none of them
abbrev pub NoNameTwice : List Placed → Type 0
NoNameTwice ts =
    (us vs ws : List Placed) (statements : List Statement) (begun : Begun)
    → Opening ts us → Statements us vs statements → Beginning vs ws begun
    → is_named (item_begun begun) statements ≡ false

-- the list means these blocks
pub record Means (ts : List Placed) (blocks : Blocks) : Type 0 where
  pub statements : List Statement
  pub loose : IsLoose ts statements
  pub names : NoNameTwice ts
  pub blocks_are : blocks ≡ blocks_of statements
