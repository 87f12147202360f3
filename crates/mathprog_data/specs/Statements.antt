-- Statements of the data section of GNU MathProg: `set` and `param`, in the forms of its manual. Each relation takes a list of
-- tokens, the list that follows what it reads, and what that says; the line above a rule is its form in BNF.
use Rattle.std.specs.Prelude.{◌≡◌, ℕ, zero, suc, List, [], ◌∷◌, ◌++◌, codes, Option, Some, None}
use Rattle.mathprog_data.specs.declared.lexeme.Sign.TheVariants as signs
use Rattle.mathprog_data.specs.Lexemes.{Placed}
use Rattle.model_sets.specs.Names.{set_number}
use Rattle.model_sets.specs.Params.{param_number, subscript_count}
use Rattle.mathprog_data.specs.Slices.{Slice, all_free, free_count, index_at, Places}
use Rattle.mathprog_data.specs.Symbols.{Name, Number, IsSign, IsKeyword, IsSymbol, IsNumberToken, IsValue, Comma}
use Rattle.mathprog_data.specs.Tables.{Given, given, Table, EndsTable}

-- the members of a set, through the closing semicolon
pub data Members : List Placed → List Placed → List Name → Type 0 where
  -- ';'
  close : {t : Placed} {rest : List Placed} → IsSign signs.Semicolon t → Members (t ∷ rest) rest []
  -- ':=' members
  gives : {t : Placed} {ts rest : List Placed} {members : List Name}
      → IsSign signs.Gives t → Members ts rest members
      → Members (t ∷ ts) rest members
  -- SYMBOL [','] members
  member : {t : Placed} {ts us rest : List Placed} {name : Name} {members : List Name}
      → IsSymbol t name → Comma ts us → Members us rest members
      → Members (t ∷ ts) rest (name ∷ members)

-- these many symbols
pub data Subscripts : (count : ℕ) → List Placed → List Placed → List Name → Type 0 where
  -- nothing
  none : {ts : List Placed} → Subscripts zero ts ts []
  -- SYMBOL [','] subscripts
  more : {count : ℕ} {t : Placed} {ts us rest : List Placed} {name : Name} {names : List Name}
      → IsSymbol t name → Comma ts us → Subscripts count us rest names
      → Subscripts (suc count) (t ∷ ts) rest (name ∷ names)

-- plain data: the free subscripts in order and the value. Its mark is the place of its first token
pub data Plain (param : ℕ) (slice : Slice) : List Placed → List Placed → Given → Type 0 where
  -- subscripts VALUE [',']
  plain : {t u : Placed} {ts us rest : List Placed} {names : List Name} {number : Number}
      → Subscripts (free_count slice) (t ∷ ts) (u ∷ us) names → IsValue param u number → Comma us rest
      → Plain param slice (t ∷ ts) rest (given (index_at slice names) number t.at)

-- in which form a statement gives a parameter its values
pub data Form : Type 0 where
  -- any records
  Listed : Form
  -- plain data alone, with the full index
  Tabbing : Form

-- the records of a parameter while this slice holds, through the closing semicolon
pub data Records (param : ℕ) : Form → Slice → List Placed → List Placed → List Given → Type 0 where
  -- ';'
  close : {form : Form} {slice : Slice} {t : Placed} {rest : List Placed}
      → IsSign signs.Semicolon t
      → Records param form slice (t ∷ rest) rest []
  -- plain records
  valued : {form : Form} {slice : Slice} {ts us rest : List Placed} {value : Given} {values : List Given}
      → Plain param slice ts us value → Records param form slice us rest values
      → Records param form slice ts rest (value ∷ values)
  -- ':=' records
  gives : {slice : Slice} {t : Placed} {ts rest : List Placed} {values : List Given}
      → IsSign signs.Gives t → Records param Listed slice ts rest values
      → Records param Listed slice (t ∷ ts) rest values
  -- '[' places [','] records, which go by the new slice
  sliced : {slice next : Slice} {t : Placed} {ts us vs rest : List Placed} {values : List Given}
      → IsSign signs.OpenBracket t → Places (subscript_count param) ts us next → Comma us vs
      → Records param Listed next vs rest values
      → Records param Listed slice (t ∷ ts) rest values
  -- table records, which begin with what ends a table
  tabled : {slice : Slice} {ts us rest : List Placed} {values others : List Given}
      → Table slice ts us values → EndsTable us → Records param Listed slice us rest others
      → Records param Listed slice ts rest (values ++ others)

-- the list doesn't begin with the keyword `default`
abbrev pub NoDefault : List Placed → Type 0
NoDefault [] = Unit {0}
NoDefault (t ∷ ts) = IsKeyword (codes "default") t → ⊥

-- a default, or none
pub data Default : List Placed → List Placed → Option Number → Type 0 where
  -- nothing
  none : {ts : List Placed} → NoDefault ts → Default ts ts None
  -- 'default' NUMBER [',']
  stated : {t u : Placed} {ts rest : List Placed} {number : Number}
      → IsKeyword (codes "default") t → IsNumberToken u number → Comma ts rest
      → Default (t ∷ u ∷ ts) rest (Some number)

-- how a statement begins: a set, a parameter, or a parameter in tabbing data with the default before its name
pub data Begun : Type 0 where
  SetBegun : (number : ℕ) → Begun
  ParamBegun : (number : ℕ) → Begun
  TabbingBegun : (number : ℕ) → Option Number → Begun

-- the beginning of a statement, through its name
pub data Beginning : List Placed → List Placed → Begun → Type 0 where
  -- 'set' NAME
  set_begins : {t u : Placed} {rest : List Placed} {number : ℕ}
      → (name : Name) → IsKeyword (codes "set") t → IsSymbol u name → set_number name ≡ Some number
      → Beginning (t ∷ u ∷ rest) rest (SetBegun number)
  -- 'param' NAME
  param_begins : {t u : Placed} {rest : List Placed} {number : ℕ}
      → (name : Name) → IsKeyword (codes "param") t → IsSymbol u name → param_number name ≡ Some number
      → Beginning (t ∷ u ∷ rest) rest (ParamBegun number)
  -- 'param' [default] ':' NAME
  tabbing_begins : {t u v : Placed} {ts rest : List Placed} {number : ℕ} {default : Option Number}
      → (name : Name) → IsKeyword (codes "param") t → Default ts (u ∷ v ∷ rest) default
      → IsSign signs.Colon u → IsSymbol v name → param_number name ≡ Some number
      → Beginning (t ∷ ts) rest (TabbingBegun number default)

-- what a statement says: the members of a set, or the default and the values of a parameter, with the form that gives them
pub data Statement : Type 0 where
  Set : (number : ℕ) → (members : List Name) → Statement
  Param : Form → (number : ℕ) → (default : Option Number) → (values : List Given) → Statement

-- a whole statement, and what it says
pub data IsStatement : List Placed → List Placed → Statement → Type 0 where
  -- 'set' NAME [','] members
  set_is : {ts us vs rest : List Placed} {number : ℕ} {members : List Name}
      → Beginning ts us (SetBegun number) → Comma us vs → Members vs rest members
      → IsStatement ts rest (Set number members)
  -- 'param' NAME [','] [default] records, with all subscripts free at first
  param_is : {ts us vs ws rest : List Placed} {number : ℕ} {default : Option Number} {values : List Given}
      → Beginning ts us (ParamBegun number) → Comma us vs → Default vs ws default
      → Records number Listed (all_free (subscript_count number)) ws rest values
      → IsStatement ts rest (Param Listed number default values)
  -- 'param' [default] ':' NAME [','] ':=' plain data ';'
  tabbing_is : {t : Placed} {ts us vs rest : List Placed} {number : ℕ} {default : Option Number} {values : List Given}
      → Beginning ts us (TabbingBegun number default) → Comma us (t ∷ vs) → IsSign signs.Gives t
      → Records number Tabbing (all_free (subscript_count number)) vs rest values
      → IsStatement ts rest (Param Tabbing number default values)
