-- The blocks that a list means are such as a text can give: numbers of sets and parameters in their lists and none twice, full indices,
-- and numbers within the limit.
use Rattle.mathprog_data.proofs.Common.{◌≡◌, ℕ, suc, ◌+◌, ◌^◌, ◌<◌, ◌≤◌, Bool, true, false, ◌||◌, List, [], ◌∷◌, ◌++◌, Option, Some, None, length, map, refl, ap, sym, ◌∙◌, subst, arith, zero-le, option_map, length-replicate, IfOk-bound, Mark, Placed, GivenValue, SetBlock, ParamBlock, Blocks, Item, SetItem, ParamItem, Opening, Statements, IsLoose, loose, NoNameTwice, Means, blocks_of, set_blocks, param_blocks, default_value, value_of, item_of, item_begun, same_item, is_named, IsSet, set_words, set_number, IsParam, param_words, param_number, subscript_count, Slice, all_free, free_count, index_at, Places, Subscripts, Plain, Form, Records, Default, Begun, SetBegun, ParamBegun, TabbingBegun, Beginning, Statement, Set, Param, IsStatement, Name, Number, IsNumberToken, IsValue, Given, given, Cells, Rows, Table, cell_index, IsValueOf, IsParamBlock, AreWellFormed}
use Rattle.std.specs.List.{AllByRecursion, IsDistinct, flat_map, position}
use Rattle.std.specs.Prelude.{Ok, nat_eq, IfSome, unsigned_abs}
use Rattle.std.specs.Str.{bytes_eq}
use Rattle.std.proofs.lemmas.List.Elements.{All-from_recursion}
use Rattle.std.proofs.lemmas.List.Quantifiers.{position-Some}
use Rattle.std.proofs.lemmas.Map.Keys.{IsDistinct-cons}
use Rattle.scaled_decimals.specs.DecimalReading.{Reads}
use Rattle.mathprog_data.specs.Meaning as meaning
use Rattle.mathprog_data.specs.Slices as slices
use Rattle.mathprog_data.specs.Statements as statements
use Rattle.mathprog_data.specs.Symbols as symbols
use Rattle.mathprog_data.specs.Tables as tables

-- ---- numbers of sets and parameters

number-within : (words : List (List ℕ)) (name : List ℕ) (n : ℕ) (found : Option ℕ) → position (bytes_eq name) words ≡ found → option_map (λ i. i + 1) found ≡ Some n → (1 ≤ n) × (n ≤ length words)
number-within words name n None at is = absurd (cc is)
number-within words name n (Some i) at is =
    let inside : i < length words = (position-Some (bytes_eq name) words i [] at).0 in
    let n_is : i + 1 ≡ n = cc is in
    (omega arith, omega arith)

set_number-within : (name : Name) (n : ℕ) → set_number name ≡ Some n → IsSet n
set_number-within name n is = number-within set_words name n (position (bytes_eq name) set_words) refl is

param_number-within : (name : Name) (n : ℕ) → param_number name ≡ Some n → IsParam n
param_number-within name n is = number-within param_words name n (position (bytes_eq name) param_words) refl is

-- ---- numbers

-- the number is within the limit
abbrev IsWithin : Number → Type 0
IsWithin n = unsigned_abs n.0 ≤ 10 ^ 24

reads-within : (bytes : List ℕ) (n : Number) → Reads bytes (Ok n) → IsWithin n
reads-within bytes n (p, spells, is) = IfOk-bound p (Ok n) (sym is)

number-is : (t : Placed) (n : Number) → IsNumberToken t n → IsWithin n
number-is t n (bytes, bare, reads) = reads-within bytes n reads

value-is : (param : ℕ) (t : Placed) (n : Number) → IsValue param t n → IsWithin n
value-is param t n (symbols.numeric other is) = number-is t n is
value-is param t n (symbols.any_symbol name same is) = zero-le

-- ---- indices

length-index_at : (slice : Slice) (names : List Name) → length names ≡ free_count slice → length (index_at slice names) ≡ length slice
length-index_at [] names h = refl
length-index_at (Some name ∷ places) names h = ap suc (length-index_at places names h)
length-index_at (None ∷ places) [] h = absurd (omega arith)
length-index_at (None ∷ places) (name ∷ names) h = ap suc (length-index_at places names (omega arith))

length-subscripts : (count : ℕ) (ts rest : List Placed) (names : List Name) → Subscripts count ts rest names → length names ≡ count
length-subscripts count ts rest names statements.none = refl
length-subscripts count ts rest (name ∷ names) (statements.more {count = n} {us = us} symbol comma others) = ap suc (length-subscripts n us rest names others)

length-places : (count : ℕ) (ts rest : List Placed) (slice : Slice) → Places count ts rest slice → length slice ≡ count
length-places count ts rest slice (slices.last place bracket) = refl
length-places count ts rest (place ∷ places) (slices.more {count = n} {ts = us} is comma others) = ap suc (length-places n us rest places others)

-- ---- values

-- the value has a full index of this many names, and a number within the limit
pub record IsFull (count : ℕ) (g : Given) : Type 0 where
  pub index : length g.index ≡ count
  pub number : IsWithin g.number

-- each of the values is so
abbrev AreFull : ℕ → List Given → Type 0
AreFull count values = AllByRecursion (IsFull count) values

both_full : (count : ℕ) (values others : List Given) → AreFull count values → AreFull count others → AreFull count (values ++ others)
both_full count [] others a b = b
both_full count (value ∷ values) others a b = (a.0, both_full count values others a.1 b)

full-plain : (param : ℕ) (slice : Slice) (ts rest : List Placed) (value : Given) → Plain param slice ts rest value → IsFull (length slice) value
full-plain param slice ts rest value (statements.plain {t = t} {u = u} {ts = ts'} {us = us} {names = names} {number = number} subscripts is comma) = record {
  index = length-index_at slice names (length-subscripts (free_count slice) (t ∷ ts') (u ∷ us) names subscripts);
  number = value-is param u number is;
}

length-cell : (slice : Slice) (transposed : Bool) (row column : Name) → free_count slice ≡ 2 → length (cell_index slice transposed row column) ≡ length slice
length-cell slice true row column two = length-index_at slice (column ∷ row ∷ []) (sym two)
length-cell slice false row column two = length-index_at slice (row ∷ column ∷ []) (sym two)

full-cells : (slice : Slice) (transposed : Bool) (row : Name) (at : Mark) (columns : List Name) (ts rest : List Placed) (values : List Given) → free_count slice ≡ 2
    → Cells slice transposed row at columns ts rest values → AreFull (length slice) values
full-cells slice transposed row at columns ts rest values two tables.none = tt
full-cells slice transposed row at (column ∷ columns) (t ∷ ts) rest (value ∷ values) two (tables.filled {us = us} {number = number} is comma others) =
    (record { index = length-cell slice transposed row column two; number = number-is t number is }, full-cells slice transposed row at columns us rest values two others)
full-cells slice transposed row at (column ∷ columns) (t ∷ ts) rest values two (tables.point {us = us} is comma others) = full-cells slice transposed row at columns us rest values two others

full-rows : (slice : Slice) (transposed : Bool) (columns : List Name) (ts rest : List Placed) (values : List Given) → free_count slice ≡ 2
    → Rows slice transposed columns ts rest values → AreFull (length slice) values
full-rows slice transposed columns ts rest values two tables.none = tt
full-rows slice transposed columns (t ∷ ts) rest values two (tables.more {us = us} {vs = vs} {row = row} {values = first} {others = others} symbol comma cells more) =
    both_full (length slice) first others (full-cells slice transposed row t.at columns us vs first two cells) (full-rows slice transposed columns vs rest others two more)

full-table : (slice : Slice) (ts rest : List Placed) (values : List Given) → Table slice ts rest values → AreFull (length slice) values
full-table slice ts rest values (tables.table {transposed = transposed} {vs = vs} {columns = columns} two heading named rows) = full-rows slice transposed columns vs rest values two rows

-- all values among the records of a parameter
full-records : (param : ℕ) (form : Form) (slice : Slice) (ts rest : List Placed) (values : List Given) → length slice ≡ subscript_count param
    → Records param form slice ts rest values → AreFull (subscript_count param) values
full-records param form slice (t ∷ ts) rest [] count (statements.close sign) = tt
full-records param form slice ts rest (value ∷ values) count (statements.valued {us = us} plain others) =
    (subst (λ (n : ℕ). IsFull n value) count (full-plain param slice ts us value plain), full-records param form slice us rest values count others)
full-records param form slice (t ∷ ts) rest values count (statements.gives sign others) = full-records param form slice ts rest values count others
full-records param form slice (t ∷ ts) rest values count (statements.sliced {next = next} {us = us} {vs = vs} sign places comma others) =
    full-records param form next vs rest values (length-places (subscript_count param) ts us next places) others
full-records param form slice ts rest values count (statements.tabled {us = us} {values = first} {others = more} table ends others) =
    both_full (subscript_count param) first more
    (subst (λ (n : ℕ). AreFull n first) count (full-table slice ts us first table))
    (full-records param form slice us rest more count others)

-- ---- statements

-- the default is within the limit, if there is one
abbrev DefaultWithin : Option Number → Type 0
DefaultWithin default = IfSome default IsWithin

default-is : (ts rest : List Placed) (default : Option Number) → Default ts rest default → DefaultWithin default
default-is ts rest None (statements.none absent) = tt
default-is ts rest (Some n) (statements.stated {u = u} keyword is comma) = number-is u n is

-- what a statement keeps
abbrev IsKept : Statement → Type 0
IsKept (Set number members) = IsSet number
IsKept (Param form number default values) = IsParam number × DefaultWithin default × AreFull (subscript_count number) values

-- what the beginning of a statement keeps
abbrev IsBegun : Begun → Type 0
IsBegun (SetBegun number) = IsSet number
IsBegun (ParamBegun number) = IsParam number
IsBegun (TabbingBegun number default) = IsParam number × DefaultWithin default

begun-is : (ts rest : List Placed) (begun : Begun) → Beginning ts rest begun → IsBegun begun
begun-is ts rest (SetBegun number) (statements.set_begins name keyword symbol is) = set_number-within name number is
begun-is ts rest (ParamBegun number) (statements.param_begins name keyword symbol is) = param_number-within name number is
begun-is ts rest (TabbingBegun number default) (statements.tabbing_begins {u = u} {v = v} {ts = us} name keyword stated colon symbol is) =
    (param_number-within name number is, default-is us (u ∷ v ∷ rest) default stated)

statement-is : (ts rest : List Placed) (s : Statement) → IsStatement ts rest s → IsKept s
statement-is ts rest (Set number members) (statements.set_is {us = us} beginning comma rest_is) = begun-is ts us (SetBegun number) beginning
statement-is ts rest (Param form number default values) (statements.param_is {us = us} {vs = vs} {ws = ws} beginning comma stated records) = (
  begun-is ts us (ParamBegun number) beginning,
  default-is vs ws default stated,
  full-records number form (all_free (subscript_count number)) ws rest values (length-replicate (subscript_count number) None) records,
)
statement-is ts rest (Param form number default values) (statements.tabbing_is {us = us} {vs = vs} beginning comma sign records) =
    let begun = begun-is ts us (TabbingBegun number default) beginning in
    (begun.0, begun.1, full-records number form (all_free (subscript_count number)) vs rest values (length-replicate (subscript_count number) None) records)

statements-are : (ts rest : List Placed) (ss : List Statement) → Statements ts rest ss → AllByRecursion IsKept ss
statements-are ts rest [] meaning.none = tt
statements-are ts rest (s ∷ ss) (meaning.more {us = us} is others) = (statement-is ts us s is, statements-are us rest ss others)

-- ---- no name twice

-- a whole statement begins with what it names
begins-with : (ts rest : List Placed) (s : Statement) → IsStatement ts rest s → (us : List Placed) × (begun : Begun) × Beginning ts us begun × (item_begun begun ≡ item_of s)
begins-with ts rest (Set number members) (statements.set_is {us = us} beginning comma rest_is) = (us, SetBegun number, beginning, refl)
begins-with ts rest (Param form number default values) (statements.param_is {us = us} beginning comma stated records) = (us, ParamBegun number, beginning, refl)
begins-with ts rest (Param form number default values) (statements.tabbing_is {us = us} beginning comma sign records) = (us, TabbingBegun number default, beginning, refl)

-- statements after statements
more-statements : (ts us vs : List Placed) (ss : List Statement) (s : Statement) → Statements ts us ss → IsStatement us vs s → Statements ts vs (ss ++ s ∷ [])
more-statements ts us vs [] s meaning.none is = meaning.more is meaning.none
more-statements ts us vs (first ∷ ss) s (meaning.more {us = ws} own others) is = meaning.more own (more-statements ws us vs ss s others is)

-- of these statements none names what one of those before it names
abbrev NoneBefore : List Statement → List Statement → Type 0
NoneBefore before [] = Unit {0}
NoneBefore before (s ∷ ss) = (is_named (item_of s) before ≡ false) × NoneBefore (before ++ s ∷ []) ss

none-before : (ts opened us vs : List Placed) (before ss : List Statement) → NoNameTwice ts → Opening ts opened → Statements opened us before → Statements us vs ss → NoneBefore before ss
none-before ts opened us vs before [] once opening read meaning.none = tt
none-before ts opened us vs before (s ∷ ss) once opening read (meaning.more {us = ws} is others) =
    let begun = begins-with us ws s is in (
      ap (λ (item : Item). is_named item before) (sym begun.3) ∙ once opened us begun.0 before begun.1 opening read begun.2,
      none-before ts opened ws vs (before ++ s ∷ []) ss once opening (more-statements opened us ws before s read is) others,
    )

-- the statement names what none of these names
abbrev IsApart : Statement → List Statement → Type 0
IsApart s ss = AllByRecursion (λ other. same_item (item_of other) (item_of s) ≡ false) ss

-- no two of these statements name one thing
abbrev AreApart : List Statement → Type 0
AreApart [] = Unit {0}
AreApart (s ∷ ss) = IsApart s ss × AreApart ss

-- what none of some statements names, none of one among them names
named-among : (item : Item) (front after : List Statement) (s : Statement) → is_named item (front ++ s ∷ after) ≡ false → same_item item (item_of s) ≡ false
named-among item [] after s h = by_case (same_item item (item_of s)) h
  where
    by_case : (b : Bool) → (b || is_named item after) ≡ false → b ≡ false
    by_case true k = k
    by_case false k = refl
named-among item (first ∷ front) after s h = by_case (same_item item (item_of first)) h (named-among item front after s)
  where
    by_case : (b : Bool) → (b || is_named item (front ++ s ∷ after)) ≡ false → (is_named item (front ++ s ∷ after) ≡ false → same_item item (item_of s) ≡ false) → same_item item (item_of s) ≡ false
    by_case true k rest = absurd (cc k)
    by_case false k rest = rest k

regrouped : (front after : List Statement) (s other : Statement) → (front ++ s ∷ after) ++ other ∷ [] ≡ front ++ s ∷ (after ++ other ∷ [])
regrouped [] after s other = refl
regrouped (first ∷ front) after s other = ap (λ (rest : List Statement). first ∷ rest) (regrouped front after s other)

-- a statement that stands among those before is apart from these
apart-from : (before after : List Statement) (s : Statement) (ss : List Statement) → NoneBefore (before ++ s ∷ after) ss → IsApart s ss
apart-from before after s [] none = tt
apart-from before after s (other ∷ ss) none = (
  named-among (item_of other) before after s none.0,
  apart-from before (after ++ other ∷ []) s ss (subst (λ (front : List Statement). NoneBefore front ss) (regrouped before after s other) none.1),
)

all-apart : (before ss : List Statement) → NoneBefore before ss → AreApart ss
all-apart before [] none = tt
all-apart before (s ∷ ss) none = (apart-from before [] s ss none.1, all-apart (before ++ s ∷ []) ss none.1)

-- ---- blocks

eqb-sym : (a b : ℕ) → nat_eq b a ≡ false → nat_eq a b ≡ false
eqb-sym a b h = grind (arith, h)

sets-apart : (n : ℕ) (members : List Name) (ss : List Statement) → IsApart (Set n members) ss → AllByRecursion (λ m. nat_eq n m ≡ false) (map (λ b. b.set) (flat_map set_blocks ss))
sets-apart n members [] apart = tt
sets-apart n members (Set m names ∷ ss) apart = (eqb-sym n m apart.0, sets-apart n members ss apart.1)
sets-apart n members (Param form m default values ∷ ss) apart = sets-apart n members ss apart.1

params-apart : (form : Form) (n : ℕ) (default : Option Number) (values : List Given) (ss : List Statement) → IsApart (Param form n default values) ss
    → AllByRecursion (λ m. nat_eq n m ≡ false) (map (λ b. b.param) (flat_map param_blocks ss))
params-apart form n default values [] apart = tt
params-apart form n default values (Set m names ∷ ss) apart = params-apart form n default values ss apart.1
params-apart form n default values (Param f m d vs ∷ ss) apart = (eqb-sym n m apart.0, params-apart form n default values ss apart.1)

no-numbers : IsDistinct nat_eq []
unfolding IsDistinct
no-numbers = tt

sets-distinct : (ss : List Statement) → AreApart ss → IsDistinct nat_eq (map (λ b. b.set) (flat_map set_blocks ss))
sets-distinct [] apart = no-numbers
sets-distinct (Set n members ∷ ss) apart = IsDistinct-cons nat_eq n (map (λ b. b.set) (flat_map set_blocks ss)) (sets-apart n members ss apart.0) (sets-distinct ss apart.1)
sets-distinct (Param form n default values ∷ ss) apart = sets-distinct ss apart.1

params-distinct : (ss : List Statement) → AreApart ss → IsDistinct nat_eq (map (λ b. b.param) (flat_map param_blocks ss))
params-distinct [] apart = no-numbers
params-distinct (Set n members ∷ ss) apart = params-distinct ss apart.1
params-distinct (Param form n default values ∷ ss) apart = IsDistinct-cons nat_eq n (map (λ b. b.param) (flat_map param_blocks ss)) (params-apart form n default values ss apart.0) (params-distinct ss apart.1)

values-are : (param : ℕ) (values : List Given) → AreFull (subscript_count param) values → AllByRecursion (IsValueOf param) (map value_of values)
values-are param [] full = tt
values-are param (value ∷ values) full = (record { index = full.0.index; number = full.0.number }, values-are param values full.1)

default-within : (default : Option Number) → DefaultWithin default → IfSome (default_value default) (λ v. unsigned_abs v ≤ 10 ^ 24)
default-within None within = tt
default-within (Some number) within = within

sets-are : (ss : List Statement) → AllByRecursion IsKept ss → AllByRecursion (λ b. IsSet b.set) (flat_map set_blocks ss)
sets-are [] kept = tt
sets-are (Set n members ∷ ss) kept = (kept.0, sets-are ss kept.1)
sets-are (Param form n default values ∷ ss) kept = sets-are ss kept.1

params-are : (ss : List Statement) → AllByRecursion IsKept ss → AllByRecursion IsParamBlock (flat_map param_blocks ss)
params-are [] kept = tt
params-are (Set n members ∷ ss) kept = params-are ss kept.1
params-are (Param form n default values ∷ ss) kept = (
  record {
    param = kept.0.0;
    default = default-within default kept.0.1;
    values = All-from_recursion (IsValueOf n) (map value_of values) (values-are n values kept.0.2);
  },
  params-are ss kept.1,
)

blocks-are : (ss : List Statement) → AllByRecursion IsKept ss → AreApart ss → AreWellFormed (blocks_of ss)
blocks-are ss kept apart = record {
  sets = All-from_recursion (λ b. IsSet b.set) (flat_map set_blocks ss) (sets-are ss kept);
  sets_once = sets-distinct ss apart;
  params = record {
    each = All-from_recursion IsParamBlock (flat_map param_blocks ss) (params-are ss kept);
    once = params-distinct ss apart;
  };
}

loose-blocks : (ts : List Placed) (ss : List Statement) → NoNameTwice ts → IsLoose ts ss → AreWellFormed (blocks_of ss)
loose-blocks ts ss once (loose {us = us} {vs = vs} opening read closing) =
    blocks-are ss (statements-are us vs ss read) (all-apart [] ss (none-before ts us us vs [] ss once opening meaning.none read))

-- the blocks that a list means are such as a text can give
pub Means-well_formed : (ts : List Placed) (blocks : Blocks) → Means ts blocks → AreWellFormed blocks
Means-well_formed ts blocks means = subst (λ (b : Blocks). AreWellFormed b) (sym means.blocks_are) (loose-blocks ts means.statements means.names means.loose)
