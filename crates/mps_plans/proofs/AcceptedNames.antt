-- No name in the sets of accepted data has a line feed: a bare symbol has none, and nor has what stands between two quotes.
use Rattle.mps_plans.proofs.Common.{◌≡◌, ℕ, Bool, true, false, ◌&&◌, not, cond, List, [], ◌∷◌, ◌++◌, length, map, Option, Some, None, refl, ap, sym, subst, inl, inr, eqb-true, nat_lt, nat_eq, ◌==◌, AllByRecursion, find, flat_map, list_all, range_with_len, option_map_or, all_ascii_digits, Data, Blocks, Means, IsLoose, Opening, SetBlock, blocks_of, set_blocks, Says, members_told, set_lists, Accepted, Source, ends_line, is_one_line, HaveOneLineNames}
use Rattle.command_answers.proofs.AcceptedData.{accepted-sets}
use Rattle.model_sets.specs.Params.{subscript_count}
use Rattle.mathprog_data.specs.Characters.{zero_digit}
use Rattle.mathprog_data.specs.Lexemes.{Placed, Bare, Quoted, bare_name, without_leading_zeros}
use Rattle.mathprog_data.specs.Lexing.{AreWhole, Lexes, LexingEnd, Tokens, placed_after}
use Rattle.mathprog_data.specs.LexingBytes.{is_printable, is_symbol_byte}
use Rattle.mathprog_data.specs.LexingPieces.{Piece, Separator, LineComment, BlockComment, SignToken, BareToken, QuotedToken, spelling}
use Rattle.mathprog_data.specs.Meaning as meaning
use Rattle.mathprog_data.specs.Slices.{Places, Slice, all_free, free_count}
use Rattle.mathprog_data.specs.Slices as slices
use Rattle.mathprog_data.specs.Statements.{Begun, Beginning, Default, Form, IsStatement, Members, Param, Plain, Records, Set, Statement, Subscripts}
use Rattle.mathprog_data.specs.Statements as statements
use Rattle.mathprog_data.specs.Symbols.{Comma, IsSymbol, Name, symbol_name}
use Rattle.mathprog_data.specs.Symbols as symbols
use Rattle.mathprog_data.specs.Tables.{Cells, Columns, Heading, Rows, Table}
use Rattle.mathprog_data.specs.Tables as tables

-- ---- bytes

abbrev IsOneLine : List ℕ → Type 0
IsOneLine text = is_one_line text ≡ true

-- a byte that passes a test that no line feed passes ends no line
no-end : (test : ℕ → Bool) → test 10 ≡ false → (byte : ℕ) → test byte ≡ true → (b : Bool) → (byte == 10) ≡ b → b ≡ false
no-end test fails byte passes false e = refl
no-end test fails byte passes true e =
    let is : byte ≡ 10 = eqb-true byte 10 e in
    absurd (cc (ap test is, fails, passes))

first-of_and : (a b : Bool) → (a && b) ≡ true → a ≡ true
first-of_and true b passes = refl
first-of_and false b passes = absurd (cc passes)

second-of_and : (a b : Bool) → (a && b) ≡ true → b ≡ true
second-of_and true b passes = passes
second-of_and false b passes = absurd (cc passes)

one-line : (test : ℕ → Bool) → test 10 ≡ false → (bytes : List ℕ) → list_all test bytes ≡ true → IsOneLine bytes
one-line test fails [] all = refl
one-line test fails (byte ∷ bytes) all =
    let on : ends_line byte ≡ false = no-end test fails byte (first-of_and (test byte) (list_all test bytes) all) (byte == 10) refl in
    rw on (one-line test fails bytes (second-of_and (test byte) (list_all test bytes) all))

rest-line : (byte : ℕ) (bytes : List ℕ) → IsOneLine (byte ∷ bytes) → IsOneLine bytes
rest-line byte bytes one = second-of_and (not (ends_line byte)) (is_one_line bytes) one

cond-line : (b : Bool) (xs ys : List ℕ) → IsOneLine xs → IsOneLine ys → IsOneLine (cond b xs ys)
cond-line true xs ys first second = first
cond-line false xs ys first second = second

zeros-line : (bytes : List ℕ) → IsOneLine bytes → IsOneLine (without_leading_zeros bytes)
zeros-line [] one = refl
zeros-line (c ∷ cs) one = cond-line ((c == zero_digit) && nat_lt 0 (length cs)) (without_leading_zeros cs) (c ∷ cs) (zeros-line cs (rest-line c cs one)) one

bare-line : (bytes : List ℕ) → IsOneLine bytes → IsOneLine (bare_name bytes)
bare-line bytes one = cond-line (all_ascii_digits bytes) (without_leading_zeros bytes) bytes (zeros-line bytes one) one

-- ---- tokens

-- what the token names, if it is a symbol, has no line feed
abbrev NamesLine : Placed → Type 0
NamesLine t = (name : Name) → symbol_name t.lexeme ≡ Some name → IsOneLine name

abbrev NameLines : List Placed → Type 0
NameLines ts = AllByRecursion NamesLine ts

bare-names : (bytes : List ℕ) → IsOneLine bytes → (name : Name) → symbol_name (Bare bytes) ≡ Some name → IsOneLine name
bare-names bytes one name is =
    let same : bare_name bytes ≡ name = cc is in
    subst IsOneLine same (bare-line bytes one)

quoted-names : (bytes : List ℕ) → IsOneLine bytes → (name : Name) → symbol_name (Quoted bytes) ≡ Some name → IsOneLine name
quoted-names [] one name is = absurd (cc is)
quoted-names (c ∷ cs) one name is =
    let same : c ∷ cs ≡ name = cc is in
    subst IsOneLine same one

pieces-name : (front : List ℕ) (pieces : List Piece) (rest : List ℕ) → AreWhole pieces rest → NameLines (placed_after front pieces)
pieces-name front [] rest whole = tt
pieces-name front (Separator byte ∷ pieces) rest whole = pieces-name (front ++ spelling (Separator byte)) pieces rest whole.1
pieces-name front (LineComment bytes ∷ pieces) rest whole = pieces-name (front ++ spelling (LineComment bytes)) pieces rest whole.1
pieces-name front (BlockComment bytes ∷ pieces) rest whole = pieces-name (front ++ spelling (BlockComment bytes)) pieces rest whole.1
pieces-name front (SignToken sign ∷ pieces) rest whole = (λ name is. absurd (cc is), pieces-name (front ++ spelling (SignToken sign)) pieces rest whole.1)
pieces-name front (BareToken bytes ∷ pieces) rest whole =
    (bare-names bytes (one-line is_symbol_byte refl bytes whole.0.1), pieces-name (front ++ spelling (BareToken bytes)) pieces rest whole.1)
pieces-name front (QuotedToken quote bytes ∷ pieces) rest whole =
    (quoted-names bytes (one-line is_printable refl bytes whole.0.1), pieces-name (front ++ spelling (QuotedToken quote bytes)) pieces rest whole.1)

lexed-name : (text : List ℕ) (placed : List Placed) (end : LexingEnd) → Lexes text placed end → NameLines placed
lexed-name text placed end lexes = subst NameLines (sym lexes.tokens) (pieces-name [] lexes.pieces lexes.rest lexes.whole)

tokens-name : (text : List ℕ) (placed : List Placed) → Tokens text placed → NameLines placed
tokens-name text placed (inl lexes) = lexed-name text placed _ lexes
tokens-name text placed (inr lexes) = lexed-name text placed _ lexes

-- ---- what follows tokens that are read

after-comma : (ts us : List Placed) → Comma ts us → NameLines ts → NameLines us
after-comma ts us symbols.none all = all
after-comma (t ∷ ts) us (symbols.one is) all = all.1

after-subscripts : (count : ℕ) (ts rest : List Placed) (names : List Name) → Subscripts count ts rest names → NameLines ts → NameLines rest
after-subscripts count ts rest names statements.none all = all
after-subscripts count (t ∷ ts) rest (name ∷ names) (statements.more {count = n} {us = us} symbol comma others) all = after-subscripts n us rest names others (after-comma ts us comma all.1)

after-plain : (param : ℕ) (slice : Slice) (ts rest : List Placed) (value : tables.Given) → Plain param slice ts rest value → NameLines ts → NameLines rest
after-plain param slice ts rest value (statements.plain {t = t} {u = u} {ts = ts'} {us = us} {names = names} subscripts is comma) all =
    after-comma us rest comma (after-subscripts (free_count slice) (t ∷ ts') (u ∷ us) names subscripts all).1

after-places : (count : ℕ) (ts rest : List Placed) (slice : Slice) → Places count ts rest slice → NameLines ts → NameLines rest
after-places count [] rest slice read all = elim read [ ]
after-places count (t ∷ []) rest slice read all = elim read [ ]
after-places count (t ∷ u ∷ ts) rest slice (slices.last place bracket) all = all.1.1
after-places count (t ∷ u ∷ ts) rest (place ∷ places) (slices.more {count = n} is comma others) all = after-places n ts rest places others all.1.1

after-heading : (transposed : Bool) (ts rest : List Placed) → Heading transposed ts rest → NameLines ts → NameLines rest
after-heading transposed [] rest read all = elim read [ ]
after-heading transposed (t ∷ ts) rest (tables.straight colon) all = all.1
after-heading transposed (t ∷ u ∷ v ∷ w ∷ ts) rest (tables.turned left word right colon) all = all.1.1.1.1

after-columns : (ts rest : List Placed) (columns : List Name) → Columns ts rest columns → NameLines ts → NameLines rest
after-columns [] rest columns read all = elim read [ ]
after-columns (t ∷ ts) rest columns (tables.last {u = u} symbol comma gives) all = (after-comma ts (u ∷ rest) comma all.1).1
after-columns (t ∷ ts) rest (column ∷ columns) (tables.more {us = us} symbol comma others) all = after-columns us rest columns others (after-comma ts us comma all.1)

after-cells : (slice : Slice) (transposed : Bool) (row : Name) (at : _) (columns : List Name) (ts rest : List Placed) (values : List tables.Given)
    → Cells slice transposed row at columns ts rest values → NameLines ts → NameLines rest
after-cells slice transposed row at columns ts rest values tables.none all = all
after-cells slice transposed row at (column ∷ columns) (t ∷ ts) rest (value ∷ values) (tables.filled {us = us} is comma others) all = after-cells slice transposed row at columns us rest values others (after-comma ts us comma all.1)
after-cells slice transposed row at (column ∷ columns) (t ∷ ts) rest values (tables.point {us = us} is comma others) all = after-cells slice transposed row at columns us rest values others (after-comma ts us comma all.1)

after-rows : (slice : Slice) (transposed : Bool) (columns : List Name) (ts rest : List Placed) (values : List tables.Given) → Rows slice transposed columns ts rest values → NameLines ts → NameLines rest
after-rows slice transposed columns ts rest values tables.none all = all
after-rows slice transposed columns (t ∷ ts) rest values (tables.more {us = us} {vs = vs} {row = row} {values = first} {others = others} symbol comma cells below) all =
    after-rows slice transposed columns vs rest others below (after-cells slice transposed row t.at columns us vs first cells (after-comma ts us comma all.1))

after-table : (slice : Slice) (ts rest : List Placed) (values : List tables.Given) → Table slice ts rest values → NameLines ts → NameLines rest
after-table slice ts rest values (tables.table {transposed = transposed} {us = us} {vs = vs} {columns = columns} two heading named rows) all =
    after-rows slice transposed columns vs rest values rows (after-columns us vs columns named (after-heading transposed ts us heading all))

after-records : (param : ℕ) (form : Form) (slice : Slice) (ts rest : List Placed) (values : List tables.Given) → Records param form slice ts rest values → NameLines ts → NameLines rest
after-records param form slice (t ∷ ts) rest [] (statements.close sign) all = all.1
after-records param form slice ts rest (value ∷ values) (statements.valued {us = us} first others) all = after-records param form slice us rest values others (after-plain param slice ts us value first all)
after-records param form slice (t ∷ ts) rest values (statements.gives sign others) all = after-records param form slice ts rest values others all.1
after-records param form slice (t ∷ ts) rest values (statements.sliced {next = next} {us = us} {vs = vs} sign places comma others) all =
    after-records param form next vs rest values others (after-comma us vs comma (after-places (subscript_count param) ts us next places all.1))
after-records param form slice ts rest values (statements.tabled {us = us} {values = first} {others = later} whole ends others) all = after-records param form slice us rest later others (after-table slice ts us first whole all)

after-default : (ts rest : List Placed) (default : Option symbols.Number) → Default ts rest default → NameLines ts → NameLines rest
after-default ts rest None (statements.none absent) all = all
after-default [] rest (Some n) read all = elim read [ ]
after-default (t ∷ []) rest (Some n) read all = elim read [ ]
after-default (t ∷ u ∷ ts) rest (Some n) (statements.stated keyword is comma) all = after-comma ts rest comma all.1.1

after-beginning : (ts rest : List Placed) (begun : Begun) → Beginning ts rest begun → NameLines ts → NameLines rest
after-beginning [] rest begun read all = elim read [ ]
after-beginning (t ∷ u ∷ ts) rest begun (statements.set_begins name keyword symbol is) all = all.1.1
after-beginning (t ∷ u ∷ ts) rest begun (statements.param_begins name keyword symbol is) all = all.1.1
after-beginning (t ∷ ts) rest begun (statements.tabbing_begins {u = u} {v = v} {default = default} name keyword given colon symbol is) all = (after-default ts (u ∷ v ∷ rest) default given all.1).1.1

-- ---- members

abbrev LinesOf : List Name → Type 0
LinesOf names = AllByRecursion IsOneLine names

members-lines : (ts rest : List Placed) (members : List Name) → Members ts rest members → NameLines ts → LinesOf members × NameLines rest
members-lines [] rest members read all = elim read [ ]
members-lines (t ∷ ts) rest [] (statements.close sign) all = (tt, all.1)
members-lines (t ∷ ts) rest members (statements.gives sign others) all = members-lines ts rest members others all.1
members-lines (t ∷ ts) rest (name ∷ members) (statements.member {us = us} symbol comma others) all =
    let more = members-lines us rest members others (after-comma ts us comma all.1) in
    ((all.0 name symbol, more.0), more.1)

-- the members of a set
abbrev StatementLines : Statement → Type 0
StatementLines (Set number members) = LinesOf members
StatementLines (Param form number default values) = Unit {0}

statement-lines : (ts rest : List Placed) (s : Statement) → IsStatement ts rest s → NameLines ts → StatementLines s × NameLines rest
statement-lines ts rest (Set number members) (statements.set_is {us = us} {vs = vs} beginning comma rest_is) all =
    members-lines vs rest members rest_is (after-comma us vs comma (after-beginning ts us (statements.SetBegun number) beginning all))
statement-lines ts rest (Param form number default values) (statements.param_is {us = us} {vs = vs} {ws = ws} beginning comma given records) all =
    (tt, after-records number form (all_free (subscript_count number)) ws rest values records (after-default vs ws default given (after-comma us vs comma (after-beginning ts us (statements.ParamBegun number) beginning all))))
statement-lines ts rest (Param form number default values) (statements.tabbing_is {t = t} {us = us} {vs = vs} beginning comma sign records) all =
    (tt, after-records number form (all_free (subscript_count number)) vs rest values records (after-comma us (t ∷ vs) comma (after-beginning ts us (statements.TabbingBegun number default) beginning all)).1)

statements-lines : (ts rest : List Placed) (ss : List Statement) → meaning.Statements ts rest ss → NameLines ts → AllByRecursion StatementLines ss
statements-lines ts rest [] meaning.none all = tt
statements-lines ts rest (s ∷ ss) (meaning.more {us = us} is others) all =
    let one = statement-lines ts us s is all in
    (one.0, statements-lines us rest ss others one.1)

after-opening : (ts us : List Placed) → Opening ts us → NameLines ts → NameLines us
after-opening ts us meaning.none all = all
after-opening (t ∷ u ∷ ts) us (meaning.words data_word sign) all = all.1.1

loose-lines : (ts : List Placed) (ss : List Statement) → IsLoose ts ss → NameLines ts → AllByRecursion StatementLines ss
loose-lines ts ss (meaning.loose {us = us} {vs = vs} opening are closing) all = statements-lines us vs ss are (after-opening ts us opening all)

-- ---- sets

blocks-lines : (ss : List Statement) → AllByRecursion StatementLines ss → AllByRecursion (λ (b : SetBlock). LinesOf b.members) (flat_map set_blocks ss)
blocks-lines [] all = tt
blocks-lines (Set number members ∷ ss) all = (all.0, blocks-lines ss all.1)
blocks-lines (Param form number default values ∷ ss) all = blocks-lines ss all.1

told-lines : (blocks : List SetBlock) (k : ℕ) → AllByRecursion (λ (b : SetBlock). LinesOf b.members) blocks → LinesOf (members_told blocks k)
told-lines [] k all = tt
told-lines (b ∷ blocks) k all = step (nat_eq b.set k) (told-lines blocks k all.1)
  where
    step : (found : Bool) → LinesOf (members_told blocks k) → LinesOf (option_map_or (λ s. s.members) (cond found (Some b) (find (λ s. nat_eq s.set k) blocks)) [])
    step true rest = all.0
    step false rest = rest

lists-lines : (blocks : List SetBlock) (ks : List ℕ) → AllByRecursion (λ (b : SetBlock). LinesOf b.members) blocks → AllByRecursion LinesOf (map (members_told blocks) ks)
lists-lines blocks [] all = tt
lists-lines blocks (k ∷ ks) all = (told-lines blocks k all, lists-lines blocks ks all)

says-lines : (text : List ℕ) (blocks : Blocks) → Says text blocks → HaveOneLineNames (set_lists blocks)
says-lines text blocks says =
    let own = loose-lines says.placed says.means.statements says.means.loose (tokens-name text says.placed says.tokens) in
    subst (λ bs. HaveOneLineNames (set_lists bs)) (sym says.means.blocks_are) (lists-lines (flat_map set_blocks says.means.statements) (range_with_len 1 11) (blocks-lines says.means.statements own))

pub accepted-names : (source : Source) (d : Data) → Accepted source d → HaveOneLineNames d.sets
accepted-names source d accepted = subst HaveOneLineNames (sym (accepted-sets source d accepted)) (says-lines source.text accepted.says.blocks accepted.says.says)
