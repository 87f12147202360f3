-- What texts say, and which fault they have, computed on examples, with near misses.
use Rattle.mathprog_data.proofs.Common.{◌≡◌, ℕ, ℤ, ◌*◌, pos, List, [], ◌∷◌, Option, Some, None, refl, ap, arith, numerator, denominator, number_of, Mark, bad_byte, open_string, open_comment, unexpected, end_too_soon, unknown_name, given_twice, wrong_slice, row_too_short, bad_number, tabbing, run, SetBlock, ParamBlock, GivenValue, Blocks, reading, Reads, Refuses, outcome_of, Says, FaultAt}
use Rattle.std.specs.Prelude.{codes}
use Rattle.mathprog_data.proofs.StatementLawsHold.{statement_laws}
use Rattle.mathprog_data.proofs.VerdictLaws.{reads_says, refuses_fault, one_fault, not_both}

abbrev mark : ℕ → ℕ → Mark
mark line column = record { line = line; column = column }

abbrev set : ℕ → List (List ℕ) → SetBlock
set number members = record { set = number; members = members }

abbrev param : ℕ → Option ℤ → List GivenValue → ParamBlock
param number default values = record { param = number; default = default; values = values }

-- a value on line 1
abbrev value : List (List ℕ) → ℤ → ℕ → GivenValue
value index v column = record { index = index; value = v; at = mark 1 column }

abbrev blocks : List SetBlock → List ParamBlock → ℕ → Blocks
blocks sets params rounded = record { sets = sets; params = params; rounded = rounded }

-- the number n, in billionths
abbrev whole : ℕ → ℤ
whole n = pos (n * 1000000000)

-- the text is read as these blocks
abbrev IsRead : List ℕ → Blocks → Type 0
IsRead text said = outcome_of text ≡ Reads said

-- the text is refused with this fault, in this column of line 1
abbrev IsRefused : List ℕ → ℕ → ℕ → Type 0
IsRefused text number column = outcome_of text ≡ Refuses number (mark 1 column)

says : (text : List ℕ) (said : Blocks) → IsRead text said → Says text said
says text said is = reads_says statement_laws text said is

has_fault : (text : List ℕ) (number column : ℕ) → IsRefused text number column → FaultAt text number (mark 1 column)
has_fault text number column is = refuses_fault statement_laws text number (mark 1 column) is

-- ---- sets and plain data

-- sets, and plain data with the mark of each value's first token
first_path : Says (codes "set REGION := R; set YEAR := 2020 2021; param ResidualCapacity := R T 2020 7 R T 2021 3;") (blocks (set 1 (codes "R" ∷ []) ∷ set 7 (codes "2020" ∷ codes "2021" ∷ []) ∷ []) (param 12 None (value (codes "R" ∷ codes "T" ∷ codes "2020" ∷ []) (whole 7) 67 ∷ value (codes "R" ∷ codes "T" ∷ codes "2021" ∷ []) (whole 3) 78 ∷ []) ∷ []) 0)
unfolding run reading number_of numerator denominator
first_path = says (codes "set REGION := R; set YEAR := 2020 2021; param ResidualCapacity := R T 2020 7 R T 2021 3;") (blocks (set 1 (codes "R" ∷ []) ∷ set 7 (codes "2020" ∷ codes "2021" ∷ []) ∷ []) (param 12 None (value (codes "R" ∷ codes "T" ∷ codes "2020" ∷ []) (whole 7) 67 ∷ value (codes "R" ∷ codes "T" ∷ codes "2021" ∷ []) (whole 3) 78 ∷ []) ∷ []) 0) refl

-- no text says no blocks, and so do `data ;` and `end ;` alone
nothing_said : Says (codes "") (blocks [] [] 0)
unfolding run reading number_of numerator denominator
nothing_said = says (codes "") (blocks [] [] 0) refl

words_alone : Says (codes "data; end;") (blocks [] [] 0)
unfolding run reading number_of numerator denominator
words_alone = says (codes "data; end;") (blocks [] [] 0) refl

-- nothing is read after the closing `end ;`
after_the_end : Says (codes "set YEAR; end; @") (blocks (set 7 [] ∷ []) [] 0)
unfolding run reading number_of numerator denominator
after_the_end = says (codes "set YEAR; end; @") (blocks (set 7 [] ∷ []) [] 0) refl

-- one comma may stand after a set's name and after a member
comma_after_name : Says (codes "set REGION, R, S;") (blocks (set 1 (codes "R" ∷ codes "S" ∷ []) ∷ []) [] 0)
unfolding run reading number_of numerator denominator
comma_after_name = says (codes "set REGION, R, S;") (blocks (set 1 (codes "R" ∷ codes "S" ∷ []) ∷ []) [] 0) refl

-- and `:=` anywhere among the members
gives_among_members : Says (codes "set REGION := R := S :=;") (blocks (set 1 (codes "R" ∷ codes "S" ∷ []) ∷ []) [] 0)
unfolding run reading number_of numerator denominator
gives_among_members = says (codes "set REGION := R := S :=;") (blocks (set 1 (codes "R" ∷ codes "S" ∷ []) ∷ []) [] 0) refl

-- a quoted keyword is a member like any other
quoted_default : Says (codes "param CapitalCost 'default' 5 T 7;") (blocks [] (param 15 None (value (codes "default" ∷ codes "5" ∷ codes "T" ∷ []) (whole 7) 19 ∷ []) ∷ []) 0)
unfolding run reading number_of numerator denominator
quoted_default = says (codes "param CapitalCost 'default' 5 T 7;") (blocks [] (param 15 None (value (codes "default" ∷ codes "5" ∷ codes "T" ∷ []) (whole 7) 19 ∷ []) ∷ []) 0) refl

-- commas after the name, the default, a subscript and a value
commas_in_plain_data : Says (codes "param OperationalLife, default 9, R, T, 2, R, U, 3;") (blocks [] (param 11 (Some (whole 9)) (value (codes "R" ∷ codes "T" ∷ []) (whole 2) 35 ∷ value (codes "R" ∷ codes "U" ∷ []) (whole 3) 44 ∷ []) ∷ []) 0)
unfolding run reading number_of numerator denominator
commas_in_plain_data = says (codes "param OperationalLife, default 9, R, T, 2, R, U, 3;") (blocks [] (param 11 (Some (whole 9)) (value (codes "R" ∷ codes "T" ∷ []) (whole 2) 35 ∷ value (codes "R" ∷ codes "U" ∷ []) (whole 3) 44 ∷ []) ∷ []) 0) refl

-- ---- slices and tables

-- a slice fixes the first and the third subscript
sliced : Says (codes "param VariableCost := [R,*,1,*] T 2020 2;") (blocks [] (param 16 None (value (codes "R" ∷ codes "T" ∷ codes "1" ∷ codes "2020" ∷ []) (whole 2) 33 ∷ []) ∷ []) 0)
unfolding run reading number_of numerator denominator
sliced = says (codes "param VariableCost := [R,*,1,*] T 2020 2;") (blocks [] (param 16 None (value (codes "R" ∷ codes "T" ∷ codes "1" ∷ codes "2020" ∷ []) (whole 2) 33 ∷ []) ∷ []) 0) refl

-- a table: the row gives the first free subscript and the column the second; each value has the mark of its row, and a point gives nothing
straight : Says (codes "param VariableCost [R,*,1,*] : 2020 2021 := T 2 . U 3 4;") (blocks [] (param 16 None (value (codes "R" ∷ codes "T" ∷ codes "1" ∷ codes "2020" ∷ []) (whole 2) 45 ∷ value (codes "R" ∷ codes "U" ∷ codes "1" ∷ codes "2020" ∷ []) (whole 3) 51 ∷ value (codes "R" ∷ codes "U" ∷ codes "1" ∷ codes "2021" ∷ []) (whole 4) 51 ∷ []) ∷ []) 0)
unfolding run reading number_of numerator denominator
straight = says (codes "param VariableCost [R,*,1,*] : 2020 2021 := T 2 . U 3 4;") (blocks [] (param 16 None (value (codes "R" ∷ codes "T" ∷ codes "1" ∷ codes "2020" ∷ []) (whole 2) 45 ∷ value (codes "R" ∷ codes "U" ∷ codes "1" ∷ codes "2020" ∷ []) (whole 3) 51 ∷ value (codes "R" ∷ codes "U" ∷ codes "1" ∷ codes "2021" ∷ []) (whole 4) 51 ∷ []) ∷ []) 0) refl

-- transposed, the other way round
transposed : Says (codes "param VariableCost [R,*,1,*] (tr) : T U := 2020 2 . 2021 3 4;") (blocks [] (param 16 None (value (codes "R" ∷ codes "T" ∷ codes "1" ∷ codes "2020" ∷ []) (whole 2) 44 ∷ value (codes "R" ∷ codes "T" ∷ codes "1" ∷ codes "2021" ∷ []) (whole 3) 53 ∷ value (codes "R" ∷ codes "U" ∷ codes "1" ∷ codes "2021" ∷ []) (whole 4) 53 ∷ []) ∷ []) 0)
unfolding run reading number_of numerator denominator
transposed = says (codes "param VariableCost [R,*,1,*] (tr) : T U := 2020 2 . 2021 3 4;") (blocks [] (param 16 None (value (codes "R" ∷ codes "T" ∷ codes "1" ∷ codes "2020" ∷ []) (whole 2) 44 ∷ value (codes "R" ∷ codes "T" ∷ codes "1" ∷ codes "2021" ∷ []) (whole 3) 53 ∷ value (codes "R" ∷ codes "U" ∷ codes "1" ∷ codes "2021" ∷ []) (whole 4) 53 ∷ []) ∷ []) 0) refl

-- a comma may stand after a column, after the name of a row, after a value and after a point
comma_after_point : Says (codes "param OperationalLife : T, U := R, ., 2, S 3 4;") (blocks [] (param 11 None (value (codes "R" ∷ codes "U" ∷ []) (whole 2) 33 ∷ value (codes "S" ∷ codes "T" ∷ []) (whole 3) 42 ∷ value (codes "S" ∷ codes "U" ∷ []) (whole 4) 42 ∷ []) ∷ []) 0)
unfolding run reading number_of numerator denominator
comma_after_point = says (codes "param OperationalLife : T, U := R, ., 2, S 3 4;") (blocks [] (param 11 None (value (codes "R" ∷ codes "U" ∷ []) (whole 2) 33 ∷ value (codes "S" ∷ codes "T" ∷ []) (whole 3) 42 ∷ value (codes "S" ∷ codes "U" ∷ []) (whole 4) 42 ∷ []) ∷ []) 0) refl

-- ---- rounded numbers

-- the values of plain data and of tables are counted where they are rounded
rounded_value : Says (codes "param OperationalLife R T 1e-10 : T := S 1e-10 U 1;") (blocks [] (param 11 None (value (codes "R" ∷ codes "T" ∷ []) (pos 0) 23 ∷ value (codes "S" ∷ codes "T" ∷ []) (pos 0) 40 ∷ value (codes "U" ∷ codes "T" ∷ []) (whole 1) 48 ∷ []) ∷ []) 2)
unfolding run reading number_of numerator denominator
rounded_value = says (codes "param OperationalLife R T 1e-10 : T := S 1e-10 U 1;") (blocks [] (param 11 None (value (codes "R" ∷ codes "T" ∷ []) (pos 0) 23 ∷ value (codes "S" ∷ codes "T" ∷ []) (pos 0) 40 ∷ value (codes "U" ∷ codes "T" ∷ []) (whole 1) 48 ∷ []) ∷ []) 2) refl

-- and so are defaults, also that of tabbing data
rounded_default : Says (codes "param default 1e-10 : OperationalLife := ; param DiscountRate default 5e-10;") (blocks [] (param 11 (Some (pos 0)) [] ∷ param 2 (Some (pos 1)) [] ∷ []) 2)
unfolding run reading number_of numerator denominator
rounded_default = says (codes "param default 1e-10 : OperationalLife := ; param DiscountRate default 5e-10;") (blocks [] (param 11 (Some (pos 0)) [] ∷ param 2 (Some (pos 1)) [] ∷ []) 2) refl

-- the value of ResultsPath is any symbol: it counts as 0 and as not rounded, but its default is a number
path_value : Says (codes "param ResultsPath default 5e-10 := 1e-10;") (blocks [] (param 44 (Some (pos 1)) (value [] (pos 0) 36 ∷ []) ∷ []) 1)
unfolding run reading number_of numerator denominator
path_value = says (codes "param ResultsPath default 5e-10 := 1e-10;") (blocks [] (param 44 (Some (pos 1)) (value [] (pos 0) 36 ∷ []) ∷ []) 1) refl

-- ---- one fault of each kind, and its column

-- 1: a byte begins no token, or may not stand in quotes
stray_byte : FaultAt (codes "set @;") bad_byte (mark 1 5)
unfolding run reading number_of numerator denominator
stray_byte = has_fault (codes "set @;") bad_byte 5 refl

tab_in_quotes : FaultAt (codes "set YEAR 'a\tb';") bad_byte (mark 1 12)
unfolding run reading number_of numerator denominator
tab_in_quotes = has_fault (codes "set YEAR 'a\tb';") bad_byte 12 refl

-- 2: the line ends before the closing quote
open_quotes : FaultAt (codes "set YEAR 'a;") open_string (mark 1 10)
unfolding run reading number_of numerator denominator
open_quotes = has_fault (codes "set YEAR 'a;") open_string 10 refl

-- 3: a comment has no end
comment_without_end : FaultAt (codes "set /* ;") open_comment (mark 1 5)
unfolding run reading number_of numerator denominator
comment_without_end = has_fault (codes "set /* ;") open_comment 5 refl

-- 4: no rule allows the token here
sign_for_a_name : FaultAt (codes "set := a;") unexpected (mark 1 5)
unfolding run reading number_of numerator denominator
sign_for_a_name = has_fault (codes "set := a;") unexpected 5 refl

second_comma : FaultAt (codes "set REGION, , R;") unexpected (mark 1 13)
unfolding run reading number_of numerator denominator
second_comma = has_fault (codes "set REGION, , R;") unexpected 13 refl

-- in tabbing data `:=`, `:`, `[` and `(` stand nowhere after the first `:=`
second_gives : FaultAt (codes "param : CapitalCost := :=;") unexpected (mark 1 24)
unfolding run reading number_of numerator denominator
second_gives = has_fault (codes "param : CapitalCost := :=;") unexpected 24 refl

colon_in_tabbing : FaultAt (codes "param : CapitalCost := :") unexpected (mark 1 24)
unfolding run reading number_of numerator denominator
colon_in_tabbing = has_fault (codes "param : CapitalCost := :") unexpected 24 refl

bracket_in_tabbing : FaultAt (codes "param : CapitalCost := [") unexpected (mark 1 24)
unfolding run reading number_of numerator denominator
bracket_in_tabbing = has_fault (codes "param : CapitalCost := [") unexpected 24 refl

paren_in_tabbing : FaultAt (codes "param : CapitalCost := (") unexpected (mark 1 24)
unfolding run reading number_of numerator denominator
paren_in_tabbing = has_fault (codes "param : CapitalCost := (") unexpected 24 refl

-- `:=` ends no row
gives_in_a_row : FaultAt (codes "param OperationalLife : T U := R 1 := 2;") unexpected (mark 1 36)
unfolding run reading number_of numerator denominator
gives_in_a_row = has_fault (codes "param OperationalLife : T U := R 1 := 2;") unexpected 36 refl

-- a quoted symbol without characters is none
empty_symbol : FaultAt (codes "param CapitalCost R T '' 5;") unexpected (mark 1 23)
unfolding run reading number_of numerator denominator
empty_symbol = has_fault (codes "param CapitalCost R T '' 5;") unexpected 23 refl

-- 5: the text ends inside a statement
unfinished : FaultAt (codes "set YEAR") end_too_soon (mark 1 9)
unfolding run reading number_of numerator denominator
unfinished = has_fault (codes "set YEAR") end_too_soon 9 refl

-- 6: the name is neither a set's nor a parameter's
unknown : FaultAt (codes "set YEARS := 2020;") unknown_name (mark 1 5)
unfolding run reading number_of numerator denominator
unknown = has_fault (codes "set YEARS := 2020;") unknown_name 5 refl

-- that of a parameter where a set's is due is another fault
known_elsewhere : FaultAt (codes "set YearSplit;") unexpected (mark 1 5)
unfolding run reading number_of numerator denominator
known_elsewhere = has_fault (codes "set YearSplit;") unexpected 5 refl

-- 7: a second statement, at its name
twice : FaultAt (codes "set YEAR; set YEAR;") given_twice (mark 1 15)
unfolding run reading number_of numerator denominator
twice = has_fault (codes "set YEAR; set YEAR;") given_twice 15 refl

-- 8: a comma after the last place of a slice
place_too_many : FaultAt (codes "param CapitalCost [R,T,2020, 5;") wrong_slice (mark 1 28)
unfolding run reading number_of numerator denominator
place_too_many = has_fault (codes "param CapitalCost [R,T,2020, 5;") wrong_slice 28 refl

-- a closing bracket where a place is due
place_due : FaultAt (codes "param CapitalCost [R, ]") wrong_slice (mark 1 23)
unfolding run reading number_of numerator denominator
place_due = has_fault (codes "param CapitalCost [R, ]") wrong_slice 23 refl

-- a closing bracket where places are missing
more_places_due : FaultAt (codes "param CapitalCost := [R,T] 5;") wrong_slice (mark 1 26)
unfolding run reading number_of numerator denominator
more_places_due = has_fault (codes "param CapitalCost := [R,T] 5;") wrong_slice 26 refl

-- a slice of a parameter without subscripts
no_places : FaultAt (codes "param ResultsPath := [") wrong_slice (mark 1 22)
unfolding run reading number_of numerator denominator
no_places = has_fault (codes "param ResultsPath := [") wrong_slice 22 refl

-- a table where three subscripts are free, straight and transposed
no_table : FaultAt (codes "param CapitalCost : 2020 := T 5;") wrong_slice (mark 1 19)
unfolding run reading number_of numerator denominator
no_table = has_fault (codes "param CapitalCost : 2020 := T 5;") wrong_slice 19 refl

no_transposed_table : FaultAt (codes "param CapitalCost (tr) : 2020 := T 5;") wrong_slice (mark 1 19)
unfolding run reading number_of numerator denominator
no_transposed_table = has_fault (codes "param CapitalCost (tr) : 2020 := T 5;") wrong_slice 19 refl

-- a table of a parameter without subscripts
no_free_places : FaultAt (codes "param ResultsPath :") wrong_slice (mark 1 19)
unfolding run reading number_of numerator denominator
no_free_places = has_fault (codes "param ResultsPath :") wrong_slice 19 refl

-- 9: a row ends before it has a value for each column
short_row : FaultAt (codes "param OperationalLife : T U := R 1;") row_too_short (mark 1 35)
unfolding run reading number_of numerator denominator
short_row = has_fault (codes "param OperationalLife : T U := R 1;") row_too_short 35 refl

-- 10: a symbol stands where a number is due, and is none
quoted_number : FaultAt (codes "param CapitalCost R T 2020 '5';") bad_number (mark 1 28)
unfolding run reading number_of numerator denominator
quoted_number = has_fault (codes "param CapitalCost R T 2020 '5';") bad_number 28 refl

-- 11: in tabbing data a symbol or `:` stands where `:=` is due
two_names : FaultAt (codes "param : CapitalCost FixedCost := R T 2020 5 1;") tabbing (mark 1 21)
unfolding run reading number_of numerator denominator
two_names = has_fault (codes "param : CapitalCost FixedCost := R T 2020 5 1;") tabbing 21 refl

two_colons : FaultAt (codes "param : CapitalCost : := ;") tabbing (mark 1 21)
unfolding run reading number_of numerator denominator
two_colons = has_fault (codes "param : CapitalCost : := ;") tabbing 21 refl

-- ---- places

-- a text that ends too soon does so after its last byte: here two lines down, after a blank that follows the last token
soon_after_blanks : FaultAt (codes "set YEAR := 2020\n\n ") end_too_soon (mark 3 2)
unfolding run reading number_of numerator denominator
soon_after_blanks = refuses_fault statement_laws (codes "set YEAR := 2020\n\n ") end_too_soon (mark 3 2) refl

soon_after_a_token : FaultAt (codes "set YEAR := 2020\n\n ") end_too_soon (mark 1 17) → ⊥
soon_after_a_token h = let same = one_fault statement_laws (codes "set YEAR := 2020\n\n ") end_too_soon end_too_soon (mark 3 2) (mark 1 17) soon_after_blanks h in let lines : ◌≡◌ {A = ℕ} 3 1 = ap (λ (m : Mark). m.line) same.1 in absurd (omega (arith, lines))

-- a fault is on the line on which its token stands
second_line : FaultAt (codes "set YEAR;\n set YEAR;") given_twice (mark 2 6)
unfolding run reading number_of numerator denominator
second_line = refuses_fault statement_laws (codes "set YEAR;\n set YEAR;") given_twice (mark 2 6) refl

-- what says something has no fault
no_fault : FaultAt (codes "set REGION, R, S;") unexpected (mark 1 11) → ⊥
no_fault h = not_both statement_laws (codes "set REGION, R, S;") _ unexpected (mark 1 11) comma_after_name h
