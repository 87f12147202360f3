-- What each section of the text states.
use Rattle.mps_reading.proofs.Common.{◌≡◌, ℕ, ◌+◌, ◌<◌, ◌≤◌, ◌^◌, Bool, true, false, not, cond, List, [], ◌∷◌, ◌++◌, length, Option, refl, append_assoc, sym, subst, ℤ, pos, unsigned_abs, codes, AllByRecursion, enumerate_from, flat_map, signed_decimal, SetLists, Sense, Least, Equal, Most, Var, row_name, variable_name, is_zero, RowContents, Name, is_one_line, NamedRow, ProgramEntry, entry_line, free_line, row_line, side_line, IsInWord, IsWord, one_line-from_test, spaced, IsFrom, chosen, one_if, paired, all-with, all-numbered, all-weaker, numbered-from, lettered, number-read, word-lettered, word-number, States, states-append, states-comment, states-each, states-line, states-nothing, is_cost, letter_of}
use Rattle.mps_writer.specs.MpsText as writer

-- ---- what the lines state

-- the names of rows and columns begin with these letters
abbrev pub row_letter : ℕ
row_letter = 82

abbrev pub column_letter : ℕ
column_letter = 67

abbrev pub named_row : ℕ × RowContents → NamedRow
named_row r = record { name = lettered row_letter r.0; sense = letter_of r.1.sense }

-- the entry of column j at row i
abbrev pub entry_at : ℕ → ℕ → ℤ → ProgramEntry
entry_at j i n = record { column = lettered column_letter j; row = lettered row_letter i; number = n }

-- the row's entry at the variable of column j
abbrev pub entries_for : ℕ → Var → ℕ × RowContents → List ProgramEntry
entries_for j v r = flat_map (one_if (λ e. writer.is_same_variable e.0 v) (λ e. entry_at j r.0 e.1)) r.1.entries

abbrev pub cost_entry : ℕ × Var → ProgramEntry
cost_entry c = record { column = lettered column_letter c.0; row = codes "COST"; number = pos 1 }

-- all entries of a column
abbrev pub column_entries : List (ℕ × RowContents) → ℕ × Var → List ProgramEntry
column_entries rows c = one_if is_cost cost_entry c ++ flat_map (entries_for c.0 c.1) rows

-- the row has a right side that isn't 0
abbrev pub has_side : ℕ × RowContents → Bool
has_side r = not (is_zero r.1.rhs)

abbrev pub side_of : ℕ × RowContents → Name × ℤ
side_of r = paired row_letter (λ r. r.1.rhs) r

abbrev pub free_name : ℕ × Var → Name
free_name c = lettered column_letter c.0

-- ---- what is asked of rows and columns

-- the number has at most 64 digits
abbrev pub IsShort : ℤ → Type 0
IsShort z = unsigned_abs z < 10 ^ 64

pub record IsPrintedRow (sets : SetLists) (row : RowContents) : Type 0 where
  pub one_line : is_one_line (row_name sets row.name) ≡ true
  pub entries : AllByRecursion (λ e. IsShort e.1) row.entries
  pub right_side : IsShort row.rhs

-- ---- lines

-- a comment with a name
comment : {A : Type 0} (reads : List Name → Option A) (name : List ℕ) → is_one_line name ≡ true → States reads (writer.line (codes "* " ++ name)) []
comment reads name one = states-comment reads (32 ∷ name) (record { bytes = (refl, (one_line-from_test name one).bytes) })

letter-word : (byte : ℕ) → IsInWord byte → IsWord (byte ∷ [])
letter-word byte is = record { first = byte; others = []; is = refl; bytes = (is, tt) }

row-line : (sense : Sense) (i : ℕ) → i < 10 ^ 64
    → States row_line (writer.line (codes " " ++ writer.sense_letter sense ++ codes " " ++ writer.row_label i)) (record { name = lettered row_letter i; sense = letter_of sense } ∷ [])
row-line Least i short = states-line row_line (71 ∷ []) (lettered row_letter i ∷ []) _ (letter-word 71 (refl, refl), (word-lettered row_letter i (refl, refl) short, tt)) refl
row-line Equal i short = states-line row_line (69 ∷ []) (lettered row_letter i ∷ []) _ (letter-word 69 (refl, refl), (word-lettered row_letter i (refl, refl) short, tt)) refl
row-line Most i short = states-line row_line (76 ∷ []) (lettered row_letter i ∷ []) _ (letter-word 76 (refl, refl), (word-lettered row_letter i (refl, refl) short, tt)) refl

pub row-states : (sets : SetLists) (r : ℕ × RowContents) → IsPrintedRow sets r.1 → r.0 < 10 ^ 64 → States row_line (writer.row_lines sets r) (named_row r ∷ [])
row-states sets r printed short =
    states-append row_line (writer.line (codes "* " ++ row_name sets r.1.name)) _ [] (named_row r ∷ []) (comment row_line (row_name sets r.1.name) printed.one_line) (row-line r.1.sense r.0 short)

-- three words, and two after RHS, as the writer puts them together
three-spaced : (a b c : List ℕ) → codes " " ++ a ++ codes " " ++ b ++ codes " " ++ c ≡ spaced (a ∷ b ∷ c ∷ [])
three-spaced a b c = simp append_assoc

two-spaced : (b c : List ℕ) → codes " RHS " ++ b ++ codes " " ++ c ≡ spaced (codes "RHS" ∷ b ∷ c ∷ [])
two-spaced b c = simp append_assoc

entry-states : (j i : ℕ) (n : ℤ) → j < 10 ^ 64 → i < 10 ^ 64 → IsShort n → States entry_line (writer.entry_line j i n) (entry_at j i n ∷ [])
entry-states j i n j_short i_short short =
    subst (λ t. States entry_line (writer.line t) (entry_at j i n ∷ [])) (sym (three-spaced (lettered column_letter j) (lettered row_letter i) (signed_decimal n))) (
    states-line entry_line (lettered column_letter j) (lettered row_letter i ∷ signed_decimal n ∷ []) (entry_at j i n)
    (word-lettered column_letter j (refl, refl) j_short, (word-lettered row_letter i (refl, refl) i_short, (word-number n short, tt)))
    (rw (number-read n short)))

-- what is stated where a test passes
states-if : {A : Type 0} (reads : List Name → Option A) (b : Bool) (text : List ℕ) (item : A) → States reads text (item ∷ []) → States reads (cond b text []) (cond b (item ∷ []) [])
states-if reads true text item states = states
states-if reads false text item states = states-nothing reads

states-unless : {A : Type 0} (reads : List Name → Option A) (b : Bool) (text : List ℕ) (item : A) → States reads text (item ∷ []) → States reads (cond b [] text) (cond (not b) (item ∷ []) [])
states-unless reads true text item states = states-nothing reads
states-unless reads false text item states = states

row_entries-state : (j : ℕ) (v : Var) (r : ℕ × RowContents) → j < 10 ^ 64 → r.0 < 10 ^ 64 → AllByRecursion (λ e. IsShort e.1) r.1.entries
    → States entry_line (writer.entry_lines j v r) (entries_for j v r)
row_entries-state j v r j_short i_short short =
    states-each entry_line _ _ r.1.entries
    (all-weaker (λ e. IsShort e.1) _ (λ e number. states-if entry_line (writer.is_same_variable e.0 v) (writer.entry_line j r.0 e.1) (entry_at j r.0 e.1) (entry-states j r.0 e.1 j_short i_short number)) r.1.entries short)

cost-states : (c : ℕ × Var) → c.0 < 10 ^ 64 → States entry_line (writer.cost_line c.0 c.1) (one_if is_cost cost_entry c)
cost-states c short = states-if entry_line (is_cost c) (writer.line (codes " " ++ writer.column_label c.0 ++ codes " COST 1")) (cost_entry c)
    (states-line entry_line (lettered column_letter c.0) (codes "COST" ∷ codes "1" ∷ []) (cost_entry c)
    (word-lettered column_letter c.0 (refl, refl) short, (record { first = 67; others = 79 ∷ 83 ∷ 84 ∷ []; is = refl; bytes = ((refl, refl), ((refl, refl), ((refl, refl), ((refl, refl), tt)))) }, (letter-word 49 (refl, refl), tt)))
    refl)

-- the numbered rows can be printed
abbrev pub ArePrinted : SetLists → List (ℕ × RowContents) → Type 0
ArePrinted sets rows = AllByRecursion (λ r. IsPrintedRow sets r.1 × IsFrom 1 r) rows

pub column-states : (sets : SetLists) (rows : List RowContents) (c : ℕ × Var) → ArePrinted sets (enumerate_from 1 rows) → is_one_line (variable_name sets c.1) ≡ true → c.0 < 10 ^ 64
    → States entry_line (writer.column_lines sets rows c) (column_entries (enumerate_from 1 rows) c)
column-states sets rows c printed one short =
    states-append entry_line (writer.column_head sets c) _ (one_if is_cost cost_entry c) _
    (states-append entry_line (writer.line (codes "* " ++ variable_name sets c.1)) (writer.cost_line c.0 c.1) [] (one_if is_cost cost_entry c)
    (comment entry_line (variable_name sets c.1) one) (cost-states c short))
    (states-each entry_line (writer.entry_lines c.0 c.1) (entries_for c.0 c.1) (enumerate_from 1 rows)
    (all-weaker (λ r. IsPrintedRow sets r.1 × IsFrom 1 r) _ (λ r is. row_entries-state c.0 c.1 r short is.1.1 is.0.entries) (enumerate_from 1 rows) printed))

rhs-word : IsWord (codes "RHS")
rhs-word = record { first = 82; others = 72 ∷ 83 ∷ []; is = refl; bytes = ((refl, refl), ((refl, refl), ((refl, refl), tt))) }

side-line : (i : ℕ) (n : ℤ) → i < 10 ^ 64 → IsShort n
    → States side_line (writer.line (codes " RHS " ++ writer.row_label i ++ codes " " ++ signed_decimal n)) ((lettered row_letter i, n) ∷ [])
side-line i n i_short short =
    subst (λ t. States side_line (writer.line t) ((lettered row_letter i, n) ∷ [])) (sym (two-spaced (lettered row_letter i) (signed_decimal n))) (
    states-line side_line (codes "RHS") (lettered row_letter i ∷ signed_decimal n ∷ []) (lettered row_letter i, n)
    (rhs-word, (word-lettered row_letter i (refl, refl) i_short, (word-number n short, tt)))
    (rw (number-read n short)))

pub side-states : (sets : SetLists) (r : ℕ × RowContents) → IsPrintedRow sets r.1 → r.0 < 10 ^ 64 → States side_line (writer.rhs_line r) (one_if has_side side_of r)
side-states sets r printed short = states-unless side_line (is_zero r.1.rhs) _ (side_of r) (side-line r.0 r.1.rhs short printed.right_side)

free-line : (j : ℕ) → j < 10 ^ 64 → States free_line (writer.line (codes " FR BND " ++ writer.column_label j)) (lettered column_letter j ∷ [])
free-line j short =
    states-line free_line (codes "FR") (codes "BND" ∷ lettered column_letter j ∷ []) (lettered column_letter j) (
      record { first = 70; others = 82 ∷ []; is = refl; bytes = ((refl, refl), ((refl, refl), tt)) },
      (
        record { first = 66; others = 78 ∷ 68 ∷ []; is = refl; bytes = ((refl, refl), ((refl, refl), ((refl, refl), tt))) },
        (word-lettered column_letter j (refl, refl) short, tt),
      ),
    )
    refl

pub free-states : (c : ℕ × Var) → c.0 < 10 ^ 64 → States free_line (writer.bound_line c) (one_if writer.is_free_column free_name c)
free-states c short = states-if free_line (writer.is_free_column c) _ (free_name c) (free-line c.0 short)

-- ---- sections

pub rows-state : (sets : SetLists) (rows : List RowContents) → ArePrinted sets (enumerate_from 1 rows)
    → States row_line (flat_map (writer.row_lines sets) (enumerate_from 1 rows)) (flat_map (λ r. named_row r ∷ []) (enumerate_from 1 rows))
rows-state sets rows printed =
    states-each row_line (writer.row_lines sets) (λ r. named_row r ∷ []) (enumerate_from 1 rows)
    (all-weaker (λ r. IsPrintedRow sets r.1 × IsFrom 1 r) _ (λ r is. row-states sets r is.0 is.1.1) (enumerate_from 1 rows) printed)

pub sides-state : (sets : SetLists) (rows : List RowContents) → ArePrinted sets (enumerate_from 1 rows)
    → States side_line (flat_map writer.rhs_line (enumerate_from 1 rows)) (chosen has_side side_of (enumerate_from 1 rows))
sides-state sets rows printed =
    states-each side_line writer.rhs_line (one_if has_side side_of) (enumerate_from 1 rows)
    (all-weaker (λ r. IsPrintedRow sets r.1 × IsFrom 1 r) _ (λ r is. side-states sets r is.0 is.1.1) (enumerate_from 1 rows) printed)

pub columns-state : (sets : SetLists) (rows : List RowContents) (columns : List Var) → ArePrinted sets (enumerate_from 1 rows)
    → AllByRecursion (λ v. is_one_line (variable_name sets v) ≡ true) columns → 1 + length columns ≤ 10 ^ 64
    → States entry_line (flat_map (writer.column_lines sets rows) (enumerate_from 1 columns)) (flat_map (column_entries (enumerate_from 1 rows)) (enumerate_from 1 columns))
columns-state sets rows columns printed named few =
    states-each entry_line (writer.column_lines sets rows) (column_entries (enumerate_from 1 rows)) (enumerate_from 1 columns)
    (all-with (λ c. is_one_line (variable_name sets c.1) ≡ true) (IsFrom 1) _ (λ c one from. column-states sets rows c printed one from.1) (enumerate_from 1 columns)
    (all-numbered (λ v. is_one_line (variable_name sets v) ≡ true) 1 columns named) (numbered-from 1 columns few))

pub free-state : (columns : List Var) → 1 + length columns ≤ 10 ^ 64
    → States free_line (flat_map writer.bound_line (enumerate_from 1 columns)) (chosen writer.is_free_column free_name (enumerate_from 1 columns))
free-state columns few =
    states-each free_line writer.bound_line (one_if writer.is_free_column free_name) (enumerate_from 1 columns)
    (all-weaker (IsFrom 1) _ (λ c from. free-states c from.1) (enumerate_from 1 columns) (numbered-from 1 columns few))
