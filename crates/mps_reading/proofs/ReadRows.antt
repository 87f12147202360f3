-- The text of rows reads as their program.
use Rattle.mps_reading.proofs.Common.{◌≡◌, ℕ, ◌+◌, ◌<◌, ◌≤◌, ◌^◌, Bool, true, false, ◌&&◌, List, [], ◌∷◌, ◌++◌, length, map, Some, refl, ap, ◌∙◌, subst, arith, inl, inr, ◌⊎◌, zero, suc, ltb-true, eq-eqb, ℤ, unsigned_abs, Contains, slice_index_or, AllByRecursion, enumerate_from, length-map, SetLists, Var, TOTAL_DISCOUNTED_COST, all_in_range, ascends, in_range, numbers_of, variables_of, row_name, variable_name, var_cmp, RowContents, contents_of, is_one_line, program_of, sound_program, IsFrom, all-numbered, all-weaker, all-with, numbered-from, AreReadable, entry_variables, program_of_contents, program_of_rows, mps_text, rows_text}
use Rattle.row_core.specs.declared.Row.{Row}
use Rattle.mps_reading.proofs.Places.{Among}
use Rattle.mps_reading.proofs.Sections.{ArePrinted, IsPrintedRow, IsShort, columns-state, free-state, rows-state, sides-state}
use Rattle.mps_reading.proofs.Sound.{sound}
use Rattle.mps_reading.proofs.Stated.{IsUsed, IsWithColumns, program-stated, variables_in}
use Rattle.mps_reading.proofs.Whole.{statements_of_rows, text-states}

-- ---- what rows say

contents-read : (sets : SetLists) (rows : List RowContents) (columns : List Var) → 1 + length rows ≤ 10 ^ 64 → 1 + length columns ≤ 10 ^ 64
    → AllByRecursion (IsPrintedRow sets) rows → AllByRecursion (λ v. is_one_line (variable_name sets v) ≡ true) columns → ascends var_cmp columns ≡ true
    → AllByRecursion (IsWithColumns columns) rows → AllByRecursion (IsUsed rows) columns
    → program_of (rows_text sets rows columns) ≡ Some (program_of_contents rows columns)
contents-read sets rows columns few_rows few_columns printed named up with_columns used =
    let all : ArePrinted sets (enumerate_from 1 rows) =
    all-with (λ r. IsPrintedRow sets r.1) (IsFrom 1) (λ r. IsPrintedRow sets r.1 × IsFrom 1 r) (λ r is from. (is, from)) (enumerate_from 1 rows) (all-numbered (IsPrintedRow sets) 1 rows printed) (numbered-from 1 rows few_rows) in
    let states = text-states sets rows columns (rows-state sets rows all) (columns-state sets rows columns all named few_columns) (sides-state sets rows all) (free-state columns few_columns) in
    let is = program-stated rows columns few_rows few_columns up with_columns used in
    states ∙ ap (sound_program (statements_of_rows rows columns)) is ∙ rw (sound rows columns few_rows few_columns up with_columns used) refl

-- ---- rows

-- what rows keep of themselves
short-number : (z : ℤ) → in_range z ≡ true → IsShort z
short-number z fits = omega (arith, ltb-true (unsigned_abs z) (2 ^ 127) fits)

first-true : (a b : Bool) → (a && b) ≡ true → a ≡ true
first-true true b e = refl
first-true false b e = absurd (cc e)

second-true : (a b : Bool) → (a && b) ≡ true → b ≡ true
second-true true b e = e
second-true false b e = absurd (cc e)

short-entries : (es : List (Var × ℤ)) → all_in_range (numbers_of es) ≡ true → AllByRecursion (λ e. IsShort e.1) es
short-entries [] fits = tt
short-entries (e ∷ es) fits =
    (short-number e.1 (first-true (in_range e.1) (all_in_range (numbers_of es)) fits), short-entries es (second-true (in_range e.1) (all_in_range (numbers_of es)) fits))

printed-row : (sets : SetLists) (row : Row) → is_one_line (row_name sets row.name) ≡ true → IsPrintedRow sets (contents_of row)
printed-row sets row one = record {
  one_line = one;
  entries = short-entries row.entries.items (second-true (in_range row.rhs) (all_in_range (numbers_of row.entries.items)) row.fits);
  right_side = short-number row.rhs (first-true (in_range row.rhs) (all_in_range (numbers_of row.entries.items)) row.fits);
}

all-contents : (P : RowContents → Type 0) (rows : List Row) → AllByRecursion (λ row. P (contents_of row)) rows → AllByRecursion P (map contents_of rows)
all-contents P [] all = tt
all-contents P (row ∷ rows) all = (all.0, all-contents P rows all.1)

-- ---- variables

among-at : (vs : List Var) (v : Var) (k : ℕ) → k < length vs → slice_index_or vs k v ≡ v → Among vs v
among-at [] v k inside e = absurd (omega (arith, inside))
among-at (w ∷ vs) v zero inside e = inl e
among-at (w ∷ vs) v (suc k) inside e = inr (among-at vs v k (omega (arith, inside)) e)

pub among-from : (vs : List Var) (v : Var) → Contains vs v → Among vs v
among-from vs v there = among-at vs v there.0 there.1 there.2

pub all-left : {A : Type 0} (P : A → Type 0) (xs ys : List A) → AllByRecursion P (xs ++ ys) → AllByRecursion P xs
all-left P [] ys all = tt
all-left P (x ∷ xs) ys all = (all.0, all-left P xs ys all.1)

pub all-right : {A : Type 0} (P : A → Type 0) (xs ys : List A) → AllByRecursion P (xs ++ ys) → AllByRecursion P ys
all-right P [] ys all = all
all-right P (x ∷ xs) ys all = all-right P xs ys all.1

pub with-columns : (columns : List Var) (rows : List Row) → AllByRecursion (Contains columns) (entry_variables rows) → AllByRecursion (λ row. IsWithColumns columns (contents_of row)) rows
with-columns columns [] listed = tt
with-columns columns (row ∷ rows) listed = (
  record { ascending = row.ascending; among = all-weaker (Contains columns) (Among columns) (among-from columns) (variables_of row.entries.items) (all-left (Contains columns) (variables_of row.entries.items) (entry_variables rows) listed) },
  with-columns columns rows (all-right (Contains columns) (variables_of row.entries.items) (entry_variables rows) listed),
)

variables-are : (rows : List Row) → entry_variables rows ≡ variables_in (map contents_of rows)
variables-are [] = refl
variables-are (row ∷ rows) = ap (λ vs. variables_of row.entries.items ++ vs) (variables-are rows)

used-in : (rows : List Row) (v : Var) → (v.kind ≡ TOTAL_DISCOUNTED_COST) ⊎ Contains (entry_variables rows) v → IsUsed (map contents_of rows) v
used-in rows v (inl e) = inl (eq-eqb v.kind TOTAL_DISCOUNTED_COST e)
used-in rows v (inr there) = inr (subst (λ vs. Among vs v) (variables-are rows) (among-from (entry_variables rows) v there))

-- ---- the law

pub rows-read : (sets : SetLists) (rows : List Row) (columns : List Var) → AreReadable sets rows columns → program_of (mps_text sets rows columns) ≡ Some (program_of_rows rows columns)
rows-read sets rows columns are =
    let count : length (map contents_of rows) ≡ length rows = length-map rows contents_of in
    contents-read sets (map contents_of rows) columns (omega (arith, are.few_rows)) (omega (arith, are.few_columns))
    (all-contents (IsPrintedRow sets) rows (all-weaker (λ row. is_one_line (row_name sets row.name) ≡ true) (λ row. IsPrintedRow sets (contents_of row)) (printed-row sets) rows are.row_names))
    are.column_names are.ascending
    (all-contents (IsWithColumns columns) rows (with-columns columns rows are.listed))
    (all-weaker (λ v. (v.kind ≡ TOTAL_DISCOUNTED_COST) ⊎ Contains (entry_variables rows) v) (IsUsed (map contents_of rows)) (used-in rows) columns are.used)
