-- The program that the text states is that of the rows.
use Rattle.mps_reading.proofs.Common.{◌≡◌, ℕ, ◌+◌, ◌≤◌, ◌^◌, Bool, true, false, not, cond, List, [], ◌∷◌, ◌++◌, length, map, Some, None, refl, ap, sym, ◌∙◌, subst, arith, inl, inr, ◌⊎◌, eqb-true, ℤ, pos, negsuc, codes, unsigned_abs, ◌==◌, AllByRecursion, enumerate_from, flat_map, append-nil, Var, TOTAL_DISCOUNTED_COST, ascends, is_zero, variables_of, var_cmp, RowContents, Name, column_stated, columns_in, entries_at, is_among, program_stated, row_stated, side_at, ProgramEntry, Statements, AreOfRow, all-chosen, all-columns, all-each, all-entries, all-numbered, all-sides, all-weaker, all-with, entries_at-append, flat_map-same, map-same, numbers_in, one_if, lettered, column_of, cost_of_column, is_cost, letter_of, name_of_column, program_column, program_of_contents, program_row}
use Rattle.std.specs.Str.{bytes_eq}
use Rattle.mps_reading.proofs.Places.{Among, columns-are, same, same-self}
use Rattle.mps_reading.proofs.Sections.{column_entries, column_letter, cost_entry, entries_for, entry_at, has_side, named_row, row_letter}
use Rattle.mps_reading.proofs.Whole.{statements_of_rows}
use Rattle.mps_writer.specs.MpsText as writer

-- ---- lists

pub all-append : {A : Type 0} (P : A → Type 0) (xs ys : List A) → AllByRecursion P xs → AllByRecursion P ys → AllByRecursion P (xs ++ ys)
all-append P [] ys all more = more
all-append P (x ∷ xs) ys all more = (all.0, all-append P xs ys all.1 more)

pub all-flat_map : {A B : Type 0} (P : B → Type 0) (f : A → List B) (xs : List A) → AllByRecursion (λ x. AllByRecursion P (f x)) xs → AllByRecursion P (flat_map f xs)
all-flat_map P f [] all = tt
all-flat_map P f (x ∷ xs) all = all-append P (f x) (flat_map f xs) all.0 (all-flat_map P f xs all.1)

pub all-if : {A B : Type 0} (P : B → Type 0) (test : A → Bool) (give : A → B) (x : A) → P (give x) → AllByRecursion P (one_if test give x)
all-if P test give x holds = step (test x)
  where
    step : (b : Bool) → AllByRecursion P (cond b (give x ∷ []) [])
    step true = (holds, tt)
    step false = tt

pub map-singles : {A B C : Type 0} (f : B → C) (g : A → B) (xs : List A) → map f (flat_map (λ x. g x ∷ []) xs) ≡ map (λ x. f (g x)) xs
map-singles f g [] = refl
map-singles f g (x ∷ xs) = ap (λ ys. f (g x) ∷ ys) (map-singles f g xs)

pub map-map : {A B C : Type 0} (f : B → C) (g : A → B) (xs : List A) → map f (map g xs) ≡ map (λ x. f (g x)) xs
map-map f g [] = refl
map-map f g (x ∷ xs) = ap (λ ys. f (g x) ∷ ys) (map-map f g xs)

all-for : {A B : Type 0} (Q : B → A → Type 0) (xs : List A) → ((b : B) → AllByRecursion (Q b) xs) → AllByRecursion (λ x. (b : B) → Q b x) xs
all-for Q [] each = tt
all-for Q (x ∷ xs) each = ((λ b. (each b).0), all-for Q xs (λ b. (each b).1))

entries_at-each : {A : Type 0} (row : Name) (give : A → List ProgramEntry) (xs : List A) → entries_at row (flat_map give xs) ≡ flat_map (λ x. entries_at row (give x)) xs
entries_at-each row give [] = refl
entries_at-each row give (x ∷ xs) = entries_at-append row (give x) (flat_map give xs) ∙ ap (λ ns. entries_at row (give x) ++ ns) (entries_at-each row give xs)

-- ---- costs

-- no entry of another row is the objective's
none-of_cost : (es : List ProgramEntry) → AllByRecursion (λ e. bytes_eq e.row (codes "COST") ≡ false) es → entries_at (codes "COST") es ≡ []
none-of_cost [] all = refl
none-of_cost (e ∷ es) all = rw all.0 (none-of_cost es all.1)

-- an entry of the objective is none of a row's
own-cost : (c : ℕ × Var) (b : Bool) → entries_at (codes "COST") (cond b (cost_entry c ∷ []) []) ≡ cond b ((name_of_column c.0, pos 1) ∷ []) []
own-cost c true = refl
own-cost c false = refl

not-cost : (c : ℕ × Var) (n : ℕ) (b : Bool) → entries_at (lettered row_letter n) (cond b (cost_entry c ∷ []) []) ≡ []
not-cost c n true = refl
not-cost c n false = refl

pub rows-of : (j : ℕ) (v : Var) (r : ℕ × RowContents) → AreOfRow (lettered row_letter r.0) (entries_for j v r)
rows-of j v r = all-flat_map (λ e. e.row ≡ lettered row_letter r.0) _ r.1.entries (all-each _ (λ e. all-if (λ e. e.row ≡ lettered row_letter r.0) (λ e. same e.0 v) (λ e. entry_at j r.0 e.1) e refl) r.1.entries)

others-than_cost : (j : ℕ) (v : Var) (rs : List (ℕ × RowContents)) → AllByRecursion (λ e. bytes_eq e.row (codes "COST") ≡ false) (flat_map (entries_for j v) rs)
others-than_cost j v rs =
    all-flat_map _ (entries_for j v) rs (all-each _ (λ r. all-weaker (λ e. e.row ≡ lettered row_letter r.0) _ (λ e is. ap (λ n. bytes_eq n (codes "COST")) is) (entries_for j v r) (rows-of j v r)) rs)

module _ (rows : List RowContents) (columns : List Var) where
  abbrev numbered_rows : List (ℕ × RowContents)
  numbered_rows = enumerate_from 1 rows

  abbrev numbered_columns : List (ℕ × Var)
  numbered_columns = enumerate_from 1 columns

  costs-at : (c : ℕ × Var) → entries_at (codes "COST") (column_entries numbered_rows c) ≡ cost_of_column c
  costs-at c =
      entries_at-append (codes "COST") (one_if is_cost cost_entry c) (flat_map (entries_for c.0 c.1) numbered_rows)
      ∙ ap (λ ns. entries_at (codes "COST") (one_if is_cost cost_entry c) ++ ns) (none-of_cost (flat_map (entries_for c.0 c.1) numbered_rows) (others-than_cost c.0 c.1 numbered_rows))
      ∙ append-nil (entries_at (codes "COST") (one_if is_cost cost_entry c)) ∙ own-cost c (is_cost c)

  costs-are : entries_at (codes "COST") (statements_of_rows rows columns).entries ≡ flat_map cost_of_column numbered_columns
  costs-are =
      entries_at-each (codes "COST") (column_entries numbered_rows) numbered_columns
      ∙ flat_map-same (λ c. entries_at (codes "COST") (column_entries numbered_rows c)) cost_of_column numbered_columns (all-each _ costs-at numbered_columns)

-- ---- rows

-- the row's variables ascend, and are among the columns
pub record IsWithColumns (columns : List Var) (row : RowContents) : Type 0 where
  pub ascending : ascends var_cmp (variables_of row.entries) ≡ true
  pub among : AllByRecursion (Among columns) (variables_of row.entries)

zero-is : (z : ℤ) → is_zero z ≡ true → z ≡ pos 0
zero-is (pos n) e = ap pos (eqb-true n 0 e)
zero-is (negsuc n) e = absurd (omega (arith, eqb-true (unsigned_abs (negsuc n)) 0 e))

side-is : (z : ℤ) (b : Bool) → is_zero z ≡ b → cond (not b) z (pos 0) ≡ z
side-is z true e = sym (zero-is z e)
side-is z false e = refl

module _ (rows : List RowContents) (columns : List Var) (few_rows : 1 + length rows ≤ 10 ^ 64) (few_columns : 1 + length columns ≤ 10 ^ 64) (up : ascends var_cmp columns ≡ true)
    (with_columns : AllByRecursion (IsWithColumns columns) rows) where
  abbrev all_rows : List (ℕ × RowContents)
  all_rows = enumerate_from 1 rows

  abbrev all_columns : List (ℕ × Var)
  all_columns = enumerate_from 1 columns

  abbrev stated : Statements
  stated = statements_of_rows rows columns

  -- what stands at a row in each column
  at-column : (c : ℕ × Var) → AllByRecursion (λ r. entries_at (lettered row_letter r.0) (column_entries all_rows c) ≡ numbers_in (entries_for c.0 c.1 r)) all_rows
  at-column c =
      all-weaker (λ r. entries_at (lettered row_letter r.0) (flat_map (entries_for c.0 c.1) all_rows) ≡ numbers_in (entries_for c.0 c.1 r)) _
      (λ r own.
      entries_at-append (lettered row_letter r.0) (one_if is_cost cost_entry c) (flat_map (entries_for c.0 c.1) all_rows)
      ∙ ap (λ ns. ns ++ entries_at (lettered row_letter r.0) (flat_map (entries_for c.0 c.1) all_rows)) (not-cost c r.0 (is_cost c)) ∙ own)
      all_rows (all-entries row_letter (entries_for c.0 c.1) 1 rows (rows-of c.0 c.1) few_rows)

  entries-are : AllByRecursion (λ r. entries_at (lettered row_letter r.0) stated.entries ≡ map (λ e. (column_of columns e.0, e.1)) r.1.entries) all_rows
  entries-are =
      all-with (λ r. IsWithColumns columns r.1) (λ r. (c : ℕ × Var) → entries_at (lettered row_letter r.0) (column_entries all_rows c) ≡ numbers_in (entries_for c.0 c.1 r)) _
      (λ r is each.
      entries_at-each (lettered row_letter r.0) (column_entries all_rows) all_columns
      ∙ flat_map-same (λ c. entries_at (lettered row_letter r.0) (column_entries all_rows c)) (λ c. numbers_in (entries_for c.0 c.1 r)) all_columns (all-each _ each all_columns)
      ∙ columns-are r.0 1 columns r.1.entries up is.ascending is.among)
      all_rows (all-numbered (IsWithColumns columns) 1 rows with_columns)
      (all-for (λ c r. entries_at (lettered row_letter r.0) (column_entries all_rows c) ≡ numbers_in (entries_for c.0 c.1 r)) all_rows at-column)

  sides-are : AllByRecursion (λ r. side_at (lettered row_letter r.0) stated.sides ≡ r.1.rhs) all_rows
  sides-are =
      all-weaker (λ r. side_at (lettered row_letter r.0) stated.sides ≡ cond (has_side r) r.1.rhs (pos 0)) _ (λ r own. own ∙ side-is r.1.rhs (is_zero r.1.rhs) refl) all_rows
      (all-sides row_letter has_side (λ r. r.1.rhs) 1 rows few_rows)

  rows-are : map (row_stated stated) stated.rows ≡ map (program_row columns) all_rows
  rows-are =
      map-singles (row_stated stated) named_row all_rows
      ∙ map-same (λ r. row_stated stated (named_row r)) (program_row columns) all_rows
      (all-with (λ r. entries_at (lettered row_letter r.0) stated.entries ≡ map (λ e. (column_of columns e.0, e.1)) r.1.entries) (λ r. side_at (lettered row_letter r.0) stated.sides ≡ r.1.rhs) _
      (λ r entries side.
      ap (λ es. record { name = lettered row_letter r.0; sense = letter_of r.1.sense; entries = es; right_side = side_at (lettered row_letter r.0) stated.sides }) entries
      ∙ ap (λ z. record { name = lettered row_letter r.0; sense = letter_of r.1.sense; entries = map (λ e. (column_of columns e.0, e.1)) r.1.entries; right_side = z }) side)
      all_rows entries-are sides-are)

-- ---- columns

-- one entry or more
pub record IsSome (entries : List ProgramEntry) : Type 0 where
  pub first : ProgramEntry
  pub others : List ProgramEntry
  pub are : entries ≡ first ∷ others

some-left : (xs ys : List ProgramEntry) → IsSome xs → IsSome (xs ++ ys)
some-left xs ys some = record { first = some.first; others = some.others ++ ys; are = ap (λ es. es ++ ys) some.are }

some-right : (xs ys : List ProgramEntry) → IsSome ys → IsSome (xs ++ ys)
some-right [] ys some = some
some-right (x ∷ xs) ys some = record { first = x; others = xs ++ ys; are = refl }

some-if : (b : Bool) (e : ProgramEntry) → b ≡ true → IsSome (cond b (e ∷ []) [])
some-if true e h = record { first = e; others = []; are = refl }
some-if false e h = absurd (cc h)

-- the variables of the rows' entries
abbrev pub variables_in : List RowContents → List Var
variables_in rows = flat_map (λ r. variables_of r.entries) rows

some-of_row : (j i : ℕ) (v : Var) (es : List (Var × ℤ)) → Among (variables_of es) v → IsSome (flat_map (one_if (λ e. same e.0 v) (λ e. entry_at j i e.1)) es)
some-of_row j i v [] there = absurd there
some-of_row j i v (e ∷ es) (inl is) =
    some-left (one_if (λ e. same e.0 v) (λ e. entry_at j i e.1) e) (flat_map (one_if (λ e. same e.0 v) (λ e. entry_at j i e.1)) es)
    (some-if (same e.0 v) (entry_at j i e.1) (subst (λ u. same e.0 u ≡ true) is (same-self e.0)))
some-of_row j i v (e ∷ es) (inr there) =
    some-right (one_if (λ e. same e.0 v) (λ e. entry_at j i e.1) e) (flat_map (one_if (λ e. same e.0 v) (λ e. entry_at j i e.1)) es) (some-of_row j i v es there)

pub among-parts : (xs ys : List Var) (v : Var) → Among (xs ++ ys) v → Among xs v ⊎ Among ys v
among-parts [] ys v there = inr there
among-parts (x ∷ xs) ys v (inl e) = inl (inl e)
among-parts (x ∷ xs) ys v (inr there) = elim (among-parts xs ys v there) [
  | inl first ↦ inl (inr first)
  | inr second ↦ inr second
]

some-of_rows : (j k : ℕ) (v : Var) (rows : List RowContents) → Among (variables_in rows) v → IsSome (flat_map (entries_for j v) (enumerate_from k rows))
some-of_rows j k v [] there = absurd there
some-of_rows j k v (row ∷ rows) there = elim (among-parts (variables_of row.entries) (variables_in rows) v there) [
  | inl first ↦ some-left (entries_for j v (k, row)) (flat_map (entries_for j v) (enumerate_from (k + 1) rows)) (some-of_row j k v row.entries first)
  | inr later ↦ some-right (entries_for j v (k, row)) (flat_map (entries_for j v) (enumerate_from (k + 1) rows)) (some-of_rows j (k + 1) v rows later)
]

-- the column costs something, or a row has an entry there
abbrev pub IsUsed : List RowContents → Var → Type 0
IsUsed rows v = ((v.kind == TOTAL_DISCOUNTED_COST) ≡ true) ⊎ Among (variables_in rows) v

module _ (rows : List RowContents) (columns : List Var) (few_columns : 1 + length columns ≤ 10 ^ 64) (used : AllByRecursion (IsUsed rows) columns) where
  abbrev every_row : List (ℕ × RowContents)
  every_row = enumerate_from 1 rows

  abbrev every_column : List (ℕ × Var)
  every_column = enumerate_from 1 columns

  of-column : (c : ℕ × Var) → AllByRecursion (λ e. e.column ≡ lettered column_letter c.0) (column_entries every_row c)
  of-column c =
      all-append _ (one_if is_cost cost_entry c) (flat_map (entries_for c.0 c.1) every_row) (all-if _ is_cost cost_entry c refl)
      (all-flat_map _ (entries_for c.0 c.1) every_row
      (all-each _ (λ r. all-flat_map _ _ r.1.entries (all-each _ (λ e. all-if (λ e. e.column ≡ lettered column_letter c.0) (λ e. same e.0 c.1) (λ e. entry_at c.0 r.0 e.1) e refl) r.1.entries)) every_row))

  some-in : (c : ℕ × Var) → IsUsed rows c.1 → IsSome (column_entries every_row c)
  some-in c (inl costs) = some-left (one_if is_cost cost_entry c) (flat_map (entries_for c.0 c.1) every_row) (some-if (is_cost c) (cost_entry c) costs)
  some-in c (inr there) = some-right (one_if is_cost cost_entry c) (flat_map (entries_for c.0 c.1) every_row) (some-of_rows c.0 1 c.1 rows there)

  pub columns-named : columns_in (statements_of_rows rows columns).entries ≡ map (λ c. lettered column_letter c.0) every_column
  columns-named =
      all-columns column_letter (column_entries every_row) 1 columns few_columns
      (all-weaker (λ c. IsUsed rows c.1) _ (λ c is.
      let some = some-in c is in
      record { first = some.first; others = some.others; are = some.are; all = subst (AllByRecursion (λ e. e.column ≡ lettered column_letter c.0)) some.are (of-column c) })
      every_column (all-numbered (IsUsed rows) 1 columns used))

  pub columns-stated : map (column_stated (statements_of_rows rows columns)) (columns_in (statements_of_rows rows columns).entries) ≡ map program_column every_column
  columns-stated =
      ap (map (column_stated (statements_of_rows rows columns))) columns-named
      ∙ map-map (column_stated (statements_of_rows rows columns)) (λ c. lettered column_letter c.0) every_column
      ∙ map-same (λ c. column_stated (statements_of_rows rows columns) (lettered column_letter c.0)) program_column every_column
      (all-weaker (λ c. is_among (statements_of_rows rows columns).free (lettered column_letter c.0) ≡ writer.is_free_column c) _
      (λ c is. ap (λ b. record { name = lettered column_letter c.0; least = cond b None (Some (pos 0)) }) is)
      every_column (all-chosen column_letter writer.is_free_column 1 columns few_columns))

-- ---- the program

pub program-stated : (rows : List RowContents) (columns : List Var) → 1 + length rows ≤ 10 ^ 64 → 1 + length columns ≤ 10 ^ 64 → ascends var_cmp columns ≡ true
    → AllByRecursion (IsWithColumns columns) rows → AllByRecursion (IsUsed rows) columns → program_stated (statements_of_rows rows columns) ≡ program_of_contents rows columns
program-stated rows columns few_rows few_columns up with_columns used =
    let s = statements_of_rows rows columns in
    ap (λ cs. record { costs = cs; rows = map (row_stated s) s.rows; columns = map (column_stated s) (columns_in s.entries) }) (costs-are rows columns)
    ∙ ap (λ rs. record { costs = flat_map cost_of_column (enumerate_from 1 columns); rows = rs; columns = map (column_stated s) (columns_in s.entries) }) (rows-are rows columns few_rows few_columns up with_columns)
    ∙ ap (λ cs. record { costs = flat_map cost_of_column (enumerate_from 1 columns); rows = map (program_row columns) (enumerate_from 1 rows); columns = cs }) (columns-stated rows columns few_columns used)
