-- Lines of the grid's tableau: the entries other than 0, in ascending order of columns, and the right side. An entry of 0 forms only numbers that fit, and stays 0
-- where the pivot row has 0 too, so these are all numbers of a line.
use Rattle.std.specs.Prelude.{ℕ, ◌==◌, nat_lt, ℤ, pos, unsigned_abs, List, [], ◌∷◌, ◌++◌, Option, Some, if◌then◌else◌}
use Rattle.row_core.specs.Numbers.{is_zero}
use Rattle.decimal_solver.specs.Folds.{folded}
use Rattle.decimal_solver.specs.Numbers.{and_then, reduced_number, scaled_number}

abbrev pub Entries : Type 0
Entries = List (ℕ × ℤ)

pub record Line : Type 0 where
  pub entries : Entries
  pub right : ℤ

-- the entries with one more, unless it is 0
abbrev pub with_entry : Entries → ℕ → ℤ → Entries
with_entry entries c z = if is_zero z then entries else entries ++ (c, z) ∷ []

-- the entry in a column
unfoldable pub entry_in : ℕ → Entries → ℤ
entry_in c [] = pos 0
entry_in c (e ∷ es) = if nat_lt e.0 c then entry_in c es else (if e.0 == c then e.1 else pos 0)

-- ---- the pivot row

-- the entries with one more of these
abbrev pub with_scaled : ℤ → ℕ → ℕ → Entries → ℕ × ℤ → Option Entries
with_scaled f d limit made e = if nat_lt e.0 limit then and_then (scaled_number f e.1 d) (λ z. Some (with_entry made e.0 z)) else Some made

-- near (f * a / d) for each entry a in the columns before `limit`, after those that were made
unfoldable pub scaled_entries : ℤ → ℕ → ℕ → Entries → Entries → Option Entries
scaled_entries f d limit made es = folded (with_scaled f d limit) made es

-- the line, whose entry in column c becomes 1: each number a becomes near (f * a / p), where p is that entry without its sign, and f is 10^9, or -10^9 where the line is multiplied by -1 before
abbrev pub pivot_line : ℤ → ℕ → ℕ → Line → Option Line
pivot_line f c limit line =
    let p : ℕ = unsigned_abs (entry_in c line.entries) in
    and_then (scaled_entries f p limit [] line.entries) (λ es. and_then (scaled_number f line.right p) (λ b. Some (record { entries = es; right = b })))

-- ---- the other lines

-- what is left of entries of 0 by the pivot row's
unfoldable pub filled : ℤ → Entries → Entries → Option Entries
filled q made [] = Some made
filled q made (r ∷ rs) = and_then (reduced_number q r.1 (pos 0)) (λ z. filled q (with_entry made r.0 z) rs)

-- the columns up to that of an entry of the line, and then the rest
unfoldable pub merged_to : ℤ → (Entries → Entries → Option Entries) → ℕ × ℤ → Entries → Entries → Option Entries
merged_to q rest a made [] = rest (with_entry made a.0 a.1) []
merged_to q rest a made (r ∷ rs) =
    if nat_lt r.0 a.0
    then and_then (reduced_number q r.1 (pos 0)) (λ z. merged_to q rest a (with_entry made r.0 z) rs)
    else (if r.0 == a.0 then and_then (reduced_number q r.1 a.1) (λ z. rest (with_entry made r.0 z) rs) else rest (with_entry made a.0 a.1) (r ∷ rs))

-- a - near (q * r / 10^9) in each column, of the entries a of a line and r of the pivot row, after the entries that were made
unfoldable pub merged : ℤ → Entries → Entries → Entries → Option Entries
merged q made [] rs = filled q made rs
merged q made (a ∷ more) rs = merged_to q (λ made rs. merged q made more rs) a made rs

-- a line with q in column c, by the pivot row's new line. A line without an entry there stays
abbrev pub cleared : ℕ → Line → Line → Option Line
cleared c pivot line =
    let q : ℤ = entry_in c line.entries in
    if is_zero q
    then Some line
    else and_then (merged q [] line.entries pivot.entries) (λ es. and_then (reduced_number q pivot.right line.right) (λ b. Some (record { entries = es; right = b })))
