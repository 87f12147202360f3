-- Which column enters, and which row leaves.
use Rattle.std.specs.Prelude.{ℕ, suc, ◌==◌, nat_lt, ℤ, pos, int_lt, Bool, true, false, List, [], ◌∷◌, Option, Some, None, if◌then◌else◌}
use Rattle.std.specs.declared.cmp.Ordering.TheVariants.{Less, Equal, Greater}
use Rattle.exact_num.specs.Rational.{lowest, order_of}
use Rattle.written_method.specs.Lines.{Line, entry_of}

-- the column with the greatest entry above `best`, the first of those; from column `at` on, after `chosen` was found with `best`
abbrev pub greatest_from : ℕ → ℤ → Option ℕ → List ℤ → Option ℕ
greatest_from at best chosen [] = chosen
greatest_from at best chosen (z ∷ zs) =
    if int_lt best z then greatest_from (suc at) z (Some at) zs else greatest_from (suc at) best chosen zs

-- the first column with a positive entry
abbrev pub first_positive_from : ℕ → List ℤ → Option ℕ
first_positive_from at [] = None
first_positive_from at (z ∷ zs) = if int_lt (pos 0) z then Some at else first_positive_from (suc at) zs

-- a row that may leave: its right side, its entry in the entering column, and its place among those of the same quotient
pub record Candidate : Type 0 where
  pub row : ℕ
  pub right : ℤ
  pub entry : ℤ
  pub rank : ℕ

-- whether the first leaves before the second: by the quotient of right side by entry, then by rank
abbrev pub leaves_before : Candidate → Candidate → Bool
leaves_before a b =
    elim (order_of (lowest a.right a.entry) (lowest b.right b.entry)) [ Less ↦ true | Equal ↦ nat_lt a.rank b.rank | Greater ↦ false ]

-- x0 is the first at a tie, then the least basic column
abbrev pub rank_of : Option ℕ → ℕ → ℕ
rank_of None basic = basic
rank_of (Some x0) basic = if basic == x0 then 0 else suc basic

-- what a row with this line and this basic column would leave with
abbrev pub candidate_at : Option ℕ → ℕ → ℕ → Line → ℕ → Candidate
candidate_at x0 c row line basic = record { row = row; right = line.right; entry = entry_of line c; rank = rank_of x0 basic }

-- the one that leaves first of what was chosen and one more
abbrev pub better : Option Candidate → Candidate → Candidate
better None a = a
better (Some b) a = if leaves_before a b then a else b

-- the row that leaves for column c, if there is one: from row `at` on, after `chosen`
abbrev pub leaving_from : Option ℕ → ℕ → ℕ → Option Candidate → List Line → List ℕ → Option Candidate
leaving_from x0 c at chosen lines [] = chosen
leaving_from x0 c at chosen [] (b ∷ bs) = chosen
leaving_from x0 c at chosen (line ∷ lines) (b ∷ bs) =
    if int_lt (pos 0) (entry_of line c)
    then leaving_from x0 c (suc at) (Some (better chosen (candidate_at x0 c at line b))) lines bs
    else leaving_from x0 c (suc at) chosen lines bs

-- the row with the least right side, the first of those
abbrev pub least_right_from : ℕ → ℕ → ℤ → List ℤ → ℕ
least_right_from at chosen best [] = chosen
least_right_from at chosen best (z ∷ zs) =
    if int_lt z best then least_right_from (suc at) at z zs else least_right_from (suc at) chosen best zs
