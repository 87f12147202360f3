-- What an equation gives one of its unknowns, from the values of the others.
use Rattle.std.specs.Prelude.{ℤ, pos, List, ◌++◌}
use Rattle.std.specs.declared.cmp.Ordering.{Ordering}
use Rattle.exact_num.specs.Formed.{difference_formed, quotient_formed}
use Rattle.exact_num.specs.Rational.{Rational, whole, minus, divided}
use Rattle.row_core.specs.Evaluated.{sum_from, sum_from_formed}
use Rattle.written_method.specs.Eliminated.{other_entries}

-- the sum of the numbers but the unknown's own, times the values, from left to right
abbrev pub other_sum : {K : Type 0} → (K → K → Ordering) → (K → Rational) → K → List (K × ℤ) → Rational
other_sum cmp value key es = sum_from value (whole (pos 0)) (other_entries cmp key es)

abbrev pub other_sum_formed : {K : Type 0} → (K → K → Ordering) → (K → Rational) → K → List (K × ℤ) → List ℤ
other_sum_formed cmp value key es = sum_from_formed value (whole (pos 0)) (other_entries cmp key es)

-- the right side less that sum, divided by the unknown's own number
abbrev pub solved_for : {K : Type 0} → (K → K → Ordering) → (K → Rational) → K → List (K × ℤ) → ℤ → ℤ → Rational
solved_for cmp value key es right own = divided (minus (whole right) (other_sum cmp value key es)) (whole own)

-- each product, each sum, the difference and the quotient
abbrev pub solved_formed : {K : Type 0} → (K → K → Ordering) → (K → Rational) → K → List (K × ℤ) → ℤ → ℤ → List ℤ
solved_formed cmp value key es right own =
    other_sum_formed cmp value key es
    ++ (difference_formed (whole right) (other_sum cmp value key es)
    ++ quotient_formed (minus (whole right) (other_sum cmp value key es)) (whole own))
