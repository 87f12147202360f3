-- Why a computation on lines stops.
use Rattle.std.specs.Prelude.{◌≡◌, ◌<◌, Bool, false, ℕ, ℤ, List, ⊤}
use Rattle.exact_num.specs.Range.{all_fit}
use Rattle.written_method.specs.Lines.{less_formed}
use Rattle.int_tableau.specs.declared.refused.Refused.{Refused}
use Rattle.int_tableau.specs.declared.refused.Refused.TheVariants.{TooWide, Memory}
use Rattle.int_tableau.specs.Entries.{at}

-- not all of the numbers fit; out of memory has no cause
abbrev pub IsRefusal : Bool → Refused → Type 0
IsRefusal fits TooWide = fits ≡ false
IsRefusal fits Memory = ⊤

-- in some column a number is formed that doesn't fit
abbrev pub IsWideInSome : ℕ → ℤ → ℤ → List (ℕ × ℤ) → List (ℕ × ℤ) → Refused → Type 0
IsWideInSome columns a b xs ys TooWide = (c : ℕ) × (c < columns) × (all_fit (less_formed a b (at xs c) (at ys c)) ≡ false)
IsWideInSome columns a b xs ys Memory = ⊤
