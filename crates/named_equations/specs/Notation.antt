-- How the equations are written down: sums over a set, the three signs, and the powers of ten that make both sides whole.
use Rattle.std.specs.Prelude.{ℕ, ◌*◌, ◌^◌, ℤ, pos, ◌+ℤ◌, List, [], ◌∷◌}
use Rattle.discount_factors.specs.Factors.{unit_of}
use Rattle.row_core.specs.declared.Sense.TheVariants.{Least, Equal, Most}
use Rattle.row_core.specs.Statements.{Statement}

infix 4 ◌equals◌ ◌at_most◌ ◌at_least◌
-- the sum of f over these positions
abbrev pub sum_over : List ℕ → (ℕ → ℤ) → ℤ
sum_over [] f = pos 0
sum_over (i ∷ is) f = f i +ℤ sum_over is f

-- left = right
abbrev pub ◌equals◌ : ℤ → ℤ → Statement
left equals right = record { left = left; sign = Equal; right = right }

-- left <= right
abbrev pub ◌at_most◌ : ℤ → ℤ → Statement
left at_most right = record { left = left; sign = Most; right = right }

-- left >= right
abbrev pub ◌at_least◌ : ℤ → ℤ → Statement
left at_least right = record { left = left; sign = Least; right = right }

-- the scale of n data values, each of them in billionths
abbrev pub scale_of : ℕ → ℤ
scale_of n = pos (10 ^ (9 * n))

-- the scale of a written factor of so many decimal places
abbrev pub factor_scale : ℕ → ℤ
factor_scale places = pos (unit_of places)
