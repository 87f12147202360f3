-- The parts of a fraction's printed form, as an exact value's text.
use Rattle.std.specs.Prelude.{◌≡◌, ℕ, ℤ, pos, negsuc, Bool, true, false, unsigned_abs, ◌==◌, if◌then◌else◌, decimal, Result, Ok}
use Rattle.exact_num.specs.Rational.{Rational}
use Rattle.exact_num.specs.Value.{value_of}
use Rattle.exact_num.specs.declared.fraction.Frac.{Frac}
use Rattle.scaled_decimals.specs.declared.reading.DecFault.{DecFault}
use Rattle.scaled_decimals.specs.FractionText.{Form, Whole, Quotient, FractionText}

-- whether a whole number is below 0
abbrev pub is_negative : ℤ → Bool
is_negative (pos n) = false
is_negative (negsuc n) = true

-- the digits of n where d is 1, else those of n over those of d
abbrev pub printed_form : ℕ → ℕ → Form
printed_form n d = if d == 1 then Whole (decimal n) else Quotient (decimal n) (decimal d)

-- a minus where the number is below 0, and the digits
abbrev pub printed_parts : Rational → FractionText
printed_parts x = record { negative = is_negative x.top; form = printed_form (unsigned_abs x.top) (unsigned_abs x.bottom) }

-- the answer is the number x
abbrev pub IsValue : Rational → Result Frac DecFault → Type 0
IsValue x answer = (w : Frac) × (answer ≡ Ok w) × (value_of w ≡ x)
