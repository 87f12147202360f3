-- The texts of numbers, as the data section of GNU MathProg writes them: an optional sign; digits, of which some may stand after a
-- point; and an optional power of ten.
use Rattle.std.specs.Prelude.{◌≡◌, ℕ, ◌+◌, ◌<◌, Bool, true, false, List, [], ◌∷◌, ◌++◌, length, Option, Some, None}
use Rattle.scaled_decimals.specs.Digits.{AreDigits, IsNumeral}

-- a sign, or none
pub data Sign : Type 0 where
  Bare : Sign
  Plus : Sign
  Minus : Sign

-- a power of ten: `e` or `E`, a sign and digits
pub record Exponent : Type 0 where
  pub capital : Bool
  pub sign : Sign
  pub digits : List ℕ

-- the parts of a number: its sign, the digits before the point, those after it where there is a point, and the power of ten
pub record NumberText : Type 0 where
  pub sign : Sign
  pub whole : List ℕ
  pub fraction : Option (List ℕ)
  pub exponent : Option Exponent

-- the bytes of a sign: none, `+` or `-`
abbrev pub sign_bytes : Sign → List ℕ
sign_bytes Bare = []
sign_bytes Plus = 43 ∷ []
sign_bytes Minus = 45 ∷ []

-- the bytes of a point and the digits after it
abbrev pub fraction_bytes : Option (List ℕ) → List ℕ
fraction_bytes None = []
fraction_bytes (Some ds) = 46 ∷ ds

-- `E` or `e`
abbrev pub mark : Bool → ℕ
mark true = 69
mark false = 101

-- the bytes of a power of ten
abbrev pub exponent_bytes : Option Exponent → List ℕ
exponent_bytes None = []
exponent_bytes (Some e) = mark e.capital ∷ (sign_bytes e.sign ++ e.digits)

-- the bytes of a number
abbrev pub spelling : NumberText → List ℕ
spelling p = sign_bytes p.sign ++ (p.whole ++ (fraction_bytes p.fraction ++ exponent_bytes p.exponent))

-- the digits after the point
abbrev pub fraction_digits : Option (List ℕ) → List ℕ
fraction_digits None = []
fraction_digits (Some ds) = ds

-- the digits of a power of ten
abbrev pub exponent_digits : Option Exponent → List ℕ
exponent_digits None = []
exponent_digits (Some e) = e.digits

-- a power of ten has a digit
abbrev pub IsExponent : Option Exponent → Type 0
IsExponent None = Unit {0}
IsExponent (Some e) = IsNumeral e.digits

-- the parts are digits, of which at least one stands before or after the point
pub record IsFormed (p : NumberText) : Type 0 where
  pub before : AreDigits p.whole
  pub following : AreDigits (fraction_digits p.fraction)
  pub nonempty : 0 < length p.whole + length (fraction_digits p.fraction)
  pub power : IsExponent p.exponent

-- the text is the number that these parts spell
pub record Spells (p : NumberText) (text : List ℕ) : Type 0 where
  pub formed : IsFormed p
  pub bytes : text ≡ spelling p

-- the text is a number
abbrev pub IsNumber : List ℕ → Type 0
IsNumber text = (p : NumberText) × Spells p text

-- whether a sign is a minus
abbrev pub is_minus : Sign → Bool
is_minus Bare = false
is_minus Plus = false
is_minus Minus = true

-- whether a power of ten is negative
abbrev pub is_lowering : Option Exponent → Bool
is_lowering None = false
is_lowering (Some e) = is_minus e.sign
