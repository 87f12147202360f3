-- The texts of exact values: an optional minus, and after it digits, or digits `/` digits, or digits `.` digits.
use Rattle.std.specs.Prelude.{◌≡◌, ℕ, ◌^◌, ℤ, pos, Bool, List, [], ◌∷◌, ◌++◌, length, if◌then◌else◌}
use Rattle.scaled_decimals.specs.Digits.{IsNumeral, number_of}
use Rattle.scaled_decimals.specs.DecimalReading.{with_sign}

-- the three forms after the sign
pub data Form : Type 0 where
  Whole : List ℕ → Form
  Quotient : List ℕ → List ℕ → Form
  Decimal : List ℕ → List ℕ → Form

-- the parts of an exact value
pub record FractionText : Type 0 where
  pub negative : Bool
  pub form : Form

-- the bytes of a form
abbrev pub form_bytes : Form → List ℕ
form_bytes (Whole ds) = ds
form_bytes (Quotient above below) = above ++ (47 ∷ below)
form_bytes (Decimal whole places) = whole ++ (46 ∷ places)

-- each run of digits has one at least
abbrev pub IsFormed : Form → Type 0
IsFormed (Whole ds) = IsNumeral ds
IsFormed (Quotient above below) = IsNumeral above × IsNumeral below
IsFormed (Decimal whole places) = IsNumeral whole × IsNumeral places

-- the numerator as written, without its sign: a decimal's are its digits without the point
abbrev pub above_of : Form → ℕ
above_of (Whole ds) = number_of ds
above_of (Quotient above below) = number_of above
above_of (Decimal whole places) = number_of (whole ++ places)

-- the denominator as written: a decimal's is the power of ten of its places
abbrev pub below_of : Form → ℕ
below_of (Whole ds) = 1
below_of (Quotient above below) = number_of below
below_of (Decimal whole places) = 10 ^ length places

-- the numerator as written, with its sign
abbrev pub top_of : FractionText → ℤ
top_of f = with_sign f.negative (above_of f.form)

-- the denominator as written
abbrev pub bottom_of : FractionText → ℤ
bottom_of f = pos (below_of f.form)

-- the bytes of an exact value
abbrev pub spelling : FractionText → List ℕ
spelling f = (if f.negative then 45 ∷ [] else []) ++ form_bytes f.form

-- the text is the exact value that these parts spell, and its denominator isn't 0
pub record SpellsValue (f : FractionText) (text : List ℕ) : Type 0 where
  pub formed : IsFormed f.form
  pub bytes : text ≡ spelling f
  pub nonzero : below_of f.form ≡ 0 → ⊥
