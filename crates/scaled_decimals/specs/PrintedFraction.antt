-- The printed form of an exact value as a fraction: `n`, or `n/d` where the denominator isn't 1.
use Rattle.std.specs.Prelude.{ℕ, unsigned_abs, List, [], ◌++◌, ◌==◌, if◌then◌else◌, codes, decimal}
use Rattle.std.specs.Fmt.{signed_decimal}
use Rattle.exact_num.specs.Rational.{Rational}

-- what follows the numerator: nothing where the denominator is 1, else `/` and the denominator in decimal digits
abbrev pub denominator_text : ℕ → List ℕ
denominator_text d = if d == 1 then [] else codes "/" ++ decimal d

-- the numerator in decimal digits, after `-` where it is negative, and what follows it
unfoldable pub fraction_text : Rational → List ℕ
fraction_text x = signed_decimal x.top ++ denominator_text (unsigned_abs x.bottom)
