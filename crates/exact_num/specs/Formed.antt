-- The numbers that each operation on fractions forms. The operation is refused exactly where one of them doesn't fit.
use Rattle.std.specs.Prelude.{ℤ, pos, ◌+ℤ◌, ◌-ℤ◌, ◌*ℤ◌, int_div, unsigned_abs, List, [], ◌∷◌}
use Rattle.exact_num.specs.Gcd.{gcd_of}
use Rattle.exact_num.specs.Rational.{Rational, reciprocal}

-- the greatest common divisor of two signed numbers
abbrev pub common : ℤ → ℤ → ℤ
common a b = pos (gcd_of (unsigned_abs a) (unsigned_abs b))

-- a/b + c/d forms a * (d/g), c * (b/g), their sum and b * (d/g), where g is the common divisor of b and d
unfoldable pub sum_formed : Rational → Rational → List ℤ
sum_formed x y =
    let g : ℤ = common x.bottom y.bottom in
    let left : ℤ = x.top *ℤ int_div y.bottom g in
    let right : ℤ = y.top *ℤ int_div x.bottom g in
    left ∷ right ∷ (left +ℤ right) ∷ (x.bottom *ℤ int_div y.bottom g) ∷ []

-- a/b - c/d forms the difference in place of the sum
unfoldable pub difference_formed : Rational → Rational → List ℤ
difference_formed x y =
    let g : ℤ = common x.bottom y.bottom in
    let left : ℤ = x.top *ℤ int_div y.bottom g in
    let right : ℤ = y.top *ℤ int_div x.bottom g in
    left ∷ right ∷ (left -ℤ right) ∷ (x.bottom *ℤ int_div y.bottom g) ∷ []

-- a/b * c/d forms (a/g) * (c/h) and (b/h) * (d/g), where g is the common divisor of a and d, and h that of c and b
unfoldable pub product_formed : Rational → Rational → List ℤ
product_formed x y =
    let g : ℤ = common x.top y.bottom in
    let h : ℤ = common y.top x.bottom in
    (int_div x.top g *ℤ int_div y.top h) ∷ (int_div x.bottom h *ℤ int_div y.bottom g) ∷ []

-- a quotient forms what the product with the reciprocal forms
unfoldable pub quotient_formed : Rational → Rational → List ℤ
quotient_formed x y = product_formed x (reciprocal y)
