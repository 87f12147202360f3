-- Exact values: rational numbers over unbounded whole numbers, each number one pair in lowest terms with a positive denominator.
use Rattle.std.specs.Prelude.{◌≡◌, ℕ, ◌/◌, ℤ, pos, negsuc, neg_ℤ, ◌+ℤ◌, ◌-ℤ◌, ◌*ℤ◌, ◌<ℤ◌, int_div, unsigned_abs}
use Rattle.std.specs.declared.cmp.Ordering.{Ordering}
use Rattle.std.specs.Ordering.{int_cmp}
use Rattle.exact_num.specs.Gcd.{gcd_of}

-- the number top / bottom
pub record Rational : Type 0 where
  pub top : ℤ
  pub bottom : ℤ

-- the two numbers as they are
abbrev pub pair : ℤ → ℤ → Rational
pair n d = record { top = n; bottom = d }

-- the denominator is positive, and no number above 1 divides both
pub record IsLowest (x : Rational) : Type 0 where
  pub positive : pos 0 <ℤ x.bottom
  pub coprime : gcd_of (unsigned_abs x.top) (unsigned_abs x.bottom) ≡ 1

-- n, or -n where d is negative
abbrev pub signed_by : ℤ → ℤ → ℤ
signed_by (pos d) n = n
signed_by (negsuc d) n = neg_ℤ n

-- the number n / d in lowest terms, for d other than 0
unfoldable pub lowest : ℤ → ℤ → Rational
lowest n d =
    let g : ℕ = gcd_of (unsigned_abs n) (unsigned_abs d) in
    record { top = int_div (signed_by d n) (pos g); bottom = pos (unsigned_abs d / g) }

-- the whole number n
abbrev pub whole : ℤ → Rational
whole n = record { top = n; bottom = pos 1 }

-- -x
abbrev pub negated : Rational → Rational
negated x = record { top = neg_ℤ x.top; bottom = x.bottom }

-- 1 / x for x other than 0, with the sign in the numerator
abbrev pub reciprocal : Rational → Rational
reciprocal x = record { top = signed_by x.top x.bottom; bottom = pos (unsigned_abs x.top) }

-- x + y
unfoldable pub plus : Rational → Rational → Rational
plus x y = lowest (x.top *ℤ y.bottom +ℤ y.top *ℤ x.bottom) (x.bottom *ℤ y.bottom)

-- x - y
unfoldable pub minus : Rational → Rational → Rational
minus x y = lowest (x.top *ℤ y.bottom -ℤ y.top *ℤ x.bottom) (x.bottom *ℤ y.bottom)

-- x * y
unfoldable pub times : Rational → Rational → Rational
times x y = lowest (x.top *ℤ y.top) (x.bottom *ℤ y.bottom)

-- x / y for y other than 0
unfoldable pub divided : Rational → Rational → Rational
divided x y = lowest (x.top *ℤ y.bottom) (x.bottom *ℤ y.top)

-- how x stands to y: a/b to c/d as a*d to c*b
unfoldable pub order_of : Rational → Rational → Ordering
order_of x y = int_cmp (x.top *ℤ y.bottom) (y.top *ℤ x.bottom)
