-- Numbers below 2^63 have a product below 2^126.
use Rattle.simplex_core.proofs.Common.{◌*◌, ◌<◌, ◌^◌, ℤ, sym, subst, arith, ◌*ℤ◌, unsigned_abs, unsigned_abs-mul, mul-lt, InRange, FitsSigned-from_InRange, narrow_is}
use Rattle.simplex_core.proofs.choice.product.Goals as goal

in_range : (z : ℤ) → unsigned_abs z < 2 ^ 63 → InRange z
in_range z h = omega arith

product_below : (a b : ℤ) → unsigned_abs a < 2 ^ 63 → unsigned_abs b < 2 ^ 63 → InRange (a *ℤ b)
product_below a b h k =
    let both : unsigned_abs a * unsigned_abs b < 2 ^ 63 * 2 ^ 63 = mul-lt (unsigned_abs a) (unsigned_abs b) (2 ^ 63) (2 ^ 63) h k in
    let size : unsigned_abs (a *ℤ b) < 2 ^ 126 = subst (λ n. n < 2 ^ 126) (sym (unsigned_abs-mul a b)) both in
    wider (a *ℤ b) size
  where
    wider : (z : ℤ) → unsigned_abs z < 2 ^ 126 → InRange z
    wider z h = omega arith

pub returns-clause-value : goal.returns-clause-value
returns-clause-value c =
    let a = c.args.a in
    let b = c.args.b in
    narrow_is a b (FitsSigned-from_InRange a (in_range a c.requires.left)) (FitsSigned-from_InRange b (in_range b c.requires.right)) c.requires.left c.requires.right

pub returns-clause-range : goal.returns-clause-range
returns-clause-range c = subst InRange (sym (returns-clause-value c)) (product_below c.args.a c.args.b c.requires.left c.requires.right)
