-- It has no more bits than the two numbers.
use Rattle.int_tableau.proofs.Common.{◌≡◌, ◌<◌, ◌^◌, ℤ, pos, sym, ap₂, ◌∙◌, subst, arith, FitsSigned, w64, unsigned_abs, ints, gcd_of, gcd_of_below, back_in_range}
use Rattle.int_tableau.proofs.NarrowLaws.{back_widened, back_narrowed}
use Rattle.int_tableau.proofs.narrow_division.common.Goals as goal

value : (c : goal.After-gcd) → c.gcd.result ≡ pos (gcd_of (unsigned_abs c.args.a) (unsigned_abs c.args.b))
value c = c.gcd.ensures.value ∙ ap₂ (λ x y. pos (gcd_of (unsigned_abs x) (unsigned_abs y))) (back_widened c.args.a c.requires.left) (back_widened c.args.b c.requires.right)

narrow : (c : goal.After-gcd) → unsigned_abs c.gcd.result < 2 ^ 63
narrow c = subst (λ z. unsigned_abs z < 2 ^ 63) (sym (value c)) (gcd_of_below (unsigned_abs c.args.a) (unsigned_abs c.args.b) (2 ^ 63) c.requires.left c.requires.right)

pub overflow_cast-result : goal.overflow_cast-result
overflow_cast-result c = subst (FitsSigned w64) (sym (back_in_range c.gcd.result c.gcd.ensures.range)) (fits c.gcd.result (narrow c))
  where
    fits : (z : ℤ) → unsigned_abs z < 2 ^ 63 → FitsSigned w64 z
    fits z h = omega (arith, ints)

pub returns-clause-value : goal.returns-clause-value
returns-clause-value c = back_narrowed c.gcd.result (narrow c) ∙ value c

pub returns-clause-narrow : goal.returns-clause-narrow
returns-clause-narrow c = subst (λ z. unsigned_abs z < 2 ^ 63) (sym (back_narrowed c.gcd.result (narrow c))) (narrow c)
