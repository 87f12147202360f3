-- Products of numbers below 2^63 are below 2^126, and so their difference is below 2^127.
use Rattle.int_tableau.proofs.Common.{◌≡◌, ◌<◌, ◌^◌, ℤ, sym, ap₂, ◌∙◌, subst, arith, FitsSigned, ◌-ℤ◌, ◌*ℤ◌, to_z, of_z, w128, unsigned_abs, InRange, FitsSigned-from_InRange, back_in_range, narrow_is}
use Rattle.int_tableau.proofs.ProductLaws.{less_fits, formed_fit}
use Rattle.int_tableau.proofs.merging.narrow_less.Goals as goal

fits : (z : ℤ) → unsigned_abs z < 2 ^ 63 → FitsSigned w128 z
fits z h = FitsSigned-from_InRange z (omega arith)

-- what the code's products are
product_is : (a x : ℤ) → unsigned_abs a < 2 ^ 63 → unsigned_abs x < 2 ^ 63 → to_z w128 (of_z w128 (to_z w128 (of_z w128 a) *ℤ to_z w128 (of_z w128 x))) ≡ a *ℤ x
product_is a x h k = narrow_is a x (fits a h) (fits x k) h k

pub overflow_sub-result : goal.overflow_sub-result
overflow_sub-result c =
    let a = c.args.a in
    let b = c.args.b in
    let x = c.args.x in
    let y = c.args.y in
    subst (FitsSigned w128) (sym (ap₂ ◌-ℤ◌ (product_is a x c.requires.a c.requires.x) (product_is b y c.requires.b c.requires.y)))
    (FitsSigned-from_InRange ((a *ℤ x) -ℤ (b *ℤ y)) (less_fits a b x y c.requires.a c.requires.b c.requires.x c.requires.y))

pub returns-clause-value : goal.returns-clause-value
returns-clause-value c =
    let a = c.args.a in
    let b = c.args.b in
    let x = c.args.x in
    let y = c.args.y in
    ap₂ (λ p q. to_z w128 (of_z w128 (p -ℤ q))) (product_is a x c.requires.a c.requires.x) (product_is b y c.requires.b c.requires.y)
    ∙ back_in_range ((a *ℤ x) -ℤ (b *ℤ y)) (less_fits a b x y c.requires.a c.requires.b c.requires.x c.requires.y)

pub returns-clause-fits : goal.returns-clause-fits
returns-clause-fits c = formed_fit c.args.a c.args.b c.args.x c.args.y c.requires.a c.requires.b c.requires.x c.requires.y

pub returns-clause-range : goal.returns-clause-range
returns-clause-range c =
    subst InRange (sym (returns-clause-value c)) (less_fits c.args.a c.args.b c.args.x c.args.y c.requires.a c.requires.b c.requires.x c.requires.y)
