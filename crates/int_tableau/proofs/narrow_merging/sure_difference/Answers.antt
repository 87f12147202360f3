-- The products and their difference are below 2^63.
use Rattle.int_tableau.proofs.Common.{◌≡◌, ◌<◌, ◌^◌, ℤ, sym, ap₂, ◌∙◌, subst, arith, FitsSigned, ◌-ℤ◌, ◌*ℤ◌, to_z, of_z, w64, unsigned_abs, ints, to_z-of_z}
use Rattle.int_tableau.proofs.NarrowLaws.{back_narrow}
use Rattle.int_tableau.proofs.ProductLaws.{sure_first, sure_second, sure_less, sure_fits}
use Rattle.int_tableau.proofs.narrow_merging.sure_difference.Goals as goal

fits : (z : ℤ) → unsigned_abs z < 2 ^ 63 → FitsSigned w64 z
fits z h = omega (arith, ints)

-- what the code's products are
product_is : (a x : ℤ) → FitsSigned w64 a → FitsSigned w64 x → unsigned_abs (a *ℤ x) < 2 ^ 63 → to_z w64 (of_z w64 (to_z w64 (of_z w64 a) *ℤ to_z w64 (of_z w64 x))) ≡ a *ℤ x
product_is a x h k below = ap₂ (λ p q. to_z w64 (of_z w64 (p *ℤ q))) (to_z-of_z w64 a h) (to_z-of_z w64 x k) ∙ back_narrow (a *ℤ x) below

pub overflow_sub-result : goal.overflow_sub-result
overflow_sub-result c =
    let a = c.args.a in
    let b = c.args.b in
    let x = c.args.x in
    let y = c.args.y in
    subst (FitsSigned w64) (sym (ap₂ ◌-ℤ◌ (product_is a x c.ranges.a c.ranges.x (sure_first a b x y c.requires)) (product_is b y c.ranges.b c.ranges.y (sure_second a b x y c.requires))))
    (fits ((a *ℤ x) -ℤ (b *ℤ y)) (sure_less a b x y c.requires))

pub returns-clause-value : goal.returns-clause-value
returns-clause-value c =
    let a = c.args.a in
    let b = c.args.b in
    let x = c.args.x in
    let y = c.args.y in
    ap₂ (λ p q. to_z w64 (of_z w64 (p -ℤ q))) (product_is a x c.ranges.a c.ranges.x (sure_first a b x y c.requires)) (product_is b y c.ranges.b c.ranges.y (sure_second a b x y c.requires))
    ∙ back_narrow ((a *ℤ x) -ℤ (b *ℤ y)) (sure_less a b x y c.requires)

pub returns-clause-narrow : goal.returns-clause-narrow
returns-clause-narrow c =
    subst (λ z. unsigned_abs z < 2 ^ 63) (sym (returns-clause-value c)) (sure_less c.args.a c.args.b c.args.x c.args.y c.requires)

pub returns-clause-fits : goal.returns-clause-fits
returns-clause-fits c = sure_fits c.args.a c.args.b c.args.x c.args.y c.requires
