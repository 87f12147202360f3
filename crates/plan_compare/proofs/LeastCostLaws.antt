-- What the first lines promise of the least costs.
use Rattle.plan_compare.proofs.Common.{◌≡◌, ℕ, ◌<◌, ℤ, pos, ◌+ℤ◌, ◌-ℤ◌, ◌*ℤ◌, ◌<ℤ◌, ◌≤ℤ◌, neg_ℤ, Option, Some, None, refl, ap, sym, subst, arith, ints, Rational, *ℤ-≤ℤ, ≤ℤ_cancel, products, ring, down-below, fitting-is, million, up-above, difference, at_least, at_most}
use Rattle.model_sets.specs.Data.{Data}
use Rattle.named_equations.specs.Plans.{cost}
use Rattle.value_millionths.specs.Outwards.{down, up}
use Rattle.plan_compare.specs.LeastCosts.{IsAtLeastDifference, IsAtMostDifference, IsBound, IsCost, IsLeastCost, raised}

-- ---- a bound, and what a plan costs

-- a bound of all plans is at most what one of them costs
crossed : (top bottom num den q z : ℤ) → pos 0 <ℤ q → pos 0 <ℤ den → (top *ℤ q) ≤ℤ (z *ℤ bottom) → z *ℤ den ≡ num *ℤ q → (top *ℤ den) ≤ℤ (num *ℤ bottom)
crossed top bottom num den q z positive den_positive below over =
    let times_den : ((top *ℤ q) *ℤ den) ≤ℤ ((z *ℤ bottom) *ℤ den) = *ℤ-≤ℤ (top *ℤ q) (z *ℤ bottom) den (omega (arith, ints)) below in
    let left : (top *ℤ q) *ℤ den ≡ (top *ℤ den) *ℤ q = simp products in
    let right : (z *ℤ bottom) *ℤ den ≡ (z *ℤ den) *ℤ bottom = simp products in
    let moved : (z *ℤ den) *ℤ bottom ≡ (num *ℤ q) *ℤ bottom = ap (λ n. n *ℤ bottom) over in
    let last : (num *ℤ q) *ℤ bottom ≡ (num *ℤ bottom) *ℤ q = simp products in
    ≤ℤ_cancel (top *ℤ den) (num *ℤ bottom) q positive (omega (arith, ints))

bound-cost : (places : ℕ) (d : Data) (bound amount : Rational) → IsBound places d bound → IsCost places d amount → (bound.top *ℤ amount.bottom) ≤ℤ (amount.top *ℤ bound.bottom)
bound-cost places d bound amount bounds some =
    crossed bound.top bound.bottom amount.top amount.bottom (pos some.q) (cost d some.x) (let h : 0 < some.q = some.feasible.positive in omega (arith, ints)) some.costs.positive
    (bounds.least some.q some.x some.feasible) some.costs.cross

-- ---- millionths

-- what is at most a number is at most one that is at least that
upper : (m n d top bottom : ℤ) → pos 0 <ℤ d → pos 0 <ℤ bottom → (m *ℤ d) ≤ℤ (million *ℤ n) → (n *ℤ bottom) ≤ℤ (top *ℤ d) → (m *ℤ bottom) ≤ℤ (million *ℤ top)
upper m n d top bottom positive bottom_positive below at_most =
    let one = *ℤ-≤ℤ (m *ℤ d) (million *ℤ n) bottom (omega (arith, ints)) below in
    let two = *ℤ-≤ℤ (n *ℤ bottom) (top *ℤ d) million (omega (arith, ints)) at_most in
    let left : (m *ℤ d) *ℤ bottom ≡ (m *ℤ bottom) *ℤ d = simp products in
    let middle : (million *ℤ n) *ℤ bottom ≡ (n *ℤ bottom) *ℤ million = simp products in
    let right : (top *ℤ d) *ℤ million ≡ (million *ℤ top) *ℤ d = simp products in
    ≤ℤ_cancel (m *ℤ bottom) (million *ℤ top) d positive (omega (arith, ints))

-- and the other way round
lower : (m n d top bottom : ℤ) → pos 0 <ℤ d → pos 0 <ℤ bottom → (million *ℤ n) ≤ℤ (m *ℤ d) → (top *ℤ d) ≤ℤ (n *ℤ bottom) → (million *ℤ top) ≤ℤ (m *ℤ bottom)
lower m n d top bottom positive bottom_positive above at_least =
    let one = *ℤ-≤ℤ (million *ℤ n) (m *ℤ d) bottom (omega (arith, ints)) above in
    let two = *ℤ-≤ℤ (top *ℤ d) (n *ℤ bottom) million (omega (arith, ints)) at_least in
    let left : (m *ℤ d) *ℤ bottom ≡ (m *ℤ bottom) *ℤ d = simp products in
    let middle : (million *ℤ n) *ℤ bottom ≡ (n *ℤ bottom) *ℤ million = simp products in
    let right : (top *ℤ d) *ℤ million ≡ (million *ℤ top) *ℤ d = simp products in
    ≤ℤ_cancel (million *ℤ top) (m *ℤ bottom) d positive (omega (arith, ints))

-- ---- the difference

-- a is at most a million times the second number, b at least a million times the first
apart : (a b top bottom top2 bottom2 : ℤ) → pos 0 <ℤ bottom → pos 0 <ℤ bottom2 → (a *ℤ bottom2) ≤ℤ (million *ℤ top2) → (million *ℤ top) ≤ℤ (b *ℤ bottom)
    → ((a -ℤ b) *ℤ (bottom *ℤ bottom2)) ≤ℤ (million *ℤ (top2 *ℤ bottom -ℤ top *ℤ bottom2))
apart a b top bottom top2 bottom2 positive positive2 below above =
    let one = *ℤ-≤ℤ (a *ℤ bottom2) (million *ℤ top2) bottom (omega (arith, ints)) below in
    let two = *ℤ-≤ℤ (million *ℤ top) (b *ℤ bottom) bottom2 (omega (arith, ints)) above in
    let one_left : (a *ℤ bottom2) *ℤ bottom ≡ a *ℤ (bottom *ℤ bottom2) = simp products in
    let one_right : (million *ℤ top2) *ℤ bottom ≡ million *ℤ (top2 *ℤ bottom) = simp products in
    let two_left : (million *ℤ top) *ℤ bottom2 ≡ million *ℤ (top *ℤ bottom2) = simp products in
    let two_right : (b *ℤ bottom) *ℤ bottom2 ≡ b *ℤ (bottom *ℤ bottom2) = simp products in
    let left : (a -ℤ b) *ℤ (bottom *ℤ bottom2) ≡ a *ℤ (bottom *ℤ bottom2) -ℤ b *ℤ (bottom *ℤ bottom2) = simp ring in
    let right : million *ℤ (top2 *ℤ bottom -ℤ top *ℤ bottom2) ≡ million *ℤ (top2 *ℤ bottom) -ℤ million *ℤ (top *ℤ bottom2) = simp ring in
    omega (arith, ints)

-- ---- the numbers of the line

-- a difference of two numbers
record IsApart (a b : Option ℤ) (z : ℤ) : Type 0 where
  x : ℤ
  y : ℤ
  left : a ≡ Some x
  right : b ≡ Some y
  is : z ≡ y -ℤ x

apart-from : (a b : Option ℤ) (z : ℤ) → difference a b ≡ Some z → IsApart a b z
apart-from None b z h = absurd (cc h)
apart-from (Some x) None z h = absurd (cc h)
apart-from (Some x) (Some y) z h = record { x = x; y = y; left = refl; right = refl; is = fitting-is (y -ℤ x) z h }

-- ---- of every bound

-- so many millionths more than the number are at most an amount over q, where they are at most the difference
below-raised : (z : ℤ) (x : Rational) (amount q : ℤ) → (z *ℤ (x.bottom *ℤ q)) ≤ℤ (million *ℤ (amount *ℤ x.bottom -ℤ x.top *ℤ q))
    → ((raised x z).top *ℤ q) ≤ℤ (amount *ℤ (raised x z).bottom)
below-raised z x amount q below =
    let left : (million *ℤ x.top +ℤ z *ℤ x.bottom) *ℤ q ≡ million *ℤ (x.top *ℤ q) +ℤ z *ℤ (x.bottom *ℤ q) = simp ring in
    let right : amount *ℤ (million *ℤ x.bottom) ≡ million *ℤ (amount *ℤ x.bottom) = simp ring in
    let spread : million *ℤ (amount *ℤ x.bottom -ℤ x.top *ℤ q) ≡ million *ℤ (amount *ℤ x.bottom) -ℤ million *ℤ (x.top *ℤ q) = simp ring in
    omega (arith, ints)

-- a isn't above the bound of the second data, b isn't below the cost of the first: their difference raises each bound of the first to one of the second
bound-raised : (places places2 : ℕ) (d d2 : Data) (amount bound2 bound : Rational) (a b : ℤ) → IsCost places d amount → IsBound places2 d2 bound2
    → (a *ℤ bound2.bottom) ≤ℤ (million *ℤ bound2.top) → (million *ℤ amount.top) ≤ℤ (b *ℤ amount.bottom) → IsBound places d bound → IsBound places2 d2 (raised bound (a -ℤ b))
bound-raised places places2 d d2 amount bound2 bound a b some bounds2 below above bounds = record {
  positive = let h : pos 0 <ℤ bound.bottom = bounds.positive in omega (arith, ints);
  least = λ q x feasible.
      let positive : pos 0 <ℤ pos q = let h : 0 < q = feasible.positive in omega (arith, ints) in
      below-raised (a -ℤ b) bound (cost d2 x) (pos q)
      (apart a b bound.top bound.bottom (cost d2 x) (pos q) bounds.positive positive
      (upper a bound2.top bound2.bottom (cost d2 x) (pos q) bounds2.positive positive below (bounds2.least q x feasible))
      (lower b amount.top amount.bottom bound.top bound.bottom some.costs.positive bounds.positive above (bound-cost places d bound amount bounds some)));
}

pub raises-holds : (places places2 : ℕ) (d d2 : Data) (cost bound2 bound : Rational) (z : ℤ) → IsCost places d cost → IsBound places2 d2 bound2
    → at_least cost bound2 ≡ Some z → IsBound places d bound → IsBound places2 d2 (raised bound z)
raises-holds places places2 d d2 cost bound2 bound z some bounds2 told bounds =
    let of = apart-from (up cost) (down bound2) z told in
    subst (λ (n : ℤ). IsBound places2 d2 (raised bound n)) (sym of.is)
    (bound-raised places places2 d d2 cost bound2 bound of.y of.x some bounds2 (down-below bound2 of.y bounds2.positive of.right) (up-above cost of.x some.costs.positive of.left) bounds)

turned : (a b z : ℤ) → z ≡ b -ℤ a → neg_ℤ z ≡ a -ℤ b
turned a b z h = omega (arith, ints)

pub lowers-holds : (places places2 : ℕ) (d d2 : Data) (bound cost2 bound2 : Rational) (z : ℤ) → IsBound places d bound → IsCost places2 d2 cost2
    → at_most bound cost2 ≡ Some z → IsBound places2 d2 bound2 → IsBound places d (raised bound2 (neg_ℤ z))
lowers-holds places places2 d d2 bound cost2 bound2 z bounds some told bounds2 =
    let of = apart-from (down bound) (up cost2) z told in
    subst (λ (n : ℤ). IsBound places d (raised bound2 n)) (sym (turned of.x of.y z of.is))
    (bound-raised places2 places d2 d cost2 bound bound2 of.x of.y some bounds (down-below bound of.x bounds.positive of.left) (up-above cost2 of.y some.costs.positive of.right) bounds2)

-- ---- of least costs

-- a isn't above a bound of the second data, b isn't below a cost of the first
least-apart : (places places2 : ℕ) (d d2 : Data) (amount bound2 least least2 : Rational) (a b : ℤ) → IsCost places d amount → IsBound places2 d2 bound2
    → (a *ℤ bound2.bottom) ≤ℤ (million *ℤ bound2.top) → (million *ℤ amount.top) ≤ℤ (b *ℤ amount.bottom) → IsLeastCost places d least → IsLeastCost places2 d2 least2
    → ((a -ℤ b) *ℤ (least.bottom *ℤ least2.bottom)) ≤ℤ (million *ℤ (least2.top *ℤ least.bottom -ℤ least.top *ℤ least2.bottom))
least-apart places places2 d d2 amount bound2 least least2 a b some bounds below above is is2 =
    apart a b least.top least.bottom least2.top least2.bottom is.some.costs.positive is2.some.costs.positive
    (upper a bound2.top bound2.bottom least2.top least2.bottom bounds.positive is2.some.costs.positive below (bound-cost places2 d2 bound2 least2 bounds is2.some))
    (lower b amount.top amount.bottom least.top least.bottom some.costs.positive is.some.costs.positive above (bound-cost places d least amount is.bound some))

pub least-holds : (places places2 : ℕ) (d d2 : Data) (cost bound2 least least2 : Rational) (z : ℤ) → IsCost places d cost → IsBound places2 d2 bound2
    → IsLeastCost places d least → IsLeastCost places2 d2 least2 → at_least cost bound2 ≡ Some z → IsAtMostDifference z least least2
least-holds places places2 d d2 cost bound2 least least2 z some bounds is is2 told =
    let of = apart-from (up cost) (down bound2) z told in
    subst (λ (n : ℤ). IsAtMostDifference n least least2) (sym of.is)
    (least-apart places places2 d d2 cost bound2 least least2 of.y of.x some bounds (down-below bound2 of.y bounds.positive of.right) (up-above cost of.x some.costs.positive of.left) is is2)

pub most-holds : (places places2 : ℕ) (d d2 : Data) (bound cost2 least least2 : Rational) (z : ℤ) → IsBound places d bound → IsCost places2 d2 cost2
    → IsLeastCost places d least → IsLeastCost places2 d2 least2 → at_most bound cost2 ≡ Some z → IsAtLeastDifference z least least2
most-holds places places2 d d2 bound cost2 least least2 z bounds some is is2 told =
    let of = apart-from (down bound) (up cost2) z told in
    let a : ℤ = of.x in
    let b : ℤ = of.y in
    let reversed = least-apart places2 places d2 d cost2 bound least2 least a b some bounds (down-below bound a bounds.positive of.left) (up-above cost2 b some.costs.positive of.right) is2 is in
    let left : million *ℤ (least2.top *ℤ least.bottom -ℤ least.top *ℤ least2.bottom) ≡ neg_ℤ (million *ℤ (least.top *ℤ least2.bottom -ℤ least2.top *ℤ least.bottom)) = simp ring in
    let right : (b -ℤ a) *ℤ (least.bottom *ℤ least2.bottom) ≡ neg_ℤ ((a -ℤ b) *ℤ (least2.bottom *ℤ least.bottom)) = simp ring in
    subst (λ (n : ℤ). IsAtLeastDifference n least least2) (sym of.is) (omega (arith, ints, left, right, reversed))
