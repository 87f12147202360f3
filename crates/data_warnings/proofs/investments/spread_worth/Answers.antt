-- With at most nine places a part is at most 10^9, and an annuity of at most 200 years at most 200 times that.
use Rattle.data_warnings.proofs.Common.{◌≡◌, ◌≤◌, ◌≤ℤ◌, ◌*◌, ℕ, ℤ, pos, arith, ints, ap, sym, subst, inl, inr, to_z, of_z, w128, unsigned_abs, InRange, back_in_range}
use Rattle.std.proofs.Math.Nat.{mul-le-mul}
use Rattle.discount_factors.specs.Factors.{IsPlaces, unit_of}
use Rattle.discount_factors.specs.Known.{Discounting}
use Rattle.data_warnings.proofs.investments.spread_worth.Goals as goal

short : (z : ℤ) (n : ℕ) → InRange z → pos 0 ≤ℤ z → z ≤ℤ pos n → unsigned_abs (to_z w128 (of_z w128 z)) ≤ n
short z n fits least most = subst (λ v. unsigned_abs v ≤ n) (sym (back_in_range z fits)) (omega (arith, ints, least, most))

unit-short : (places : ℕ) → IsPlaces places → unit_of places ≤ 1000000000
unit-short places are = elim are [ inl six ↦ subst (λ n. unit_of n ≤ 1000000000) (sym six) (omega arith) | inr nine ↦ subst (λ n. unit_of n ≤ 1000000000) (sym nine) (omega arith) ]

product-short : (part years : ℤ) (places kept : ℕ) → IsPlaces places → kept ≡ places
    → InRange part → pos 0 ≤ℤ part → part ≤ℤ pos (unit_of places) → InRange years → pos 0 ≤ℤ years → years ≤ℤ pos (unit_of kept * 200)
    → unsigned_abs (to_z w128 (of_z w128 part)) * unsigned_abs (to_z w128 (of_z w128 years)) ≤ 200000000000000000000
product-short part years places kept are same part_fits part_least part_most years_fit years_least years_most =
    let unit : unit_of places ≤ 1000000000 = unit-short places are in
    let first : unsigned_abs (to_z w128 (of_z w128 part)) ≤ unit_of places = short part (unit_of places) part_fits part_least part_most in
    let second : unsigned_abs (to_z w128 (of_z w128 years)) ≤ unit_of places * 200 = subst (λ n. unsigned_abs (to_z w128 (of_z w128 years)) ≤ unit_of n * 200) same (short years (unit_of kept * 200) years_fit years_least years_most) in
    let part_short : unsigned_abs (to_z w128 (of_z w128 part)) ≤ 1000000000 = omega (arith, first, unit) in
    let years_short : unsigned_abs (to_z w128 (of_z w128 years)) ≤ 200000000000 = omega (arith, second, unit) in
    mul-le-mul part_short years_short

pub overflow_mul-result : goal.overflow_mul-result
overflow_mul-result c =
    let kept = ap (λ (d : Discounting). d.places) c.in_ok-factors.ensures in
    let small = product-short c.recovery-part.result c.annuity-years.result c.args.places c.in_ok-factors.factors.places c.requires.places kept c.recovery-part.ensures.fits c.recovery-part.ensures.least c.recovery-part.ensures.most c.annuity-years.ensures.fits c.annuity-years.ensures.least (c.annuity-years.ensures.most c.operational_life-life.ensures.most) in
    record { fits = omega (arith, small) }

pub returns-clause-most : goal.returns-clause-most
returns-clause-most c =
    let kept = ap (λ (d : Discounting). d.places) c.in_ok-factors.ensures in
    product-short c.recovery-part.result c.annuity-years.result c.args.places c.in_ok-factors.factors.places c.requires.places kept c.recovery-part.ensures.fits c.recovery-part.ensures.least c.recovery-part.ensures.most c.annuity-years.ensures.fits c.annuity-years.ensures.least (c.annuity-years.ensures.most c.operational_life-life.ensures.most)
