-- A factor is at most 1.
use Rattle.std.proofs.Common.{ℕ, ◌^◌, ◌≤◌, pos, unsigned_abs, ◌≤ℤ◌, inl, inr, rules, sym, ap, subst, ◌∙◌, arith}
use Rattle.std.proofs.lemmas.Int.{ints}
use Rattle.exact_num.proofs.RangeLaws.{back_in_range}
use Rattle.discount_factors.specs.Factors.{IsPlaces, operating_factor, unit_of}
use Rattle.named_equations.specs.WrittenFactors.{rate_of}
use Rattle.data_tables.proofs.worth.worth_of.Goals as goal

unit_small : (places : ℕ) → IsPlaces places → unit_of places ≤ 10 ^ 9
unit_small places (inl six) = subst (λ n. 10 ^ n ≤ 10 ^ 9) (sym six) (omega arith)
unit_small places (inr nine) = subst (λ n. 10 ^ n ≤ 10 ^ 9) (sym nine) (omega arith)

pub overflow_cast-result : goal.overflow_cast-result
overflow_cast-result c =
    let factor : ℕ = operating_factor c.args.factors.now.places c.args.factors.now.rate c.years_since_first.result in
    let most : pos factor ≤ℤ pos (unit_of c.args.factors.now.places) = subst (λ z. z ≤ℤ pos (unit_of c.args.factors.now.places)) c.operating.ensures.exact c.operating.ensures.most in
    let short : factor ≤ 10 ^ 9 = omega (arith, ints, most, unit_small c.args.factors.now.places c.requires.places) in
    rw (back_in_range c.operating.result c.operating.ensures.fits, c.operating.ensures.exact) (search rules)

pub returns : goal.returns
returns c = λ r same.
    let places : ℕ = c.args.factors.now.places in
    ap unsigned_abs (back_in_range c.operating.result c.operating.ensures.fits ∙ c.operating.ensures.exact)
    ∙ ap (λ rate. operating_factor places rate c.years_since_first.result) same
    ∙ ap (λ n. operating_factor places (rate_of c.args.model.now.facts r) n) c.years_since_first.ensures.exact
