use Rattle.discount_factors.proofs.Common.{◌≡◌, ◌<◌, ◌≤◌, ◌+◌, ◌-◌, ◌*◌, ◌/◌, ◌^◌, ap, ap₂, sym, subst, ◌∙◌, arith, lt-ltb, unit_of, IsPlaces, discounted, annuity, Discounting}
use Rattle.discount_factors.proofs.AnnuityLaws.{annuity-above_0, annuity-level, annuity-le, annuity_of_200-le}
use Rattle.discount_factors.proofs.KeptLaws.{kept_places, kept_unit, small_annuity, annuity_fits}
use Rattle.discount_factors.proofs.Scales.{unit_most}
use Rattle.discount_factors.proofs.ValueLaws.{discounted-le}
use Rattle.discount_factors.proofs.factors.Factors.worth_of_years.Goals as goal

pub returns-then-self-eq0-clause-exact : goal.returns-then-self-eq0-clause-exact
returns-then-self-eq0-clause-exact c =
    let places = c.args.self.now.places in
    let same : c.self.inside.places ≡ places = ap (λ (d : Discounting). d.places) c.self.view_is in
    let level : 0 ≡ c.args.self.now.rate = sym c.if-self-eq0.true ∙ ap (λ (d : Discounting). d.rate) c.self.view_is in
    ap₂ (λ unit life. unit * life) (kept_unit places c.self.invariant same) c.from.ensures
    ∙ sym (annuity-level places c.args.life)
    ∙ ap (λ rate. annuity places rate c.args.life) level

pub overflow_sub-value : goal.overflow_sub-value
overflow_sub-value c = omega (arith, c.value.ensures, discounted-le c.args.self.now.rate c.args.life)

pub overflow_mul-result-2 : goal.overflow_mul-result-2
overflow_mul-result-2 c =
    let unit = unit_most c.self.inside.places c.self.invariant.places_are in
    let few : c.from-2.result ≤ 10 ^ 9 = omega (arith, c.from-2.ensures, c.self.invariant.unit_is) in
    let most : c.from-rate.result ≤ 10 ^ 9 = omega (arith, c.from-rate.ensures, c.self.invariant.rate_most) in
    let all = annuity_fits c.from-2.result c.from-3.result c.from-rate.result few (omega (arith, c.from-3.ensures)) most in
    omega (arith, all)

pub returns : goal.returns
returns c =
    let places = c.args.self.now.places in
    let rate = c.args.self.now.rate in
    let life = c.args.life in
    let same : c.self.inside.places ≡ places = ap (λ (d : Discounting). d.places) c.self.view_is in
    let are : IsPlaces places = kept_places places c.self.invariant same in
    let its_rate : c.from-rate.result ≡ rate = c.from-rate.ensures ∙ ap (λ (d : Discounting). d.rate) c.self.view_is in
    let some : 0 < rate = omega (arith, c.if-self-eq0.false, c.from-rate.ensures, its_rate) in
    let unit : c.from-2.result ≡ unit_of places = c.from-2.ensures ∙ kept_unit places c.self.invariant same in
    let lost : c.from-3.result ≡ 10 ^ 18 - discounted rate life = c.from-3.ensures ∙ ap (λ value. 10 ^ 18 - value) c.value.ensures in
    let above : c.from-2.result * c.from-3.result * (10 ^ 9 + c.from-rate.result) ≡ unit_of places * (10 ^ 18 - discounted rate life) * (10 ^ 9 + rate) =
    ap₂ (λ part rate. part * (10 ^ 9 + rate)) (ap₂ (λ unit lost. unit * lost) unit lost) its_rate in
    let below : c.from-4.result * c.from-rate.result ≡ 10 ^ 18 * rate = ap₂ (λ whole rate. whole * rate) c.from-4.ensures its_rate in
    let exact : c.from-2.result * c.from-3.result * (10 ^ 9 + c.from-rate.result) / (c.from-4.result * c.from-rate.result) ≡ annuity places rate life =
    ap₂ (λ product divisor. product / divisor) above below ∙ sym (annuity-above_0 places rate life (lt-ltb 0 rate some)) in
    let next = subst (λ k. k ≤ unit_of places * (life + 1)) (sym exact) (annuity-le places rate life) in
    record {
      exact = exact;
      most = λ short. subst (λ k. k ≤ unit_of places * 200) (sym exact) (annuity_of_200-le places rate life short);
      small = small_annuity _ places life are (omega arith) next;
    }
