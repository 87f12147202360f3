use Rattle.discount_factors.proofs.Common.{◌≡◌, ◌≤◌, ◌/◌, ◌^◌, ap, ap₂, sym, subst, Discounting, unit_of, IsPlaces, capital_factor}
use Rattle.discount_factors.proofs.FactorLaws.{capital_factor-le}
use Rattle.discount_factors.proofs.KeptLaws.{kept_places, kept_unit, small_factor}
use Rattle.discount_factors.proofs.factors.Factors.years_later.Goals as goal

pub returns : goal.returns
unfolding capital_factor
returns c =
    let rate = c.args.self.now.rate in
    let places = c.args.self.now.places in
    let same : c.self.inside.places ≡ places = ap (λ (d : Discounting). d.places) c.self.view_is in
    let are : IsPlaces places = kept_places places c.self.invariant same in
    let exact : c.value.result / (10 ^ 18 / c.self.inside.unit) ≡ capital_factor places rate c.args.n =
    ap₂ (λ value unit. value / (10 ^ 18 / unit)) c.value.ensures (kept_unit places c.self.invariant same) in
    let most : c.value.result / (10 ^ 18 / c.self.inside.unit) ≤ unit_of places = subst (λ k. k ≤ unit_of places) (sym exact) (capital_factor-le places rate c.args.n are) in
    record { exact = exact; most = most; small = small_factor _ places are most }
