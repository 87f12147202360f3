use Rattle.discount_factors.proofs.Common.{◌≡◌, ◌≤◌, ◌*◌, ◌/◌, ◌^◌, ap, ap₂, sym, subst, ◌∙◌, Discounting, unit_of, IsPlaces, discounted, half_year_root, operating_factor}
use Rattle.discount_factors.proofs.FactorLaws.{operating_factor-le}
use Rattle.discount_factors.proofs.KeptLaws.{kept_places, kept_unit, small_factor}
use Rattle.discount_factors.proofs.factors.Factors.half_year_later.Goals as goal

pub returns : goal.returns
unfolding operating_factor
returns c =
    let rate = c.args.self.now.rate in
    let places = c.args.self.now.places in
    let same : c.self.inside.places ≡ places = ap (λ (d : Discounting). d.places) c.self.view_is in
    let are : IsPlaces places = kept_places places c.self.invariant same in
    let root : c.from-2.result ≡ half_year_root rate = c.from-2.ensures ∙ c.self.invariant.root_is ∙ ap (λ (d : Discounting). half_year_root d.rate) c.self.view_is in
    let product : c.from.result * c.from-2.result ≡ discounted rate c.args.n * half_year_root rate = ap₂ (λ value root. value * root) (c.from.ensures ∙ c.value.ensures) root in
    let exact : c.from.result * c.from-2.result / (10 ^ 30 / c.from-3.result) ≡ operating_factor places rate c.args.n =
    ap₂ (λ value unit. value / (10 ^ 30 / unit)) product (c.from-3.ensures ∙ kept_unit places c.self.invariant same) in
    let most : c.from.result * c.from-2.result / (10 ^ 30 / c.from-3.result) ≤ unit_of places = subst (λ k. k ≤ unit_of places) (sym exact) (operating_factor-le places rate c.args.n are) in
    record { exact = exact; most = most; small = small_factor _ places are most }
