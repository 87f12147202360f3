-- The annuity of the region's factors is that of its rate, over its unit.
use Rattle.equation_parts.proofs.Common.{◌≡◌, ap, ◌∙◌, annuity, back_in_range, AreFactorsOf, places_of, rate_of, annuity_of}
use Rattle.std.specs.Prelude.{pos}
use Rattle.equation_parts.proofs.FactorLaws.{factors-of, factor-by_places}
use Rattle.equation_parts.proofs.factors.annuity.Goals as goal

pub returns : goal.returns
returns c =
    let d = c.args.model.now.facts in
    let places = places_of c.args.factors.now in
    let one = c.index-factors-from.result in
    let own : AreFactorsOf places d c.args.r one = factors-of places d c.args.factors.now c.args.r c.from.result one c.requires.factors c.requires.region c.from.ensures c.index-factors-from.is in
    let life = c.operational_life in
    let worth : c.annuity.result ≡ annuity_of places d c.args.r c.args.t =
    c.annuity.ensures.exact
    ∙ ap (λ n. pos (annuity n one.rate life.result)) own.places_are
    ∙ ap (λ rate. pos (annuity places rate life.result)) own.rate
    ∙ ap (λ years. pos (annuity places (rate_of d c.args.r) years)) life.ensures.exact in
    factor-by_places c.over_unit.result one.places places _ _ c.over_unit.ensures own.places_are (back_in_range c.annuity.result c.annuity.ensures.fits ∙ worth)
