-- The factors of the region reach over the life, and their rate is the region's.
use Rattle.equation_parts.proofs.Common.{sym, ap, ap₂, ◌∙◌, subst, salvage_fraction, back_in_range, years_left, AreFactorsOf, places_of, rate_of, life_of, salvage_fraction_of}
use Rattle.std.specs.Prelude.{◌≡◌, ◌<◌, ◌≤◌, pos}
use Rattle.equation_parts.proofs.FactorLaws.{factors-of, factor-by_places}
use Rattle.equation_parts.proofs.YearLaws.{left-of_life}
use Rattle.equation_parts.proofs.factors.salvage_fraction.Goals as goal

pub salvage-requires-clause-left : goal.salvage-requires-clause-left
salvage-requires-clause-left c =
    let d = c.args.model.now.facts in
    let left : years_left d c.args.y < life_of d c.args.r c.args.t = left-of_life d c.args.r c.args.t c.args.y c.requires.year c.requires.outlasts in
    rw (c.years_left-age.ensures.exact, c.operational_life-life.ensures.exact) left

pub salvage-requires-clause-known : goal.salvage-requires-clause-known
salvage-requires-clause-known c =
    let d = c.args.model.now.facts in
    let places = places_of c.args.factors.now in
    let one = c.index-factors-from.result in
    let own : AreFactorsOf places d c.args.r one = factors-of places d c.args.factors.now c.args.r c.from.result one c.requires.factors c.requires.region c.from.ensures c.index-factors-from.is in
    subst (λ n. n ≤ one.lives) (sym c.operational_life-life.ensures.exact) (own.lives c.args.t c.requires.technology)

pub returns : goal.returns
returns c =
    let d = c.args.model.now.facts in
    let places = places_of c.args.factors.now in
    let one = c.index-factors-from.result in
    let own : AreFactorsOf places d c.args.r one = factors-of places d c.args.factors.now c.args.r c.from.result one c.requires.factors c.requires.region c.from.ensures c.index-factors-from.is in
    let method = c.args.method in
    let life = c.operational_life-life in
    let age = c.years_left-age in
    let fraction : c.salvage.result ≡ salvage_fraction_of places d method c.args.r c.args.t c.args.y =
    c.salvage.ensures.exact
    ∙ ap (λ n. pos (salvage_fraction n method one.rate life.result age.result)) own.places_are
    ∙ ap (λ rate. pos (salvage_fraction places method rate life.result age.result)) own.rate
    ∙ ap₂ (λ n m. pos (salvage_fraction places method (rate_of d c.args.r) n m)) life.ensures.exact age.ensures.exact in
    factor-by_places c.over_unit.result one.places places _ _ c.over_unit.ensures own.places_are (back_in_range c.salvage.result c.salvage.ensures.fits ∙ fraction)
