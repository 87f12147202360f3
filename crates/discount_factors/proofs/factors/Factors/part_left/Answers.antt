use Rattle.discount_factors.proofs.Common.{◌≡◌, ◌<◌, ◌≤◌, ◌^◌, ◌-◌, ◌*◌, ◌/◌, eqb, ltb, true, sym, ap, ap₂, ◌∙◌, subst, arith, and_parts, ltb-true, ◌&&◌, unit_of, IsPlaces, sinking_fund, straight_line, Discounting}
use Rattle.discount_factors.proofs.KeptLaws.{kept_places, kept_unit, small_factor}
use Rattle.discount_factors.proofs.LifeLaws.{salvage-sinking, salvage-straight, salvage_fraction-le}
use Rattle.discount_factors.proofs.ValueLaws.{discounted-below_whole, discounted-le, discounted-monotone}
use Rattle.discount_factors.proofs.factors.Factors.part_left.Goals as goal

pub overflow_sub-left : goal.overflow_sub-left
overflow_sub-left c = omega (arith, c.value-left.ensures, discounted-le c.args.self.now.rate (c.args.life - c.args.age))

pub overflow_sub-all : goal.overflow_sub-all
overflow_sub-all c = omega (arith, c.value-all.ensures, discounted-le c.args.self.now.rate c.args.life)

pub part_of-requires-clause-some : goal.part_of-requires-clause-some
part_of-requires-clause-some c =
    let rate = c.args.self.now.rate in
    let tested : (eqb c.args.method 1 && ltb 0 rate) ≡ true = sym c.goes_by_sinking_fund.ensures ∙ c.if-goes_by_sinking_fund.true in
    let some : 0 < rate = ltb-true 0 rate (and_parts (eqb c.args.method 1) (ltb 0 rate) tested).1 in
    omega (arith, c.value-all.ensures, discounted-below_whole rate c.args.life some (omega arith))

pub part_of-requires-clause-within : goal.part_of-requires-clause-within
part_of-requires-clause-within c =
    omega (arith, c.value-left.ensures, c.value-all.ensures, discounted-monotone c.args.self.now.rate (c.args.life - c.args.age) c.args.life (omega arith))

pub returns-then-goes_by_sinking_fund : goal.returns-then-goes_by_sinking_fund
returns-then-goes_by_sinking_fund c =
    let method = c.args.method in
    let rate = c.args.self.now.rate in
    let places = c.args.self.now.places in
    let life = c.args.life in
    let age = c.args.age in
    let same : c.self.inside.places ≡ places = ap (λ (d : Discounting). d.places) c.self.view_is in
    let are : IsPlaces places = kept_places places c.self.invariant same in
    let quotient : c.part_of.result ≡ sinking_fund places rate life age =
    c.part_of.ensures
    ∙ ap (λ unit. unit * (10 ^ 18 - c.value-left.result) / (10 ^ 18 - c.value-all.result)) (kept_unit places c.self.invariant same)
    ∙ ap₂ (λ left all. unit_of places * (10 ^ 18 - left) / (10 ^ 18 - all)) c.value-left.ensures c.value-all.ensures in
    let exact = quotient ∙ sym (salvage-sinking places method rate life age (sym c.goes_by_sinking_fund.ensures ∙ c.if-goes_by_sinking_fund.true)) in
    let most : c.part_of.result ≤ unit_of places = subst (λ k. k ≤ unit_of places) (sym exact) (salvage_fraction-le places method rate life age) in
    record { exact = exact; most = most; small = small_factor _ places are most }

pub returns-else-goes_by_sinking_fund : goal.returns-else-goes_by_sinking_fund
returns-else-goes_by_sinking_fund c =
    let method = c.args.method in
    let rate = c.args.self.now.rate in
    let places = c.args.self.now.places in
    let life = c.args.life in
    let age = c.args.age in
    let same : c.self.inside.places ≡ places = ap (λ (d : Discounting). d.places) c.self.view_is in
    let are : IsPlaces places = kept_places places c.self.invariant same in
    let quotient : c.part_of-else-goes_by_sinking_fund.result ≡ straight_line places life age =
    c.part_of-else-goes_by_sinking_fund.ensures
    ∙ ap (λ unit. unit * c.from.result / c.from-else-goes_by_sinking_fund.result) (kept_unit places c.self.invariant same)
    ∙ ap₂ (λ part all. unit_of places * part / all) c.from.ensures c.from-else-goes_by_sinking_fund.ensures in
    let exact = quotient ∙ sym (salvage-straight places method rate life age (sym c.goes_by_sinking_fund.ensures ∙ c.if-goes_by_sinking_fund.false)) in
    let most : c.part_of-else-goes_by_sinking_fund.result ≤ unit_of places = subst (λ k. k ≤ unit_of places) (sym exact) (salvage_fraction-le places method rate life age) in
    record { exact = exact; most = most; small = small_factor _ places are most }
