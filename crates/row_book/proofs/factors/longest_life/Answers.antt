use Rattle.row_book.proofs.Common.{◌≡◌, ◌∙◌, ◌≤◌, inl, inr, length, ap, sym, arith, cases_lt, members, count_of, life_of, nat_cmp, ord_max}
use Rattle.model_sets.specs.Names as sets
use Rattle.row_book.proofs.Periods.{both-within}
use Rattle.row_book.proofs.factors.longest_life.Goals as goal

pub loop-technology-init : goal.loop-technology-init
loop-technology-init c t none = absurd (omega (arith, none))

pub loop-technology-preserved : goal.loop-technology-preserved
loop-technology-preserved c t among =
    let both = both-within c.loop-technology.longest c.operational_life.result in
    let longest : ord_max nat_cmp c.loop-technology.longest c.operational_life.result ≡ c.max-longest.result = sym c.max-longest.ensures in
    elim (cases_lt t c.loop-technology.technology) [
      | inl before ↦
          let so_far : life_of c.args.model.now.facts c.args.region t ≤ c.loop-technology.longest = c.loop-technology.invariant t before in
          omega (arith, so_far, both.0, longest)
      | inr from ↦
          let same : t ≡ c.loop-technology.technology = omega (arith, among, from) in
          let this : life_of c.args.model.now.facts c.args.region t ≡ c.operational_life.result = ap (life_of c.args.model.now.facts c.args.region) same ∙ sym c.operational_life.ensures.exact in
          omega (arith, this, both.1, longest)
    ]

pub returns : goal.returns
returns c t technology =
    let count : c.count-technology-end.result ≡ count_of c.args.model.now.facts sets.technology =
    c.count-technology-end.ensures.count ∙ ap (λ lists. length (members lists sets.technology)) c.sets.ensures.sets in
    c.loop-technology.invariant t (omega (arith, technology, count, c.loop-technology-test.false))
