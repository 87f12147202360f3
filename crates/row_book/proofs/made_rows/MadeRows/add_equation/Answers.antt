use Rattle.row_book.proofs.Common.{◌≡◌, ◌<◌, ◌+◌, ◌-◌, ap, sym, subst, length, ◌∙◌, arith, flat_map, range_with_len, members, count_of, places_of, HasStopped, AddsRows, instances_in}
use Rattle.model_sets.specs.Names as sets
use Rattle.row_book.proofs.Regions.{instances-regions}
use Rattle.row_book.proofs.RowsAddedLaws.{adds-nothing, range-adds, range-stops}
use Rattle.row_book.proofs.made_rows.MadeRows.add_equation.Goals as goal

pub loop-region-init : goal.loop-region-init
loop-region-init c = adds-nothing (places_of c.args.factors.now) c.args.model.now.facts c.args.self.now

pub returns-in-Err-clause-stopped : goal.returns-in-Err-clause-stopped
returns-in-Err-clause-stopped c =
    let d = c.args.model.now.facts in
    let count : c.count-region-end.result ≡ count_of d sets.region = c.count-region-end.ensures.count ∙ ap (λ lists. length (members lists sets.region)) c.sets.ensures.sets in
    let inside : c.loop-region.region < 0 + count_of d sets.region = omega (arith, c.loop-region-test.true, count) in
    subst (λ names. HasStopped (places_of c.args.factors.now) d c.args.self.now.entries names c.in-Err.fail) (sym (instances-regions d c.args.eq c.requires.equation))
    (range-stops (places_of c.args.factors.now) d (instances_in d c.args.eq) 0 (count_of d sets.region) c.loop-region.region c.args.self.now c.loop-region.self c.in-Err.fail (omega arith) inside c.loop-region.invariant c.in-Err.ensures.stopped)

pub loop-region-preserved : goal.loop-region-preserved
loop-region-preserved c =
    range-adds (places_of c.args.factors.now) c.args.model.now.facts (instances_in c.args.model.now.facts c.args.eq) 0 c.loop-region.region c.args.self.now c.loop-region.self c.add_region.new.self
    (omega arith) c.loop-region.invariant c.in-Ok.ensures.added

pub returns-clause-added : goal.returns-clause-added
returns-clause-added c =
    let d = c.args.model.now.facts in
    let count : c.count-region-end.result ≡ count_of d sets.region = c.count-region-end.ensures.count ∙ ap (λ lists. length (members lists sets.region)) c.sets.ensures.sets in
    let all : c.loop-region.region - 0 ≡ count_of d sets.region = omega (arith, c.loop-region-test.false, c.loop-region.auto.region-end, count) in
    subst (λ names. AddsRows (places_of c.args.factors.now) d names c.args.self.now c.loop-region.self)
    (ap (λ k. flat_map (instances_in d c.args.eq) (range_with_len 0 k)) all ∙ sym (instances-regions d c.args.eq c.requires.equation))
    c.loop-region.invariant
