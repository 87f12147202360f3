use Rattle.param_tables.proofs.Common.{◌≡◌, ◌+◌, ◌-◌, ◌*◌, ◌/◌, ◌<◌, ◌≤◌, get_or, map, nat_eq, ap, ◌∙◌, subst, arith, dedup, take_all, Contains-get_or, dedup_is, IsPartBetween}
use Rattle.param_tables.proofs.IndexLaws.{IsPart, parts}
use Rattle.param_tables.proofs.SearchLaws.{blocks_from}
use Rattle.param_tables.proofs.place_search.blocks_with_place.Goals as goal

pub overflow_sub-place : goal.overflow_sub-place
overflow_sub-place c =
    let part = c.part_between-part.result.now in
    let there = c.part_between-part.ensures.inside (get_or part c.loop-place.place-index 0) (Contains-get_or part c.loop-place.place-index 0 c.loop-place-test.true) in
    there.1

pub overflow_cast-place : goal.overflow_cast-place
overflow_cast-place c =
    let part = c.part_between-part.result.now in
    let place = get_or part c.loop-place.place-index 0 in
    let there = c.part_between-part.ensures.inside place (Contains-get_or part c.loop-place.place-index 0 c.loop-place-test.true) in
    let low : c.args.start ≤ place = there.1 in
    let high : place < c.args.start + c.from.result * c.args.width = there.2 in
    let count = c.from.ensures in
    let cut : IsPart c.from.result c.args.width (place - c.args.start) = parts c.from.result c.args.width (place - c.args.start) (omega arith) in
    let block : (place - c.args.start) / c.args.width < c.from.result = cut.block in
    omega (arith, c.ranges.count.fits)

pub returns : goal.returns
returns c =
    let part = c.part_between-part.result.now in
    let start = c.args.start in
    let width = c.args.width in
    let pushed : c.loop-place.blocks.items ≡ map (λ p. (p - start) / width) part = c.loop-place.invariant ∙ ap (map (λ p. (p - start) / width)) (take_all c.loop-place.place-index part c.loop-place-test.false) in
    let left : c.dedup.new.self.items ≡ dedup nat_eq c.loop-place.blocks.items = dedup_is nat_eq c.loop-place.blocks.items c.dedup.new.self.items c.dedup.ensures.filtered in
    let between_them : IsPartBetween c.args.places.now start (start + c.args.count * width) part = subst (λ n. IsPartBetween c.args.places.now start (start + n * width) part) c.from.ensures c.part_between-part.ensures in
    blocks_from c.args.places.now part start width c.args.count (omega arith) between_them c.loop-place.blocks.items c.dedup.new.self.items pushed left
