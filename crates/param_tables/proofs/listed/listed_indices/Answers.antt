use Rattle.param_tables.proofs.Common.{◌≡◌, ◌+◌, ◌*◌, ◌<◌, ◌≤◌, get_or, arith, Contains-get_or, region_size}
use Rattle.param_tables.proofs.listed.listed_indices.Goals as goal

pub overflow_sub-place : goal.overflow_sub-place
overflow_sub-place c =
    let part = c.part_between-part.result.now in
    let there = c.part_between-part.ensures.inside (get_or part c.loop-place.place-index 0) (Contains-get_or part c.loop-place.place-index 0 c.loop-place-test.true) in
    there.1

pub index_at-requires-clause-below : goal.index_at-requires-clause-below
index_at-requires-clause-below c =
    let part = c.part_between-part.result.now in
    let place = get_or part c.loop-place.place-index 0 in
    let there = c.part_between-part.ensures.inside place (Contains-get_or part c.loop-place.place-index 0 c.loop-place-test.true) in
    let start = c.from.result * c.region_size-size.result in
    let low : start ≤ place = there.1 in
    let high : place < start + c.region_size-size.result = there.2 in
    let size : c.region_size-size.result ≡ region_size c.args.sizes = c.region_size-size.ensures.size in
    omega arith
