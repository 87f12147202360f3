use Rattle.std.proofs.Common.{◌≤◌, get_or, arith}
use Rattle.param_tables.proofs.EntryLaws.{rising_all}
use Rattle.param_tables.proofs.place_search.count_from.Goals as goal

pub returns-then-places-count-clause-after : goal.returns-then-places-count-clause-after
returns-then-places-count-clause-after c k low below =
    let places = c.args.places.now in
    let above : get_or places c.loop-count.count 0 ≤ get_or places k 0 = rising_all places c.requires.rising c.loop-count.count k low below in
    omega (arith, above, c.if-places-count.true)
