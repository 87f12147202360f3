use Rattle.std.proofs.Common.{arith}
use Rattle.param_tables.proofs.SearchLaws.{part_of}
use Rattle.param_tables.proofs.place_search.part_between.Goals as goal

pub count_from-last-requires-clause-before : goal.count_from-last-requires-clause-before
count_from-last-requires-clause-before c k less =
    let below = c.count_before-first.ensures.before k less in
    omega (arith, below, c.requires.order)

pub returns : goal.returns
returns c =
    let places = c.args.places.now in
    let first = c.count_before-first in
    let last = c.count_from-last in
    part_of places c.args.start c.args.end first.result last.result (record {
      first_within = first.ensures.within;
      last_within = last.ensures.within;
      before_first = first.ensures.before;
      from_first = first.ensures.after;
      before_last = last.ensures.before;
      from_last = last.ensures.after;
    }) c.requires.rising c.requires.order
