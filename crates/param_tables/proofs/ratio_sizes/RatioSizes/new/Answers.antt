use Rattle.param_tables.proofs.PlaceLaws.{members-most}
use Rattle.param_tables.proofs.Common.{◌≤◌, length, arith, members}
use Rattle.param_tables.proofs.ratio_sizes.RatioSizes.new.Goals as goal

pub returns-clause-small : goal.returns-clause-small
returns-clause-small c =
    let sets = c.args.sets.now in
    let t : length (members sets 2) ≤ 1000 = members-most sets 2 c.count.ensures.rules (omega arith, omega arith) in
    let k : length (members sets c.commodity_set.result) ≤ 1000 = members-most sets c.commodity_set.result c.count.ensures.rules c.commodity_set.ensures.listed in
    let m : length (members sets 5) ≤ 1000 = members-most sets 5 c.count.ensures.rules (omega arith, omega arith) in
    let y : length (members sets 7) ≤ 1000 = members-most sets 7 c.count.ensures.rules (omega arith, omega arith) in
    record {
      technologies = omega (arith, c.count.ensures.count);
      commodities = omega (arith, c.count-2.ensures.count);
      modes = omega (arith, c.count-3.ensures.count);
      years = omega (arith, c.count-4.ensures.count);
    }
