use Rattle.std.proofs.Common.{arith}
use Rattle.param_tables.proofs.RatioPlaceLaws.{within_from}
use Rattle.param_tables.proofs.ratio_sizes.RatioSizes.index_at.Goals as goal

pub overflow_cast-result-3 : goal.overflow_cast-result-3
overflow_cast-result-3 c =
    let within = within_from c.args.self c.args.offset c.technology_size.result c.technology_size.result c.commodity_size.result c.commodity_size.result c.from.result c.from.result c.technology_size.ensures.size c.technology_size.ensures.size c.commodity_size.ensures.size c.commodity_size.ensures.size c.from.ensures c.from.ensures c.requires.below in
    let low = within.mode in
    let small = c.requires.small.modes in
    omega arith

pub returns-clause-within : goal.returns-clause-within
returns-clause-within c = within_from c.args.self c.args.offset c.technology_size-2.result c.technology_size.result c.commodity_size-2.result c.commodity_size.result c.from.result c.from-2.result c.technology_size-2.ensures.size c.technology_size.ensures.size c.commodity_size-2.ensures.size c.commodity_size.ensures.size c.from.ensures c.from-2.ensures c.requires.below
