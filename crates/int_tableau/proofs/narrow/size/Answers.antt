use Rattle.row_core.specs.Numbers.{numbers_of}
use Rattle.int_tableau.proofs.SizeLaws.{AreWithin-more}
use Rattle.int_tableau.proofs.narrow.size.Goals as goal

pub returns-clause-within : goal.returns-clause-within
returns-clause-within c = AreWithin-more c.short_size.result c.greater.result (numbers_of c.args.entries.now) c.greater.ensures.second c.short_size.ensures
