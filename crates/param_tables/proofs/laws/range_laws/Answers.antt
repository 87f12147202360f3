use Rattle.param_tables.proofs.RangeRules.{ranges_are_told}
use Rattle.param_tables.proofs.laws.range_laws.Goals as goal

pub returns : goal.returns
returns c = record { told = ranges_are_told }
