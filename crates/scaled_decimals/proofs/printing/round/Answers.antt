use Rattle.std.proofs.Common.{arith}
use Rattle.scaled_decimals.proofs.PrintedRounding.{nearest-whole}
use Rattle.scaled_decimals.proofs.printing.round.Goals as goal

pub returns-then-millionths-eq1000000-clause-value : goal.returns-then-millionths-eq1000000-clause-value
returns-then-millionths-eq1000000-clause-value c = omega (arith, nearest-whole 1000000 c.args.num c.args.den c.requires.positive)

pub returns-else-millionths-eq1000000-clause-value : goal.returns-else-millionths-eq1000000-clause-value
returns-else-millionths-eq1000000-clause-value c = omega (arith, nearest-whole 1000000 c.args.num c.args.den c.requires.positive)
