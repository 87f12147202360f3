use Rattle.std.proofs.Common.{pos}
use Rattle.std.specs.Prelude.{◌<ℤ◌}
use Rattle.exact_num.specs.Range.{InRange}
use Rattle.presolved_program.proofs.decimals.power.Given as goal

abbrev pub invariant-loop : goal.invariant-loop
invariant-loop l = (pos 0 <ℤ l.value) × InRange l.value
