use Rattle.std.proofs.Common.{◌≤◌, ◌^◌, arith}
use Rattle.scaled_decimals.proofs.DigitLemmas.{ten_mono}
use Rattle.scaled_decimals.proofs.reading.digits.capped_power.Goals as goal

pub returns-then-power-gt38 : goal.returns-then-power-gt38
returns-then-power-gt38 c = let least : 10 ^ 39 ≤ 10 ^ c.args.power = ten_mono 39 c.args.power (omega arith) in omega arith

pub returns-else-power-gt38 : goal.returns-else-power-gt38
returns-else-power-gt38 c = let most : 10 ^ c.args.power ≤ 10 ^ 38 = ten_mono c.args.power 38 (omega arith) in omega arith
