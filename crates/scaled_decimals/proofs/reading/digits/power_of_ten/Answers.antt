use Rattle.std.proofs.Common.{◌≤◌, ◌^◌, arith}
use Rattle.scaled_decimals.proofs.DigitLemmas.{ten_mono}
use Rattle.scaled_decimals.proofs.reading.digits.power_of_ten.Goals as goal

pub pow-requires : goal.pow-requires
pow-requires c = let most : 10 ^ c.args.power ≤ 10 ^ 38 = ten_mono c.args.power 38 c.requires in omega arith
