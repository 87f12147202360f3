use Rattle.scaled_decimals.proofs.Common.{arith, is_ascii_digit, prefix_len-le-length}
use Rattle.scaled_decimals.proofs.reading.digits.split_digits.Goals as goal

pub split_at-requires : goal.split_at-requires
split_at-requires c = let most = prefix_len-le-length is_ascii_digit c.args.text.now in omega arith
