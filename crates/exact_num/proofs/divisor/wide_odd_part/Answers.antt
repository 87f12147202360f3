-- The factors of 2 that were shifted out are all that there are.
use Rattle.std.specs.Int.Count.{count_trailing_zeros}
use Rattle.exact_num.proofs.OddLaws.{trailing_mul, trailing_odd, odd_part-shares}
use Rattle.exact_num.proofs.divisor.wide_odd_part.Goals as goal

pub returns-clause-odd : goal.returns-clause-odd
returns-clause-odd c = trailing_odd 128 c.args.n c.requires c.ranges.n.fits

pub returns-clause-shared : goal.returns-clause-shared
returns-clause-shared c =
    λ b h. odd_part-shares c.args.n (count_trailing_zeros 128 c.args.n) b (trailing_mul 128 c.args.n c.requires c.ranges.n.fits) h
