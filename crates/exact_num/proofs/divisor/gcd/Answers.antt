-- What the cast of the natural result gives.
use Rattle.exact_num.proofs.Common.{◌≡◌, ◌<◌, ◌^◌, pos, ap, ap₂, ◌∙◌, unsigned_abs, w128, to_z_pos, gcd_of}
use Rattle.exact_num.proofs.GcdLaws.{gcd_of_below}
use Rattle.exact_num.proofs.RangeLaws.{back_in_range}
use Rattle.exact_num.proofs.divisor.gcd.Goals as goal

result_is : (c : goal.After-wide_gcd) → c.wide_gcd.result ≡ gcd_of (unsigned_abs c.args.a) (unsigned_abs c.args.b)
result_is c =
    let left = c.unsigned_abs.ensures.value ∙ ap unsigned_abs (back_in_range c.args.a c.requires.left) in
    let right = c.unsigned_abs-2.ensures.value ∙ ap unsigned_abs (back_in_range c.args.b c.requires.right) in
    c.wide_gcd.ensures ∙ ap₂ gcd_of left right

result_small : (c : goal.After-wide_gcd) → c.wide_gcd.result < 2 ^ 127
result_small c =
    rw (result_is c) (gcd_of_below (unsigned_abs c.args.a) (unsigned_abs c.args.b) (2 ^ 127) c.requires.left c.requires.right)

pub returns-clause-value : goal.returns-clause-value
returns-clause-value c = to_z_pos w128 c.wide_gcd.result (result_small c) ∙ ap pos (result_is c)

pub returns-clause-range : goal.returns-clause-range
returns-clause-range c = rw (to_z_pos w128 c.wide_gcd.result (result_small c)) (result_small c)
