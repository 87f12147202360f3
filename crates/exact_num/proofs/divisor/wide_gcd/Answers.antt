-- The odd parts' greatest common divisor with the factors of 2 that both numbers have.
use Rattle.exact_num.proofs.Common.{◌*◌, ◌%◌, ◌^◌, ◌<◌, ap, ap₂, ◌∙◌, arith, mod-eq_of_lt, gcd_of}
use Rattle.exact_num.proofs.GcdLaws.{gcd_of_comm, gcd_of_below}
use Rattle.exact_num.proofs.OddLaws.{twos_shared}
use Rattle.exact_num.proofs.divisor.wide_gcd.Goals as goal

pub returns-then-a-le-NARROW : goal.returns-then-a-le-NARROW
returns-then-a-le-NARROW c = c.mixed_gcd.ensures ∙ gcd_of_comm c.args.b c.args.a

pub returns-else-b-le-NARROW : goal.returns-else-b-le-NARROW
returns-else-b-le-NARROW c =
    let a = c.args.a in
    let b = c.args.b in
    let left : 0 < a = omega arith in
    let right : 0 < b = omega arith in
    let odd_parts = c.wide_odd_gcd.ensures ∙ ap₂ gcd_of c.wide_odd_part.ensures.value c.wide_odd_part-else-b-le-NARROW.ensures.value in
    let all = ap₂ (λ m t. m * 2 ^ t) odd_parts c.min-twos.ensures ∙ twos_shared 128 a b left right c.ranges.a.fits c.ranges.b.fits in
    ap (λ m. m % 2 ^ 128) all ∙ mod-eq_of_lt (gcd_of_below a b (2 ^ 128) c.ranges.a.fits c.ranges.b.fits)
