-- The odd parts' greatest common divisor with the factors of 2 that both numbers have.
use Rattle.exact_num.proofs.Common.{◌*◌, ◌%◌, ◌^◌, ap, ap₂, ◌∙◌, mod-eq_of_lt, gcd_of}
use Rattle.exact_num.proofs.GcdLaws.{gcd_of_below}
use Rattle.exact_num.proofs.OddLaws.{twos_shared}
use Rattle.exact_num.proofs.divisor.close_gcd.Goals as goal

pub returns : goal.returns
returns c =
    let a = c.args.a in
    let b = c.args.b in
    let odd_parts = c.narrow_odd_gcd.ensures ∙ ap₂ gcd_of c.narrow_odd_part.ensures.value c.narrow_odd_part-2.ensures.value in
    let all = ap₂ (λ m t. m * 2 ^ t) odd_parts c.min-twos.ensures ∙ twos_shared 64 a b c.requires.left c.requires.right c.ranges.a.fits c.ranges.b.fits in
    ap (λ m. m % 2 ^ 64) all ∙ mod-eq_of_lt (gcd_of_below a b (2 ^ 64) c.ranges.a.fits c.ranges.b.fits)
