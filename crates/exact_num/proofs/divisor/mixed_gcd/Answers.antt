-- A remainder keeps the greatest common divisor.
use Rattle.exact_num.proofs.Common.{◌%◌, sym, ap, ◌∙◌, arith, gcd_of}
use Rattle.exact_num.proofs.GcdLaws.{gcd_of-mod, gcd_of_at_zero}
use Rattle.exact_num.proofs.divisor.mixed_gcd.Goals as goal

pub returns-then-b-eq0 : goal.returns-then-b-eq0
returns-then-b-eq0 c = sym (gcd_of_at_zero c.args.a c.args.b (omega arith))

pub returns-else-b-eq0 : goal.returns-else-b-eq0
returns-else-b-eq0 c =
    c.from-else-b-eq0-2.ensures ∙ c.narrow_gcd-else-b-eq0.ensures ∙ ap (λ m. gcd_of c.args.b (c.args.a % m)) c.from-else-b-eq0.ensures ∙ gcd_of-mod c.args.a c.args.b
