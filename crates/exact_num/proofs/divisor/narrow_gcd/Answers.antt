-- The numbers put in order, and a remainder, keep the greatest common divisor.
use Rattle.exact_num.proofs.Common.{◌%◌, sym, ap₂, ◌∙◌, arith, gcd_of}
use Rattle.exact_num.proofs.GcdLaws.{gcd_of-mod, gcd_of_at_zero}
use Rattle.exact_num.proofs.OddLaws.{ordered}
use Rattle.exact_num.proofs.divisor.narrow_gcd.Goals as goal

pub returns-then-small-eq0 : goal.returns-then-small-eq0
returns-then-small-eq0 c =
    let in_order = ap₂ gcd_of c.max-large.ensures c.min-small.ensures ∙ ordered c.args.a c.args.b in
    sym (gcd_of_at_zero c.max-large.result c.min-small.result (omega arith)) ∙ in_order

pub returns-then-large-small : goal.returns-then-large-small
returns-then-large-small c =
    let in_order = ap₂ gcd_of c.max-large.ensures c.min-small.ensures ∙ ordered c.args.a c.args.b in
    c.close_gcd.ensures ∙ in_order

pub returns-then-rest-eq0 : goal.returns-then-rest-eq0
returns-then-rest-eq0 c =
    let in_order = ap₂ gcd_of c.max-large.ensures c.min-small.ensures ∙ ordered c.args.a c.args.b in
    sym (gcd_of_at_zero c.min-small.result (c.max-large.result % c.min-small.result) (omega arith)) ∙ gcd_of-mod c.max-large.result c.min-small.result ∙ in_order

pub returns-else-rest-eq0 : goal.returns-else-rest-eq0
returns-else-rest-eq0 c =
    let in_order = ap₂ gcd_of c.max-large.ensures c.min-small.ensures ∙ ordered c.args.a c.args.b in
    c.close_gcd-else-rest-eq0.ensures ∙ gcd_of-mod c.max-large.result c.min-small.result ∙ in_order
