-- Numbers below 2^63 have a product below 2^126.
use Rattle.simplex_core.proofs.Common.{sym, ap₂, ◌∙◌, subst, ◌*ℤ◌, to_z, of_z, w128, InRange, back_in_range, back_widened}
use Rattle.int_tableau.proofs.ProductLaws.{product_below, in_range_below}
use Rattle.simplex_core.proofs.short_choice.product.Goals as goal

pub returns-clause-value : goal.returns-clause-value
returns-clause-value c =
    ap₂ (λ p q. to_z w128 (of_z w128 (p *ℤ q))) (back_widened c.args.a c.requires.left) (back_widened c.args.b c.requires.right)
    ∙ back_in_range (c.args.a *ℤ c.args.b) (in_range_below (c.args.a *ℤ c.args.b) (product_below c.args.a c.args.b c.requires.left c.requires.right))

pub returns-clause-range : goal.returns-clause-range
returns-clause-range c = subst InRange (sym (returns-clause-value c)) (in_range_below (c.args.a *ℤ c.args.b) (product_below c.args.a c.args.b c.requires.left c.requires.right))
