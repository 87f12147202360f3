-- Both products fit, so they compare as the quotients do.
use Rattle.simplex_core.proofs.Common.{◌*ℤ◌, sym, ap₂, ◌∙◌, int_cmp, back_in_range}
use Rattle.simplex_core.proofs.QuotientLaws.{order_of_quotients}
use Rattle.simplex_core.proofs.choice.order_of_quotients.Goals as goal

pub returns-then-is_narrow-4 : goal.returns-then-is_narrow-4
returns-then-is_narrow-4 c =
    let a = c.args.a in
    let b = c.args.b in
    c.cmp.ensures
    ∙ ap₂ int_cmp
    (back_in_range c.product.result c.product.ensures.range ∙ c.product.ensures.value ∙ ap₂ ◌*ℤ◌ (back_in_range a.right a.right_fits) (back_in_range b.entry b.entry_fits))
    (back_in_range c.product-then-is_narrow-4.result c.product-then-is_narrow-4.ensures.range ∙ c.product-then-is_narrow-4.ensures.value ∙ ap₂ ◌*ℤ◌ (back_in_range b.right b.right_fits) (back_in_range a.entry a.entry_fits))
    ∙ sym (order_of_quotients a.right a.entry b.right b.entry a.positive b.positive)
