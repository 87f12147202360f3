-- Both products fit, so they compare as the quotients do.
use Rattle.simplex_core.proofs.Common.{◌*ℤ◌, sym, ap₂, ◌∙◌, int_cmp, back_in_range, back_narrow}
use Rattle.simplex_core.proofs.QuotientLaws.{order_of_quotients}
use Rattle.simplex_core.proofs.short_choice.order_of_quotients.Goals as goal

pub returns : goal.returns
returns c =
    let a = c.args.a in
    let b = c.args.b in
    c.cmp.ensures
    ∙ ap₂ int_cmp
    (back_in_range c.product.result c.product.ensures.range ∙ c.product.ensures.value ∙ ap₂ ◌*ℤ◌ (back_narrow a.right a.right_narrow) (back_narrow b.entry b.entry_narrow))
    (back_in_range c.product-2.result c.product-2.ensures.range ∙ c.product-2.ensures.value ∙ ap₂ ◌*ℤ◌ (back_narrow b.right b.right_narrow) (back_narrow a.entry a.entry_narrow))
    ∙ sym (order_of_quotients a.right a.entry b.right b.entry a.positive b.positive)
