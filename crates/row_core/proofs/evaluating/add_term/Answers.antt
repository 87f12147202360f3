-- The product, and then the sum.
use Rattle.row_core.proofs.Common.{◌≡◌, ℤ, true, false, ◌&&◌, sym, ap, ◌∙◌, product_formed, sum_formed, all_fit, Rational, whole, times, value_of, back_in_range, is_ok-false, all_fit-append, term_formed}
use Rattle.row_core.proofs.evaluating.add_term.Goals as goal

parts : (s v : Rational) (n : ℤ) → all_fit (term_formed s n v) ≡ (all_fit (product_formed (whole n) v) && all_fit (sum_formed s (times (whole n) v)))
parts s v n = all_fit-append (product_formed (whole n) v) (sum_formed s (times (whole n) v))

pub returns-in_err-product-clause-refused : goal.returns-in_err-product-clause-refused
returns-in_err-product-clause-refused c =
    let s = value_of c.args.sum in
    let v = value_of c.args.value in
    let n : ℤ = c.args.number in
    let number : value_of c.fraction.result ≡ whole n = c.fraction.ensures ∙ ap whole (back_in_range n c.requires) in
    let wide : all_fit (product_formed (whole n) v) ≡ false = ap (λ a. all_fit (product_formed a v)) (sym number) ∙ sym c.in_err-product.ensures.refused in
    is_ok-false c.from_residual.result c.from_residual.ensures.0 ∙ sym (parts s v n ∙ ap (λ t. t && all_fit (sum_formed s (times (whole n) v))) wide)

pub returns-clause-refused : goal.returns-clause-refused
returns-clause-refused c =
    let s = value_of c.args.sum in
    let v = value_of c.args.value in
    let n : ℤ = c.args.number in
    let number : value_of c.fraction.result ≡ whole n = c.fraction.ensures ∙ ap whole (back_in_range n c.requires) in
    let fit : all_fit (product_formed (whole n) v) ≡ true = ap (λ a. all_fit (product_formed a v)) (sym number) ∙ sym c.in_ok-product.ensures.refused in
    let product : value_of c.in_ok-product.product ≡ times (whole n) v = c.in_ok-product.ensures.value ∙ ap (λ a. times a v) number in
    c.add.ensures.refused ∙ ap (λ b. all_fit (sum_formed s b)) product ∙ sym (parts s v n ∙ ap (λ t. t && all_fit (sum_formed s (times (whole n) v))) fit)
