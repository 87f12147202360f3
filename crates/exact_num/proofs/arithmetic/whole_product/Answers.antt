-- At denominators 1 one number alone is formed that may not fit.
use Rattle.exact_num.proofs.Common.{sym, ap, ◌∙◌, InRange, whole, value_of}
use Rattle.exact_num.proofs.OperationLaws.{whole_product_fits, whole_product_value}
use Rattle.exact_num.proofs.RangeLaws.{back_in_range, is_ok-false}
use Rattle.exact_num.proofs.RationalLaws.{whole-IsLowest}
use Rattle.exact_num.proofs.ValueLaws.{value_of-IsLowest}
use Rattle.exact_num.proofs.arithmetic.whole_product.Goals as goal

pub returns-in_err-product-clause-refused : goal.returns-in_err-product-clause-refused
returns-in_err-product-clause-refused c =
    let a_fits : InRange c.args.a.num = c.args.a.num_fits in
    let c_fits : InRange c.args.b.num = c.args.b.num_fits in
    let x = value_of c.args.a in
    let y = value_of c.args.b in
    let t = simp back_in_range at c.in_err-product.ensures.refused in
    is_ok-false c.from_residual.result c.from_residual.ensures.0 ∙ t ∙ sym (whole_product_fits x y c.requires.left c.requires.right)

pub lowest_pair-requires-clause-lowest : goal.lowest_pair-requires-clause-lowest
lowest_pair-requires-clause-lowest c =
    let n_fits : InRange c.in_ok-product.field-0 = c.in_ok-product.ensures.range in
    simp back_in_range (whole-IsLowest c.in_ok-product.field-0)

pub returns-clause-refused : goal.returns-clause-refused
returns-clause-refused c =
    let a_fits : InRange c.args.a.num = c.args.a.num_fits in
    let c_fits : InRange c.args.b.num = c.args.b.num_fits in
    let x = value_of c.args.a in
    let y = value_of c.args.b in
    let t = simp back_in_range at c.in_ok-product.ensures.refused in
    t ∙ sym (whole_product_fits x y c.requires.left c.requires.right)

pub returns-clause-value : goal.returns-clause-value
returns-clause-value c =
    let a_fits : InRange c.args.a.num = c.args.a.num_fits in
    let c_fits : InRange c.args.b.num = c.args.b.num_fits in
    let x = value_of c.args.a in
    let y = value_of c.args.b in
    let n_fits : InRange c.in_ok-product.field-0 = c.in_ok-product.ensures.range in
    let low_x = value_of-IsLowest c.args.a in
    let low_y = value_of-IsLowest c.args.b in
    let n = simp back_in_range at c.in_ok-product.ensures.value in
    (simp back_in_range at c.lowest_pair.ensures) ∙ ap whole n ∙ whole_product_value x y low_x low_y c.requires.left c.requires.right
