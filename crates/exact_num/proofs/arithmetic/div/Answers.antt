-- A quotient is the product with the reciprocal.
use Rattle.exact_num.proofs.Common.{sym, ap, ◌∙◌, product_formed, quotient_formed, all_fit, times, value_of}
use Rattle.exact_num.proofs.RangeLaws.{IfOk-equal}
use Rattle.exact_num.proofs.RationalLaws.{divided-is_times}
use Rattle.exact_num.proofs.ValueLaws.{value_of-IsLowest}
use Rattle.exact_num.proofs.arithmetic.div.Goals as goal

pub returns-clause-refused : goal.returns-clause-refused
unfolding quotient_formed
returns-clause-refused c = c.mul.ensures.refused ∙ ap (λ t. all_fit (product_formed (value_of c.args.a) t)) c.inverse.ensures

pub returns-clause-value : goal.returns-clause-value
returns-clause-value c =
    let x = value_of c.args.a in
    let y = value_of c.args.b in
    let low_x = value_of-IsLowest c.args.a in
    let low_y = value_of-IsLowest c.args.b in
    IfOk-equal value_of c.mul.result (ap (times x) c.inverse.ensures ∙ sym (divided-is_times x y low_x low_y c.requires)) c.mul.ensures.value
