-- The numbers formed are those of the definition, and they are the product.
use Rattle.exact_num.proofs.Common.{sym, ap, ap₂, ◌∙◌, subst, ◌*ℤ◌, common, InRange, in_range, IsLowest, pair, value_of}
use Rattle.exact_num.proofs.OperationLaws.{product_stops_top, product_stops_bottom, product_fits, product_value, product-IsLowest, part_by}
use Rattle.exact_num.proofs.RangeLaws.{back_in_range, is_ok-false}
use Rattle.exact_num.proofs.ValueLaws.{value_of-IsLowest}
use Rattle.exact_num.proofs.arithmetic.wide_product.Goals as goal

pub returns-in_err-num-clause-refused : goal.returns-in_err-num-clause-refused
returns-in_err-num-clause-refused c =
    let a_fits : InRange c.args.a.num = c.args.a.num_fits in
    let b_fits : InRange c.args.a.den = c.args.a.den_fits in
    let c_fits : InRange c.args.b.num = c.args.b.num_fits in
    let d_fits : InRange c.args.b.den = c.args.b.den_fits in
    let g_fits : InRange c.args.first = c.requires.first_range in
    let h_fits : InRange c.args.second = c.requires.second_range in
    let x = value_of c.args.a in
    let y = value_of c.args.b in
    let g = c.requires.first_greatest in
    let h = c.requires.second_greatest in
    let p_fits : InRange c.quotient.result = c.quotient.ensures.range in
    let q_fits : InRange c.quotient-2.result = c.quotient-2.ensures.range in
    let p = simp back_in_range at c.quotient.ensures.value in
    let q = simp back_in_range at c.quotient-2.ensures.value in
    let top_is = ap₂ ◌*ℤ◌ (part_by x.top c.args.first (common x.top y.bottom) c.quotient.result g p) (part_by y.top c.args.second (common y.top x.bottom) c.quotient-2.result h q) in
    let t = (simp back_in_range at c.in_err-num.ensures.refused) ∙ ap in_range top_is in
    is_ok-false c.from_residual.result c.from_residual.ensures.0 ∙ sym (product_stops_top x y t)

pub returns-in_err-den-clause-refused : goal.returns-in_err-den-clause-refused
returns-in_err-den-clause-refused c =
    let a_fits : InRange c.args.a.num = c.args.a.num_fits in
    let b_fits : InRange c.args.a.den = c.args.a.den_fits in
    let c_fits : InRange c.args.b.num = c.args.b.num_fits in
    let d_fits : InRange c.args.b.den = c.args.b.den_fits in
    let g_fits : InRange c.args.first = c.requires.first_range in
    let h_fits : InRange c.args.second = c.requires.second_range in
    let x = value_of c.args.a in
    let y = value_of c.args.b in
    let g = c.requires.first_greatest in
    let h = c.requires.second_greatest in
    let p_fits : InRange c.quotient.result = c.quotient.ensures.range in
    let q_fits : InRange c.quotient-2.result = c.quotient-2.ensures.range in
    let p = simp back_in_range at c.quotient.ensures.value in
    let q = simp back_in_range at c.quotient-2.ensures.value in
    let top_is = ap₂ ◌*ℤ◌ (part_by x.top c.args.first (common x.top y.bottom) c.quotient.result g p) (part_by y.top c.args.second (common y.top x.bottom) c.quotient-2.result h q) in
    let n_fits : InRange c.in_ok-num.num = c.in_ok-num.ensures.range in
    let t = (simp back_in_range at c.in_ok-num.ensures.refused) ∙ ap in_range top_is in
    let top = (simp back_in_range at c.in_ok-num.ensures.value) ∙ top_is in
    let r_fits : InRange c.quotient-3.result = c.quotient-3.ensures.range in
    let s_fits : InRange c.quotient-4.result = c.quotient-4.ensures.range in
    let r = simp back_in_range at c.quotient-3.ensures.value in
    let s = simp back_in_range at c.quotient-4.ensures.value in
    let bottom_is = ap₂ ◌*ℤ◌ (part_by x.bottom c.args.second (common y.top x.bottom) c.quotient-3.result h r) (part_by y.bottom c.args.first (common x.top y.bottom) c.quotient-4.result g s) in
    let b = (simp back_in_range at c.in_err-den.ensures.refused) ∙ ap in_range bottom_is in
    is_ok-false c.from_residual-in_err-den.result c.from_residual-in_err-den.ensures.0 ∙ sym (product_stops_bottom x y t b)

pub lowest_pair-requires-clause-lowest : goal.lowest_pair-requires-clause-lowest
lowest_pair-requires-clause-lowest c =
    let a_fits : InRange c.args.a.num = c.args.a.num_fits in
    let b_fits : InRange c.args.a.den = c.args.a.den_fits in
    let c_fits : InRange c.args.b.num = c.args.b.num_fits in
    let d_fits : InRange c.args.b.den = c.args.b.den_fits in
    let g_fits : InRange c.args.first = c.requires.first_range in
    let h_fits : InRange c.args.second = c.requires.second_range in
    let x = value_of c.args.a in
    let y = value_of c.args.b in
    let g = c.requires.first_greatest in
    let h = c.requires.second_greatest in
    let p_fits : InRange c.quotient.result = c.quotient.ensures.range in
    let q_fits : InRange c.quotient-2.result = c.quotient-2.ensures.range in
    let p = simp back_in_range at c.quotient.ensures.value in
    let q = simp back_in_range at c.quotient-2.ensures.value in
    let top_is = ap₂ ◌*ℤ◌ (part_by x.top c.args.first (common x.top y.bottom) c.quotient.result g p) (part_by y.top c.args.second (common y.top x.bottom) c.quotient-2.result h q) in
    let n_fits : InRange c.in_ok-num.num = c.in_ok-num.ensures.range in
    let t = (simp back_in_range at c.in_ok-num.ensures.refused) ∙ ap in_range top_is in
    let top = (simp back_in_range at c.in_ok-num.ensures.value) ∙ top_is in
    let r_fits : InRange c.quotient-3.result = c.quotient-3.ensures.range in
    let s_fits : InRange c.quotient-4.result = c.quotient-4.ensures.range in
    let r = simp back_in_range at c.quotient-3.ensures.value in
    let s = simp back_in_range at c.quotient-4.ensures.value in
    let bottom_is = ap₂ ◌*ℤ◌ (part_by x.bottom c.args.second (common y.top x.bottom) c.quotient-3.result h r) (part_by y.bottom c.args.first (common x.top y.bottom) c.quotient-4.result g s) in
    let m_fits : InRange c.in_ok-den.den = c.in_ok-den.ensures.range in
    let b = (simp back_in_range at c.in_ok-den.ensures.refused) ∙ ap in_range bottom_is in
    let bottom = (simp back_in_range at c.in_ok-den.ensures.value) ∙ bottom_is in
    let low_x = value_of-IsLowest c.args.a in
    let low_y = value_of-IsLowest c.args.b in
    simp back_in_range (subst IsLowest (sym (ap₂ pair top bottom)) (product-IsLowest x y low_x low_y))

pub returns-clause-refused : goal.returns-clause-refused
returns-clause-refused c =
    let a_fits : InRange c.args.a.num = c.args.a.num_fits in
    let b_fits : InRange c.args.a.den = c.args.a.den_fits in
    let c_fits : InRange c.args.b.num = c.args.b.num_fits in
    let d_fits : InRange c.args.b.den = c.args.b.den_fits in
    let g_fits : InRange c.args.first = c.requires.first_range in
    let h_fits : InRange c.args.second = c.requires.second_range in
    let x = value_of c.args.a in
    let y = value_of c.args.b in
    let g = c.requires.first_greatest in
    let h = c.requires.second_greatest in
    let p_fits : InRange c.quotient.result = c.quotient.ensures.range in
    let q_fits : InRange c.quotient-2.result = c.quotient-2.ensures.range in
    let p = simp back_in_range at c.quotient.ensures.value in
    let q = simp back_in_range at c.quotient-2.ensures.value in
    let top_is = ap₂ ◌*ℤ◌ (part_by x.top c.args.first (common x.top y.bottom) c.quotient.result g p) (part_by y.top c.args.second (common y.top x.bottom) c.quotient-2.result h q) in
    let n_fits : InRange c.in_ok-num.num = c.in_ok-num.ensures.range in
    let t = (simp back_in_range at c.in_ok-num.ensures.refused) ∙ ap in_range top_is in
    let top = (simp back_in_range at c.in_ok-num.ensures.value) ∙ top_is in
    let r_fits : InRange c.quotient-3.result = c.quotient-3.ensures.range in
    let s_fits : InRange c.quotient-4.result = c.quotient-4.ensures.range in
    let r = simp back_in_range at c.quotient-3.ensures.value in
    let s = simp back_in_range at c.quotient-4.ensures.value in
    let bottom_is = ap₂ ◌*ℤ◌ (part_by x.bottom c.args.second (common y.top x.bottom) c.quotient-3.result h r) (part_by y.bottom c.args.first (common x.top y.bottom) c.quotient-4.result g s) in
    let m_fits : InRange c.in_ok-den.den = c.in_ok-den.ensures.range in
    let b = (simp back_in_range at c.in_ok-den.ensures.refused) ∙ ap in_range bottom_is in
    let bottom = (simp back_in_range at c.in_ok-den.ensures.value) ∙ bottom_is in
    product_fits x y t b

pub returns-clause-value : goal.returns-clause-value
returns-clause-value c =
    let a_fits : InRange c.args.a.num = c.args.a.num_fits in
    let b_fits : InRange c.args.a.den = c.args.a.den_fits in
    let c_fits : InRange c.args.b.num = c.args.b.num_fits in
    let d_fits : InRange c.args.b.den = c.args.b.den_fits in
    let g_fits : InRange c.args.first = c.requires.first_range in
    let h_fits : InRange c.args.second = c.requires.second_range in
    let x = value_of c.args.a in
    let y = value_of c.args.b in
    let g = c.requires.first_greatest in
    let h = c.requires.second_greatest in
    let p_fits : InRange c.quotient.result = c.quotient.ensures.range in
    let q_fits : InRange c.quotient-2.result = c.quotient-2.ensures.range in
    let p = simp back_in_range at c.quotient.ensures.value in
    let q = simp back_in_range at c.quotient-2.ensures.value in
    let top_is = ap₂ ◌*ℤ◌ (part_by x.top c.args.first (common x.top y.bottom) c.quotient.result g p) (part_by y.top c.args.second (common y.top x.bottom) c.quotient-2.result h q) in
    let n_fits : InRange c.in_ok-num.num = c.in_ok-num.ensures.range in
    let t = (simp back_in_range at c.in_ok-num.ensures.refused) ∙ ap in_range top_is in
    let top = (simp back_in_range at c.in_ok-num.ensures.value) ∙ top_is in
    let r_fits : InRange c.quotient-3.result = c.quotient-3.ensures.range in
    let s_fits : InRange c.quotient-4.result = c.quotient-4.ensures.range in
    let r = simp back_in_range at c.quotient-3.ensures.value in
    let s = simp back_in_range at c.quotient-4.ensures.value in
    let bottom_is = ap₂ ◌*ℤ◌ (part_by x.bottom c.args.second (common y.top x.bottom) c.quotient-3.result h r) (part_by y.bottom c.args.first (common x.top y.bottom) c.quotient-4.result g s) in
    let m_fits : InRange c.in_ok-den.den = c.in_ok-den.ensures.range in
    let b = (simp back_in_range at c.in_ok-den.ensures.refused) ∙ ap in_range bottom_is in
    let bottom = (simp back_in_range at c.in_ok-den.ensures.value) ∙ bottom_is in
    let low_x = value_of-IsLowest c.args.a in
    let low_y = value_of-IsLowest c.args.b in
    (simp back_in_range at c.lowest_pair.ensures) ∙ ap₂ pair top bottom ∙ product_value x y low_x low_y
