-- The numbers formed are those of the definition, and the last two are the sum.
use Rattle.exact_num.proofs.Common.{◌≡◌, sym, ap, ap₂, ◌∙◌, subst, ℤ, pos, ◌+ℤ◌, ◌<ℤ◌, common, InRange, in_range, lowest, value_of}
use Rattle.exact_num.proofs.OperationLaws.{sum_left, sum_right, sum_left_is, sum_right_is, sum_bottom_is, sum_stops_left, sum_stops_right, sum_stops_top, sum_stops_bottom, sum_fits, sum_value, sum_divisor, sum_bottom_pos}
use Rattle.exact_num.proofs.RangeLaws.{back_in_range, is_ok-false}
use Rattle.exact_num.proofs.ValueLaws.{value_of-IsLowest}
use Rattle.exact_num.proofs.arithmetic.wide_sum.Goals as goal

pub returns-in_err-left-clause-refused : goal.returns-in_err-left-clause-refused
returns-in_err-left-clause-refused c =
    let a_fits : InRange c.args.a.num = c.args.a.num_fits in
    let b_fits : InRange c.args.a.den = c.args.a.den_fits in
    let c_fits : InRange c.args.b.num = c.args.b.num_fits in
    let d_fits : InRange c.args.b.den = c.args.b.den_fits in
    let g_fits : InRange c.args.divisor = c.requires.range in
    let f_fits : InRange c.quotient-widening.result = c.quotient-widening.ensures.range in
    let x = value_of c.args.a in
    let y = value_of c.args.b in
    let g = c.requires.greatest in
    let f = simp back_in_range at c.quotient-widening.ensures.value in
    let left_is = sum_left_is x y c.args.divisor c.quotient-widening.result g f in
    let l = (simp back_in_range at c.in_err-left.ensures.refused) ∙ ap in_range left_is in
    is_ok-false c.from_residual.result c.from_residual.ensures.0 ∙ sym (sum_stops_left x y l)

pub returns-in_err-right-clause-refused : goal.returns-in_err-right-clause-refused
returns-in_err-right-clause-refused c =
    let a_fits : InRange c.args.a.num = c.args.a.num_fits in
    let b_fits : InRange c.args.a.den = c.args.a.den_fits in
    let c_fits : InRange c.args.b.num = c.args.b.num_fits in
    let d_fits : InRange c.args.b.den = c.args.b.den_fits in
    let g_fits : InRange c.args.divisor = c.requires.range in
    let f_fits : InRange c.quotient-widening.result = c.quotient-widening.ensures.range in
    let x = value_of c.args.a in
    let y = value_of c.args.b in
    let g = c.requires.greatest in
    let f = simp back_in_range at c.quotient-widening.ensures.value in
    let left_is = sum_left_is x y c.args.divisor c.quotient-widening.result g f in
    let h_fits : InRange c.quotient.result = c.quotient.ensures.range in
    let h = simp back_in_range at c.quotient.ensures.value in
    let right_is = sum_right_is x y c.args.divisor c.quotient.result g h in
    let l_fits : InRange c.in_ok-left.left = c.in_ok-left.ensures.range in
    let l = (simp back_in_range at c.in_ok-left.ensures.refused) ∙ ap in_range left_is in
    let left = (simp back_in_range at c.in_ok-left.ensures.value) ∙ left_is in
    let r = (simp back_in_range at c.in_err-right.ensures.refused) ∙ ap in_range right_is in
    is_ok-false c.from_residual-in_err-right.result c.from_residual-in_err-right.ensures.0 ∙ sym (sum_stops_right x y l r)

pub returns-in_err-num-clause-refused : goal.returns-in_err-num-clause-refused
returns-in_err-num-clause-refused c =
    let a_fits : InRange c.args.a.num = c.args.a.num_fits in
    let b_fits : InRange c.args.a.den = c.args.a.den_fits in
    let c_fits : InRange c.args.b.num = c.args.b.num_fits in
    let d_fits : InRange c.args.b.den = c.args.b.den_fits in
    let g_fits : InRange c.args.divisor = c.requires.range in
    let f_fits : InRange c.quotient-widening.result = c.quotient-widening.ensures.range in
    let x = value_of c.args.a in
    let y = value_of c.args.b in
    let g = c.requires.greatest in
    let f = simp back_in_range at c.quotient-widening.ensures.value in
    let left_is = sum_left_is x y c.args.divisor c.quotient-widening.result g f in
    let h_fits : InRange c.quotient.result = c.quotient.ensures.range in
    let h = simp back_in_range at c.quotient.ensures.value in
    let right_is = sum_right_is x y c.args.divisor c.quotient.result g h in
    let l_fits : InRange c.in_ok-left.left = c.in_ok-left.ensures.range in
    let l = (simp back_in_range at c.in_ok-left.ensures.refused) ∙ ap in_range left_is in
    let left = (simp back_in_range at c.in_ok-left.ensures.value) ∙ left_is in
    let r_fits : InRange c.in_ok-right.right = c.in_ok-right.ensures.range in
    let r = (simp back_in_range at c.in_ok-right.ensures.refused) ∙ ap in_range right_is in
    let right = (simp back_in_range at c.in_ok-right.ensures.value) ∙ right_is in
    let top_is : c.in_ok-left.left +ℤ c.in_ok-right.right ≡ sum_left x y +ℤ sum_right x y = ap₂ ◌+ℤ◌ left right in
    let t = (simp back_in_range at c.in_err-num.ensures.refused) ∙ ap in_range top_is in
    is_ok-false c.from_residual-in_err-num.result c.from_residual-in_err-num.ensures.0 ∙ sym (sum_stops_top x y l r t)

pub returns-in_err-den-clause-refused : goal.returns-in_err-den-clause-refused
returns-in_err-den-clause-refused c =
    let a_fits : InRange c.args.a.num = c.args.a.num_fits in
    let b_fits : InRange c.args.a.den = c.args.a.den_fits in
    let c_fits : InRange c.args.b.num = c.args.b.num_fits in
    let d_fits : InRange c.args.b.den = c.args.b.den_fits in
    let g_fits : InRange c.args.divisor = c.requires.range in
    let f_fits : InRange c.quotient-widening.result = c.quotient-widening.ensures.range in
    let x = value_of c.args.a in
    let y = value_of c.args.b in
    let g = c.requires.greatest in
    let f = simp back_in_range at c.quotient-widening.ensures.value in
    let left_is = sum_left_is x y c.args.divisor c.quotient-widening.result g f in
    let h_fits : InRange c.quotient.result = c.quotient.ensures.range in
    let h = simp back_in_range at c.quotient.ensures.value in
    let right_is = sum_right_is x y c.args.divisor c.quotient.result g h in
    let l_fits : InRange c.in_ok-left.left = c.in_ok-left.ensures.range in
    let l = (simp back_in_range at c.in_ok-left.ensures.refused) ∙ ap in_range left_is in
    let left = (simp back_in_range at c.in_ok-left.ensures.value) ∙ left_is in
    let r_fits : InRange c.in_ok-right.right = c.in_ok-right.ensures.range in
    let r = (simp back_in_range at c.in_ok-right.ensures.refused) ∙ ap in_range right_is in
    let right = (simp back_in_range at c.in_ok-right.ensures.value) ∙ right_is in
    let top_is : c.in_ok-left.left +ℤ c.in_ok-right.right ≡ sum_left x y +ℤ sum_right x y = ap₂ ◌+ℤ◌ left right in
    let n_fits : InRange c.in_ok-num.num = c.in_ok-num.ensures.range in
    let t = (simp back_in_range at c.in_ok-num.ensures.refused) ∙ ap in_range top_is in
    let top = (simp back_in_range at c.in_ok-num.ensures.value) ∙ top_is in
    let bottom_is = sum_bottom_is x y c.args.divisor c.quotient-widening.result g f in
    let b = (simp back_in_range at c.in_err-den.ensures.refused) ∙ ap in_range bottom_is in
    is_ok-false c.from_residual-in_err-den.result c.from_residual-in_err-den.ensures.0 ∙ sym (sum_stops_bottom x y l r t b)

pub reduced-requires-clause-positive : goal.reduced-requires-clause-positive
reduced-requires-clause-positive c =
    let a_fits : InRange c.args.a.num = c.args.a.num_fits in
    let b_fits : InRange c.args.a.den = c.args.a.den_fits in
    let c_fits : InRange c.args.b.num = c.args.b.num_fits in
    let d_fits : InRange c.args.b.den = c.args.b.den_fits in
    let g_fits : InRange c.args.divisor = c.requires.range in
    let f_fits : InRange c.quotient-widening.result = c.quotient-widening.ensures.range in
    let x = value_of c.args.a in
    let y = value_of c.args.b in
    let g = c.requires.greatest in
    let f = simp back_in_range at c.quotient-widening.ensures.value in
    let left_is = sum_left_is x y c.args.divisor c.quotient-widening.result g f in
    let h_fits : InRange c.quotient.result = c.quotient.ensures.range in
    let h = simp back_in_range at c.quotient.ensures.value in
    let right_is = sum_right_is x y c.args.divisor c.quotient.result g h in
    let l_fits : InRange c.in_ok-left.left = c.in_ok-left.ensures.range in
    let l = (simp back_in_range at c.in_ok-left.ensures.refused) ∙ ap in_range left_is in
    let left = (simp back_in_range at c.in_ok-left.ensures.value) ∙ left_is in
    let r_fits : InRange c.in_ok-right.right = c.in_ok-right.ensures.range in
    let r = (simp back_in_range at c.in_ok-right.ensures.refused) ∙ ap in_range right_is in
    let right = (simp back_in_range at c.in_ok-right.ensures.value) ∙ right_is in
    let top_is : c.in_ok-left.left +ℤ c.in_ok-right.right ≡ sum_left x y +ℤ sum_right x y = ap₂ ◌+ℤ◌ left right in
    let n_fits : InRange c.in_ok-num.num = c.in_ok-num.ensures.range in
    let t = (simp back_in_range at c.in_ok-num.ensures.refused) ∙ ap in_range top_is in
    let top = (simp back_in_range at c.in_ok-num.ensures.value) ∙ top_is in
    let bottom_is = sum_bottom_is x y c.args.divisor c.quotient-widening.result g f in
    let m_fits : InRange c.in_ok-den.den = c.in_ok-den.ensures.range in
    let b = (simp back_in_range at c.in_ok-den.ensures.refused) ∙ ap in_range bottom_is in
    let bottom = (simp back_in_range at c.in_ok-den.ensures.value) ∙ bottom_is in
    let low_x = value_of-IsLowest c.args.a in
    let low_y = value_of-IsLowest c.args.b in
    let P = λ (z : ℤ). pos 0 <ℤ z in
    simp back_in_range (subst P (sym bottom) (sum_bottom_pos x y low_x low_y))

pub reduced-requires-clause-greatest : goal.reduced-requires-clause-greatest
reduced-requires-clause-greatest c =
    let a_fits : InRange c.args.a.num = c.args.a.num_fits in
    let b_fits : InRange c.args.a.den = c.args.a.den_fits in
    let c_fits : InRange c.args.b.num = c.args.b.num_fits in
    let d_fits : InRange c.args.b.den = c.args.b.den_fits in
    let g_fits : InRange c.args.divisor = c.requires.range in
    let f_fits : InRange c.quotient-widening.result = c.quotient-widening.ensures.range in
    let x = value_of c.args.a in
    let y = value_of c.args.b in
    let g = c.requires.greatest in
    let f = simp back_in_range at c.quotient-widening.ensures.value in
    let left_is = sum_left_is x y c.args.divisor c.quotient-widening.result g f in
    let h_fits : InRange c.quotient.result = c.quotient.ensures.range in
    let h = simp back_in_range at c.quotient.ensures.value in
    let right_is = sum_right_is x y c.args.divisor c.quotient.result g h in
    let l_fits : InRange c.in_ok-left.left = c.in_ok-left.ensures.range in
    let l = (simp back_in_range at c.in_ok-left.ensures.refused) ∙ ap in_range left_is in
    let left = (simp back_in_range at c.in_ok-left.ensures.value) ∙ left_is in
    let r_fits : InRange c.in_ok-right.right = c.in_ok-right.ensures.range in
    let r = (simp back_in_range at c.in_ok-right.ensures.refused) ∙ ap in_range right_is in
    let right = (simp back_in_range at c.in_ok-right.ensures.value) ∙ right_is in
    let top_is : c.in_ok-left.left +ℤ c.in_ok-right.right ≡ sum_left x y +ℤ sum_right x y = ap₂ ◌+ℤ◌ left right in
    let n_fits : InRange c.in_ok-num.num = c.in_ok-num.ensures.range in
    let t = (simp back_in_range at c.in_ok-num.ensures.refused) ∙ ap in_range top_is in
    let top = (simp back_in_range at c.in_ok-num.ensures.value) ∙ top_is in
    let bottom_is = sum_bottom_is x y c.args.divisor c.quotient-widening.result g f in
    let m_fits : InRange c.in_ok-den.den = c.in_ok-den.ensures.range in
    let b = (simp back_in_range at c.in_ok-den.ensures.refused) ∙ ap in_range bottom_is in
    let bottom = (simp back_in_range at c.in_ok-den.ensures.value) ∙ bottom_is in
    let low_x = value_of-IsLowest c.args.a in
    let low_y = value_of-IsLowest c.args.b in
    let s_fits : InRange c.shared.result = c.shared.ensures.range in
    let s = simp back_in_range at c.shared.ensures.value in
    simp back_in_range (s ∙ ap₂ common top g ∙ sum_divisor x y low_x low_y ∙ sym (ap₂ common top bottom))

pub returns-clause-refused : goal.returns-clause-refused
returns-clause-refused c =
    let a_fits : InRange c.args.a.num = c.args.a.num_fits in
    let b_fits : InRange c.args.a.den = c.args.a.den_fits in
    let c_fits : InRange c.args.b.num = c.args.b.num_fits in
    let d_fits : InRange c.args.b.den = c.args.b.den_fits in
    let g_fits : InRange c.args.divisor = c.requires.range in
    let f_fits : InRange c.quotient-widening.result = c.quotient-widening.ensures.range in
    let x = value_of c.args.a in
    let y = value_of c.args.b in
    let g = c.requires.greatest in
    let f = simp back_in_range at c.quotient-widening.ensures.value in
    let left_is = sum_left_is x y c.args.divisor c.quotient-widening.result g f in
    let h_fits : InRange c.quotient.result = c.quotient.ensures.range in
    let h = simp back_in_range at c.quotient.ensures.value in
    let right_is = sum_right_is x y c.args.divisor c.quotient.result g h in
    let l_fits : InRange c.in_ok-left.left = c.in_ok-left.ensures.range in
    let l = (simp back_in_range at c.in_ok-left.ensures.refused) ∙ ap in_range left_is in
    let left = (simp back_in_range at c.in_ok-left.ensures.value) ∙ left_is in
    let r_fits : InRange c.in_ok-right.right = c.in_ok-right.ensures.range in
    let r = (simp back_in_range at c.in_ok-right.ensures.refused) ∙ ap in_range right_is in
    let right = (simp back_in_range at c.in_ok-right.ensures.value) ∙ right_is in
    let top_is : c.in_ok-left.left +ℤ c.in_ok-right.right ≡ sum_left x y +ℤ sum_right x y = ap₂ ◌+ℤ◌ left right in
    let n_fits : InRange c.in_ok-num.num = c.in_ok-num.ensures.range in
    let t = (simp back_in_range at c.in_ok-num.ensures.refused) ∙ ap in_range top_is in
    let top = (simp back_in_range at c.in_ok-num.ensures.value) ∙ top_is in
    let bottom_is = sum_bottom_is x y c.args.divisor c.quotient-widening.result g f in
    let m_fits : InRange c.in_ok-den.den = c.in_ok-den.ensures.range in
    let b = (simp back_in_range at c.in_ok-den.ensures.refused) ∙ ap in_range bottom_is in
    let bottom = (simp back_in_range at c.in_ok-den.ensures.value) ∙ bottom_is in
    sum_fits x y l r t b

pub returns-clause-value : goal.returns-clause-value
returns-clause-value c =
    let a_fits : InRange c.args.a.num = c.args.a.num_fits in
    let b_fits : InRange c.args.a.den = c.args.a.den_fits in
    let c_fits : InRange c.args.b.num = c.args.b.num_fits in
    let d_fits : InRange c.args.b.den = c.args.b.den_fits in
    let g_fits : InRange c.args.divisor = c.requires.range in
    let f_fits : InRange c.quotient-widening.result = c.quotient-widening.ensures.range in
    let x = value_of c.args.a in
    let y = value_of c.args.b in
    let g = c.requires.greatest in
    let f = simp back_in_range at c.quotient-widening.ensures.value in
    let left_is = sum_left_is x y c.args.divisor c.quotient-widening.result g f in
    let h_fits : InRange c.quotient.result = c.quotient.ensures.range in
    let h = simp back_in_range at c.quotient.ensures.value in
    let right_is = sum_right_is x y c.args.divisor c.quotient.result g h in
    let l_fits : InRange c.in_ok-left.left = c.in_ok-left.ensures.range in
    let l = (simp back_in_range at c.in_ok-left.ensures.refused) ∙ ap in_range left_is in
    let left = (simp back_in_range at c.in_ok-left.ensures.value) ∙ left_is in
    let r_fits : InRange c.in_ok-right.right = c.in_ok-right.ensures.range in
    let r = (simp back_in_range at c.in_ok-right.ensures.refused) ∙ ap in_range right_is in
    let right = (simp back_in_range at c.in_ok-right.ensures.value) ∙ right_is in
    let top_is : c.in_ok-left.left +ℤ c.in_ok-right.right ≡ sum_left x y +ℤ sum_right x y = ap₂ ◌+ℤ◌ left right in
    let n_fits : InRange c.in_ok-num.num = c.in_ok-num.ensures.range in
    let t = (simp back_in_range at c.in_ok-num.ensures.refused) ∙ ap in_range top_is in
    let top = (simp back_in_range at c.in_ok-num.ensures.value) ∙ top_is in
    let bottom_is = sum_bottom_is x y c.args.divisor c.quotient-widening.result g f in
    let m_fits : InRange c.in_ok-den.den = c.in_ok-den.ensures.range in
    let b = (simp back_in_range at c.in_ok-den.ensures.refused) ∙ ap in_range bottom_is in
    let bottom = (simp back_in_range at c.in_ok-den.ensures.value) ∙ bottom_is in
    let low_x = value_of-IsLowest c.args.a in
    let low_y = value_of-IsLowest c.args.b in
    (simp back_in_range at c.reduced.ensures) ∙ ap₂ lowest top bottom ∙ sum_value x y low_x low_y
