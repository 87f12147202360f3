-- By the signs of the two numerators.
use Rattle.exact_num.proofs.Common.{sym, ap₂, ◌∙◌, ◌*◌, pos, arith, ◌<ℤ◌, ◌≤ℤ◌, nat_cmp, ints, InRange, value_of}
use Rattle.exact_num.proofs.OrderLaws.{order_of-nonnegative, order_of-negative, order_of-less, order_of-greater}
use Rattle.exact_num.proofs.RangeLaws.{back_in_range}
use Rattle.exact_num.proofs.ValueLaws.{value_of-IsLowest}
use Rattle.exact_num.proofs.order.cmp_frac.Goals as goal

pub returns-then-b-lt0 : goal.returns-then-b-lt0
returns-then-b-lt0 c =
    let x = value_of c.args.a in
    let y = value_of c.args.b in
    let low_x = value_of-IsLowest c.args.a in
    let low_y = value_of-IsLowest c.args.b in
    let a_fits : InRange c.args.a.num = c.args.a.num_fits in
    let b_fits : InRange c.args.a.den = c.args.a.den_fits in
    let c_fits : InRange c.args.b.num = c.args.b.num_fits in
    let d_fits : InRange c.args.b.den = c.args.b.den_fits in
    let p : c.args.a.num <ℤ pos 0 = omega (arith, ints, simp back_in_range at c.if-a-lt0.true) in
    let q : c.args.b.num <ℤ pos 0 = omega (arith, ints, simp back_in_range at c.if-b-lt0.true) in
    let bn = simp back_in_range at c.unsigned_abs.ensures.value in
    let bd = simp back_in_range at c.unsigned_abs-then-b-lt0.ensures.value in
    let an = simp back_in_range at c.unsigned_abs-then-b-lt0-2.ensures.value in
    let ad = simp back_in_range at c.unsigned_abs-then-b-lt0-3.ensures.value in
    c.cmp_ratios.ensures ∙ ap₂ nat_cmp (ap₂ ◌*◌ bn ad) (ap₂ ◌*◌ an bd) ∙ sym (order_of-negative x y low_x low_y p q)

pub returns-else-b-lt0 : goal.returns-else-b-lt0
returns-else-b-lt0 c =
    let x = value_of c.args.a in
    let y = value_of c.args.b in
    let low_x = value_of-IsLowest c.args.a in
    let low_y = value_of-IsLowest c.args.b in
    let a_fits : InRange c.args.a.num = c.args.a.num_fits in
    let b_fits : InRange c.args.a.den = c.args.a.den_fits in
    let c_fits : InRange c.args.b.num = c.args.b.num_fits in
    let d_fits : InRange c.args.b.den = c.args.b.den_fits in
    let p : c.args.a.num <ℤ pos 0 = omega (arith, ints, simp back_in_range at c.if-a-lt0.true) in
    let q : pos 0 ≤ℤ c.args.b.num = omega (arith, ints, simp back_in_range at c.if-b-lt0.false) in
    sym (order_of-less x y low_x low_y p q)

pub returns-then-b-lt0-2 : goal.returns-then-b-lt0-2
returns-then-b-lt0-2 c =
    let x = value_of c.args.a in
    let y = value_of c.args.b in
    let low_x = value_of-IsLowest c.args.a in
    let low_y = value_of-IsLowest c.args.b in
    let a_fits : InRange c.args.a.num = c.args.a.num_fits in
    let b_fits : InRange c.args.a.den = c.args.a.den_fits in
    let c_fits : InRange c.args.b.num = c.args.b.num_fits in
    let d_fits : InRange c.args.b.den = c.args.b.den_fits in
    let p : pos 0 ≤ℤ c.args.a.num = omega (arith, ints, simp back_in_range at c.if-a-lt0.false) in
    let q : c.args.b.num <ℤ pos 0 = omega (arith, ints, simp back_in_range at c.if-b-lt0-2.true) in
    sym (order_of-greater x y low_x low_y p q)

pub returns-else-b-lt0-2 : goal.returns-else-b-lt0-2
returns-else-b-lt0-2 c =
    let x = value_of c.args.a in
    let y = value_of c.args.b in
    let low_x = value_of-IsLowest c.args.a in
    let low_y = value_of-IsLowest c.args.b in
    let a_fits : InRange c.args.a.num = c.args.a.num_fits in
    let b_fits : InRange c.args.a.den = c.args.a.den_fits in
    let c_fits : InRange c.args.b.num = c.args.b.num_fits in
    let d_fits : InRange c.args.b.den = c.args.b.den_fits in
    let p : pos 0 ≤ℤ c.args.a.num = omega (arith, ints, simp back_in_range at c.if-a-lt0.false) in
    let q : pos 0 ≤ℤ c.args.b.num = omega (arith, ints, simp back_in_range at c.if-b-lt0-2.false) in
    let an = simp back_in_range at c.unsigned_abs-else-b-lt0-2.ensures.value in
    let ad = simp back_in_range at c.unsigned_abs-else-b-lt0-2-2.ensures.value in
    let bn = simp back_in_range at c.unsigned_abs-else-b-lt0-2-3.ensures.value in
    let bd = simp back_in_range at c.unsigned_abs-else-b-lt0-2-4.ensures.value in
    c.cmp_ratios-else-b-lt0-2.ensures ∙ ap₂ nat_cmp (ap₂ ◌*◌ an bd) (ap₂ ◌*◌ bn ad) ∙ sym (order_of-nonnegative x y low_x low_y p q)
