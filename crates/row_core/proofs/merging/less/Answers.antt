-- Product, product, difference: the first that doesn't fit stops.
use Rattle.row_core.proofs.Common.{◌≡◌, ◌*ℤ◌, sym, ap, ap₂, ◌∙◌, ◌-ℤ◌, InRange, in_range, back_in_range, is_ok-false, IfOk-equal}
use Rattle.row_core.proofs.LessLaws.{stops_left, stops_right, goes_on}
use Rattle.row_core.proofs.merging.less.Goals as goal

pub returns-in_err-left-clause-refused : goal.returns-in_err-left-clause-refused
returns-in_err-left-clause-refused c =
    let a_fits : InRange c.args.a = c.requires.a in
    let x_fits : InRange c.args.x = c.requires.x in
    let t = simp back_in_range at c.in_err-left.ensures.refused in
    is_ok-false c.from_residual.result c.from_residual.ensures.0 ∙ sym (stops_left c.args.a c.args.b c.args.x c.args.y (sym t))

pub returns-in_err-right-clause-refused : goal.returns-in_err-right-clause-refused
returns-in_err-right-clause-refused c =
    let a_fits : InRange c.args.a = c.requires.a in
    let x_fits : InRange c.args.x = c.requires.x in
    let b_fits : InRange c.args.b = c.requires.b in
    let y_fits : InRange c.args.y = c.requires.y in
    let s = simp back_in_range at c.in_ok-left.ensures.refused in
    let t = simp back_in_range at c.in_err-right.ensures.refused in
    is_ok-false c.from_residual-in_err-right.result c.from_residual-in_err-right.ensures.0 ∙ sym (stops_right c.args.a c.args.b c.args.x c.args.y (sym s) (sym t))

pub returns-clause-refused : goal.returns-clause-refused
returns-clause-refused c =
    let a_fits : InRange c.args.a = c.requires.a in
    let x_fits : InRange c.args.x = c.requires.x in
    let b_fits : InRange c.args.b = c.requires.b in
    let y_fits : InRange c.args.y = c.requires.y in
    let l_fits : InRange c.in_ok-left.left = c.in_ok-left.ensures.range in
    let r_fits : InRange c.in_ok-right.right = c.in_ok-right.ensures.range in
    let s = simp back_in_range at c.in_ok-left.ensures.refused in
    let t = simp back_in_range at c.in_ok-right.ensures.refused in
    let l : c.in_ok-left.left ≡ c.args.a *ℤ c.args.x = simp back_in_range at c.in_ok-left.ensures.value in
    let r : c.in_ok-right.right ≡ c.args.b *ℤ c.args.y = simp back_in_range at c.in_ok-right.ensures.value in
    (simp back_in_range at c.difference.ensures.refused) ∙ ap in_range (ap₂ ◌-ℤ◌ l r) ∙ sym (goes_on c.args.a c.args.b c.args.x c.args.y (sym s) (sym t))

pub returns-clause-value : goal.returns-clause-value
returns-clause-value c =
    let a_fits : InRange c.args.a = c.requires.a in
    let x_fits : InRange c.args.x = c.requires.x in
    let b_fits : InRange c.args.b = c.requires.b in
    let y_fits : InRange c.args.y = c.requires.y in
    let l_fits : InRange c.in_ok-left.left = c.in_ok-left.ensures.range in
    let r_fits : InRange c.in_ok-right.right = c.in_ok-right.ensures.range in
    let l : c.in_ok-left.left ≡ c.args.a *ℤ c.args.x = simp back_in_range at c.in_ok-left.ensures.value in
    let r : c.in_ok-right.right ≡ c.args.b *ℤ c.args.y = simp back_in_range at c.in_ok-right.ensures.value in
    IfOk-equal (λ v. v) c.difference.result (ap₂ ◌-ℤ◌ l r) (simp back_in_range at c.difference.ensures.value)
