use Rattle.std.proofs.Common.{ℤ, pos, ◌∙◌, subst, sym, ap}
use Rattle.std.specs.Prelude.{◌<ℤ◌}
use Rattle.std.proofs.lemmas.Result.{IfOk-weaker}
use Rattle.exact_num.specs.Rational.{whole}
use Rattle.exact_num.specs.Value.{value_of}
use Rattle.exact_num.proofs.RangeLaws.{back_in_range}
use Rattle.presolved_program.proofs.decimals.unit_of.Goals as goal

pub returns : goal.returns
returns c =
    let n : ℤ = c.in_ok-power.field-0 in
    IfOk-weaker c.whole.result _ (λ unit. pos 0 <ℤ (value_of unit).top)
    (λ unit e. subst (λ z. pos 0 <ℤ z.top) (sym (e ∙ ap whole (back_in_range n c.in_ok-power.ensures.range))) c.in_ok-power.ensures.positive)
    c.whole.ensures
