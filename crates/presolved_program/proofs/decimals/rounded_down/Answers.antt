use Rattle.std.proofs.Common.{◌≡◌, subst, sym}
use Rattle.std.proofs.lemmas.Result.{IfOk-weaker}
use Rattle.exact_num.specs.Rational.{Rational, times, divided}
use Rattle.exact_num.specs.Value.{value_of}
use Rattle.exact_num.proofs.ValueLaws.{value_of-IsLowest}
use Rattle.presolved_program.specs.Roundings.{IsAtMost}
use Rattle.presolved_program.proofs.RoundingLaws.{over-at_most, by-at_most}
use Rattle.presolved_program.proofs.decimals.rounded_down.Goals as goal

pub returns-then-places-lt0 : goal.returns-then-places-lt0
returns-then-places-lt0 c =
    let x : Rational = value_of c.in_ok-floor.field-0 in
    let unit : Rational = value_of c.in_ok-unit.unit in
    let down : IsAtMost x (divided (value_of c.args.value) unit) = subst (IsAtMost x) c.in_ok-scaled.ensures c.in_ok-floor.ensures in
    subst (λ z. IsAtMost z (value_of c.args.value)) (sym c.in_ok-mul.ensures.value)
    (by-at_most x (value_of c.args.value) unit (value_of-IsLowest c.in_ok-floor.field-0) (value_of-IsLowest c.args.value) (value_of-IsLowest c.in_ok-unit.unit) c.in_ok-unit.ensures down)

pub returns : goal.returns
returns c =
    let x : Rational = value_of c.in_ok-floor-2.field-0 in
    let unit : Rational = value_of c.in_ok-unit.unit in
    let down : IsAtMost x (times (value_of c.args.value) unit) = subst (IsAtMost x) c.in_ok-scaled-2.ensures.value c.in_ok-floor-2.ensures in
    IfOk-weaker c.quotient-2.result (λ part. value_of part ≡ divided x unit) (λ short. IsAtMost (value_of short) (value_of c.args.value))
    (λ part e. subst (λ z. IsAtMost z (value_of c.args.value)) (sym e)
    (over-at_most x (value_of c.args.value) unit (value_of-IsLowest c.in_ok-floor-2.field-0) (value_of-IsLowest c.args.value) (value_of-IsLowest c.in_ok-unit.unit) c.in_ok-unit.ensures down))
    c.quotient-2.ensures
