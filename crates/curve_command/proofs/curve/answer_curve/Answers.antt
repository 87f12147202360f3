-- Both words are members.
use Rattle.curve_command.proofs.Common.{inr, IfOk-weaker}
use Rattle.curve_command.proofs.curve.answer_curve.Goals as goal

pub returns : goal.returns
returns g c =
    let region = rw (c.in-Ok.is, c.sets.ensures.sets) at c.in_ok-region.ensures in
    let emission = rw (c.in-Ok-2.is, c.sets-2.ensures.sets) at c.in_ok-emission.ensures in
    IfOk-weaker c.answer_limits.result _ _
    (λ answer due. inr (inr (record { r = c.in-Ok.region; e = c.in-Ok-2.emission; region_is = region; emission_is = emission; due = due })))
    c.answer_limits.ensures
