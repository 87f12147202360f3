-- All three words are members.
use Rattle.span_command.proofs.Common.{inr, IfOk-weaker}
use Rattle.span_command.proofs.span.answer_span.Goals as goal

pub returns : goal.returns
returns g c =
    let region = rw (c.in-Ok.is, c.sets.ensures.sets) at c.in_ok-region.ensures in
    let technology = rw (c.in-Ok-2.is, c.sets-2.ensures.sets) at c.in_ok-technology.ensures in
    let year = rw (c.in-Ok-3.is, c.sets-3.ensures.sets) at c.in_ok-year.ensures in
    IfOk-weaker c.answer_member.result _ _
    (λ answer due.
    inr (inr (inr (record {
      r = c.in-Ok.region;
      t = c.in-Ok-2.technology;
      y = c.in-Ok-3.year;
      region_is = region;
      technology_is = technology;
      year_is = year;
      due = rw c.built.ensures at due;
    }))))
    c.answer_member.ensures
