use Rattle.std.proofs.Common.{◌∙◌, ◌++◌, ap₂}
use Rattle.osemosys_run.proofs.making.summarize.Goals as goal

pub returns : goal.returns
returns g c = (
  c.in_ok-answer.answer.text.items,
  c.in_ok-answer.ensures,
  c.in_ok-extend_from_slice.ensures.items ∙ ap₂ (λ before more. before ++ more) c.in_ok-text.ensures c.deref.ensures.value,
)
