use Rattle.std.proofs.Common.{refl, IfOk}
use Rattle.osemosys_run.proofs.warned.warned.Goals as goal

pub returns : goal.returns
returns c = λ text says. record { complete = c.sets.ensures.complete; blocks = _; says = says; status_is = refl; text_is = c.in_ok-text.ensures }
