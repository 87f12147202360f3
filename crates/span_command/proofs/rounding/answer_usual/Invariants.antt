use Rattle.std.specs.Prelude.{⊤}
use Rattle.span_command.proofs.rounding.answer_usual.Given as goal

-- nothing was found so far, of which nothing is known
abbrev pub invariant-loop-gap : goal.invariant-loop-gap
invariant-loop-gap g l = ⊤
