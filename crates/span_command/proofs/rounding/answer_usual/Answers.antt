use Rattle.span_command.proofs.rounding.answer_usual.Goals as goal

pub returns-in-Some : goal.returns-in-Some
returns-in-Some g c = λ d same book. rw c.in-Some.is at (c.in_ok-found.ensures d same book)
