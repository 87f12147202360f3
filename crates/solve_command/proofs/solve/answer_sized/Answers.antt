-- Too large, or what is due where it isn't.
use Rattle.solve_command.proofs.Common.{inl, inr, IfOk-weaker, vars-are}
use Rattle.solve_command.proofs.solve.answer_sized.Goals as goal

pub returns-in-Some : goal.returns-in-Some
returns-in-Some g c = λ d same book. inl (rw (c.in-Some.is, c.from.ensures, vars-are c.args.places d c.args.book.now.rows c.args.book.now.vars book) at c.in_ok-answer.ensures)

pub returns-in-None : goal.returns-in-None
returns-in-None g c = λ d same book.
    let within = rw (c.in-None.is, vars-are c.args.places d c.args.book.now.rows c.args.book.now.vars book) at c.in_ok-answer.ensures in
    IfOk-weaker c.answer_eliminated.result _ _ (λ answer due. inr (within, due)) (c.answer_eliminated.ensures d same book)
