-- What guesses find is due by the rounded method, and what is due by the size by both.
use Rattle.solve_command.proofs.Common.{inl, inr, sym, subst, IfOk-weaker, SolveMethod, Finds}
use Rattle.solve_command.proofs.solve.answer_book.Goals as goal

pub returns-in-Exact : goal.returns-in-Exact
returns-in-Exact g c = λ d same book. IfOk-weaker c.answer_sized.result _ _ (λ answer due. inr due) (c.answer_sized.ensures d same book)

pub returns-in-Some : goal.returns-in-Some
returns-in-Some g c = λ d same book.
    let answer = c.in-Some.answer in
    let found = rw c.in-Some.is at (c.in_ok-answer-in-Rounded.ensures d same book) in
    inl
    (subst (λ (method : SolveMethod). Finds method c.args.places d c.args.book.now.rows c.args.wanted c.args.rounded answer.status answer.text.items) (sym c.in-Rounded.is) found)

pub returns-in-None : goal.returns-in-None
returns-in-None g c = λ d same book. IfOk-weaker c.answer_sized-in-None.result _ _ (λ answer due. inr due) (c.answer_sized-in-None.ensures d same book)
