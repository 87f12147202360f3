use Rattle.solve_command.proofs.Common.{inl, inr, sym, subst, IfOk-weaker, SolveMethod, DueBy}
use Rattle.solve_command.proofs.solve.answer_program.Goals as goal

pub returns-in-Some : goal.returns-in-Some
returns-in-Some g c = λ d same book.
    let answer = c.in-Some.answer in
    let found = rw c.in-Some.is at (c.in_ok-answer-in-Rounded.ensures d same book) in
    subst (λ (method : SolveMethod). DueBy method c.args.places d c.args.book.now.rows c.args.wanted c.args.rounded answer.status answer.text.items) (sym c.in-Rounded.is)
    (elim found [ inl plan ↦ inl plan | inr none ↦ inr (inl none) ])

pub returns-in-None : goal.returns-in-None
returns-in-None g c = λ d same book.
    IfOk-weaker c.answer_exactly-in-None.result _ _
    (λ answer due.
    subst (λ (method : SolveMethod). DueBy method c.args.places d c.args.book.now.rows c.args.wanted c.args.rounded answer.status answer.text.items) (sym c.in-Rounded.is) (inr (inr due)))
    (c.answer_exactly-in-None.ensures d same book)
