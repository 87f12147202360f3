use Rattle.span_command.proofs.Common.{inl, inr, sym, subst, IfOk-weaker, SolveMethod, DueBy}
use Rattle.span_command.proofs.method.answer_program.Goals as goal

pub returns-in-Exact : goal.returns-in-Exact
returns-in-Exact g c = λ d same book.
    IfOk-weaker c.answer_exact.result _ _
    (λ answer due. subst (λ (method : SolveMethod). DueBy method c.args.places d c.args.book.now.rows c.args.var c.args.wanted c.args.rounded answer.status answer.text.items) (sym c.in-Exact.is) due)
    (c.answer_exact.ensures d same book)

pub returns-in-Some : goal.returns-in-Some
returns-in-Some g c = λ d same book.
    let answer = c.in-Some.answer in
    subst (λ (method : SolveMethod). DueBy method c.args.places d c.args.book.now.rows c.args.var c.args.wanted c.args.rounded answer.status answer.text.items) (sym c.in-Rounded.is)
    (inl (rw c.in-Some.is at (c.in_ok-answer-in-Rounded.ensures d same book)))

pub returns-in-None : goal.returns-in-None
returns-in-None g c = λ d same book.
    IfOk-weaker c.answer_exact-in-None.result _ _
    (λ answer due. subst (λ (method : SolveMethod). DueBy method c.args.places d c.args.book.now.rows c.args.var c.args.wanted c.args.rounded answer.status answer.text.items) (sym c.in-Rounded.is) (inr due))
    (c.answer_exact-in-None.ensures d same book)
