use Rattle.solve_command.proofs.Common.{◌∙◌, ◌++◌, ap₂, vars-are}
use Rattle.solve_command.proofs.summary.summarize_book.Goals as goal

pub returns : goal.returns
returns g c = λ d same book.
    let counts = rw (vars-are c.args.places d c.args.book.now.rows c.args.book.now.vars book) at c.in_ok-text.ensures in
    (c.in_ok-answer.answer.text.items, c.in_ok-answer.ensures d same book, c.in_ok-extend_from_slice.ensures.items ∙ ap₂ (λ before more. before ++ more) counts c.deref.ensures.value)
