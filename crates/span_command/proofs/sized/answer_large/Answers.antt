-- What guesses find, or that it is too large.
use Rattle.span_command.proofs.Common.{inl, sym, subst, SolveMethod, large-due, DueForMethod, Finds}
use Rattle.span_command.proofs.sized.answer_large.Goals as goal

pub returns-in-Exact : goal.returns-in-Exact
returns-in-Exact g c = λ d same book.
    let places = c.args.places in
    let rows = c.args.book.now.rows in
    let wanted = c.args.wanted in
    let refusal = c.args.refusal in
    large-due places d rows c.args.book.now.vars book wanted.method wanted.pivots (Finds wanted.method places d rows c.args.var wanted c.args.rounded) (DueForMethod places d rows c.args.var wanted c.args.rounded) refusal.status refusal.text.items c.requires.large

pub returns-in-Some : goal.returns-in-Some
returns-in-Some g c = λ d same book.
    let answer = c.in-Some.answer in
    let found = rw c.in-Some.is at (c.in_ok-answer-in-Rounded.ensures d same book) in
    inl
    (subst (λ (method : SolveMethod). Finds method c.args.places d c.args.book.now.rows c.args.var c.args.wanted c.args.rounded answer.status answer.text.items) (sym c.in-Rounded.is) found)

pub returns-in-None : goal.returns-in-None
returns-in-None g c = λ d same book.
    let places = c.args.places in
    let rows = c.args.book.now.rows in
    let wanted = c.args.wanted in
    let refusal = c.args.refusal in
    large-due places d rows c.args.book.now.vars book wanted.method wanted.pivots (Finds wanted.method places d rows c.args.var wanted c.args.rounded) (DueForMethod places d rows c.args.var wanted c.args.rounded) refusal.status refusal.text.items c.requires.large
