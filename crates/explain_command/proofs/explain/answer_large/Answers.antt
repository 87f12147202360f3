-- What guesses find, or that it is too large.
use Rattle.explain_command.proofs.Common.{inl, large-due, DueForMethod, Finds}
use Rattle.explain_command.proofs.explain.answer_large.Goals as goal

pub returns-in-Exact : goal.returns-in-Exact
returns-in-Exact g c = λ places d same book.
    let rows = c.args.book.now.rows in
    let wanted = c.args.wanted in
    let refusal = c.args.refusal in
    large-due places d rows c.args.book.now.vars book wanted.method wanted.pivots (Finds wanted.method places d rows wanted) (DueForMethod places d rows wanted) refusal.status refusal.text.items c.requires.large

pub returns-in-Some : goal.returns-in-Some
returns-in-Some g c = λ places d same book. inl (rw c.in-Some.is at (c.in_ok-answer-in-Rounded.ensures places d same book))

pub returns-in-None : goal.returns-in-None
returns-in-None g c = λ places d same book.
    let rows = c.args.book.now.rows in
    let wanted = c.args.wanted in
    let refusal = c.args.refusal in
    large-due places d rows c.args.book.now.vars book wanted.method wanted.pivots (Finds wanted.method places d rows wanted) (DueForMethod places d rows wanted) refusal.status refusal.text.items c.requires.large
