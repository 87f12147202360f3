-- Of the lists of the book.
use Rattle.explain_command.proofs.Common.{IfNone, IfOk, IfSome, AdmitsSome, IsConflict, of-book}
use Rattle.explain_command.proofs.ExplainEnds.{guessed-tells}
use Rattle.explain_command.proofs.explain.guess_explanation.Goals as goal

pub returns : goal.returns
returns g c =
    let same = c.problem_of-problem.ensures in
    let r = c.explain_guessed.result in
    let said = c.explain_guessed.ensures in
    guessed-tells c.args.book.now.rows c.args.book.now.vars c.args.wanted.pivots r
    (of-book (λ rs ds vs. IfOk r (λ given. IfSome given (λ found. IfSome found (IsConflict rs vs)))) same.rows same.defs same.vars said.conflict)
    (of-book (λ rs ds vs. IfOk r (λ given. IfSome given (λ found. IfNone found (AdmitsSome rs vs)))) same.rows same.defs same.vars said.feasible)
