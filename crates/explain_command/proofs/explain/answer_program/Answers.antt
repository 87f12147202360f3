-- What was found, or a stop.
use Rattle.explain_command.proofs.Common.{IfOk-weaker, define-within, vars-named}
use Rattle.explain_command.proofs.ExplainEnds.{due-from_found, due-from_stop}
use Rattle.explain_command.proofs.TrialPlaces.{cause-named}
use Rattle.explain_command.proofs.explain.answer_program.Goals as goal

pub answer_found-requires-clause-conflict : goal.answer_found-requires-clause-conflict
answer_found-requires-clause-conflict g c = c.in-Ok.ensures.conflict

pub answer_stop-requires : goal.answer_stop-requires
answer_stop-requires g c =
    let rows = c.args.book.now.rows in
    let vars = c.args.book.now.vars in
    let sets = c.args.sets.now in
    let stop = c.in-Err-Stopped in
    cause-named sets rows vars (define-within sets rows vars c.requires.listed c.vars.ensures.book) (vars-named sets rows vars c.requires.listed) c.args.wanted.pivots stop.stop c.args.wanted.method (rw stop.field-0-is at stop.ensures)

pub returns-in-Ok : goal.returns-in-Ok
returns-in-Ok g c = λ places d same book.
    IfOk-weaker c.answer_found.result _ _
    (λ answer told.
    due-from_found places d c.args.book.now.rows c.args.book.now.vars c.vars.ensures.book book c.args.sets.now same c.args.wanted answer.status answer.text.items c.in-Ok.found c.in-Ok.ensures told)
    c.answer_found.ensures

pub returns-in-Err-Stopped : goal.returns-in-Err-Stopped
returns-in-Err-Stopped g c = λ places d same book.
    let stop = c.in-Err-Stopped in
    IfOk-weaker c.answer_stop.result _ _
    (λ answer told.
    due-from_stop places d c.args.book.now.rows c.args.book.now.vars c.vars.ensures.book book c.args.sets.now same c.args.wanted answer.status answer.text.items stop.stop (rw stop.field-0-is at stop.ensures) told.0 told.1)
    c.answer_stop.ensures
