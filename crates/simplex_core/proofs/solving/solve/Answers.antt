-- The rounds and their end are those of the method; what an end means follows from it.
use Rattle.simplex_core.proofs.Common.{◌≡◌, sym, subst, IfOk, IfErr, IfOk-weaker, err_from_is_err_and, LinearProgram, program_of, Answer, outcome_of, solved, IsHalt, IsProved, outcome_seen, ending_seen, state_seen}
use Rattle.simplex_core.proofs.OutcomeLaws.{ended-IsEnding, ran_out-IsHalt, solved-IsProved}
use Rattle.simplex_core.proofs.solving.solve.Goals as goal

pub returns-in_err-finished-clause-stopped : goal.returns-in_err-finished-clause-stopped
returns-in_err-finished-clause-stopped c =
    let stop = ran_out-IsHalt c.args.pivots (program_of c.args.reduced.now) c.in_err-finished.field-0.0 c.in_err-finished.ensures.stopped in
    let q = err_from_is_err_and c.from_residual.result c.from_residual.ensures.1 in
    rw (q.1, q.2) stop

pub end_of-requires-clause-ending : goal.end_of-requires-clause-ending
end_of-requires-clause-ending c =
    ended-IsEnding (program_of c.args.reduced.now) c.args.pivots (ending_seen c.in_ok-finished.finished.finish) (state_seen c.in_ok-finished.finished.last) c.requires.own_positive c.in_ok-finished.ensures.answered

pub returns-clause-end : goal.returns-clause-end
returns-clause-end c =
    let p : LinearProgram = program_of c.args.reduced.now in
    subst (λ (a : Answer). IfOk c.end_of.result (λ e. outcome_seen e ≡ outcome_of p a)) (sym c.in_ok-finished.ensures.answered) c.end_of.ensures.end

pub returns-clause-stopped : goal.returns-clause-stopped
returns-clause-stopped c =
    let p : LinearProgram = program_of c.args.reduced.now in
    subst (λ (a : Answer). IfErr c.end_of.result (IsHalt (outcome_of p a))) (sym c.in_ok-finished.ensures.answered) c.end_of.ensures.stopped

pub returns-clause-proved : goal.returns-clause-proved
returns-clause-proved c posed =
    let p : LinearProgram = program_of c.args.reduced.now in
    IfOk-weaker c.end_of.result (λ e. outcome_seen e ≡ solved c.args.pivots p) (IsProved p) (λ e h. solved-IsProved c.args.pivots p e posed h) (returns-clause-end c)
