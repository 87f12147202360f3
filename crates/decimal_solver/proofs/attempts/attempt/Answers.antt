-- The first state, the rounds, and what the last state gives.
use Rattle.row_problem.proofs.Common.{refl, err_from_is_err_and, program_of}
use Rattle.decimal_solver.proofs.Words.{run, first_state, state_seen}
use Rattle.decimal_solver.proofs.AttemptLaws.{program-is}
use Rattle.decimal_solver.proofs.Nothing.{nothing-later}
use Rattle.decimal_solver.proofs.attempts.attempt.Goals as goal

pub returns-in_err-first-clause-nothing : goal.returns-in_err-first-clause-nothing
returns-in_err-first-clause-nothing c =
    let q = err_from_is_err_and c.from_residual.result c.from_residual.ensures.1 in
    rw (q.1, q.2, program-is c.args.problem.now c.args.ppm c.args.pivots c.requires.problem c.requires.model)
    (nothing-later (first_state (program_of c.args.problem.now.reduced.now)) _ c.in_err-first.field-0.0 (λ h. rw h refl) c.in_err-first.ensures.nothing)

pub returns-in_err-last-clause-nothing : goal.returns-in_err-last-clause-nothing
returns-in_err-last-clause-nothing c =
    let q = err_from_is_err_and c.from_residual-in_err-last.result c.from_residual-in_err-last.ensures.1 in
    rw (q.1, q.2, program-is c.args.problem.now c.args.ppm c.args.pivots c.requires.problem c.requires.model)
    (nothing-later (run c.args.pivots (state_seen c.in_ok-first.first)) _ c.in_err-last.field-0.0 (λ h. rw (c.in_ok-first.ensures.value, h) refl) c.in_err-last.ensures.nothing)

pub returns-clause-end : goal.returns-clause-end
returns-clause-end c =
    rw (program-is c.args.problem.now c.args.ppm c.args.pivots c.requires.problem c.requires.model, c.in_ok-first.ensures.value, c.in_ok-last.ensures.value) c.ended.ensures.end

pub returns-clause-nothing : goal.returns-clause-nothing
returns-clause-nothing c =
    rw (program-is c.args.problem.now c.args.ppm c.args.pivots c.requires.problem c.requires.model, c.in_ok-first.ensures.value, c.in_ok-last.ensures.value) c.ended.ensures.nothing
