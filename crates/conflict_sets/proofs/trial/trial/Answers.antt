-- The end of the simplex is that of the trial's linear program.
use Rattle.conflict_sets.proofs.Common.{sym, program_of, outcome_seen, listed_by}
use Rattle.exact_solver.proofs.SolvedLaws.{sized}
use Rattle.conflict_sets.proofs.FoundTrials.{trial-ended, trial-halted}
use Rattle.conflict_sets.proofs.TriedLaws.{posed-tried, ready-tried, whole-many}
use Rattle.conflict_sets.proofs.trial.trial.Goals as goal

pub trial_program-requires : goal.trial_program-requires
trial_program-requires c = whole-many c.args.problem.now c.requires

pub solve-requires : goal.solve-requires
solve-requires c = ready-tried (listed_by c.args.listing.now) c.args.problem.now c.requires c.in_ok-tried.tried c.in_ok-tried.ensures

pub carried-requires-clause-ended : goal.carried-requires-clause-ended
carried-requires-clause-ended c = (
  sized (program_of c.in_ok-tried.tried) c.args.pivots c.in-Ok.end c.in-Ok.ensures.end,
  c.in-Ok.ensures.proved (posed-tried (listed_by c.args.listing.now) c.args.problem.now c.requires c.in_ok-tried.tried c.in_ok-tried.ensures),
)

pub returns-in-Ok-clause-end : goal.returns-in-Ok-clause-end
returns-in-Ok-clause-end c =
    rw (sym (trial-ended (listed_by c.args.listing.now) c.args.problem.now c.requires c.in_ok-tried.tried c.in_ok-tried.ensures c.args.pivots (outcome_seen c.in-Ok.end) c.in-Ok.ensures.end)) c.carried.ensures.end

pub returns-in-Ok-clause-stopped : goal.returns-in-Ok-clause-stopped
returns-in-Ok-clause-stopped c =
    rw (sym (trial-ended (listed_by c.args.listing.now) c.args.problem.now c.requires c.in_ok-tried.tried c.in_ok-tried.ensures c.args.pivots (outcome_seen c.in-Ok.end) c.in-Ok.ensures.end)) c.carried.ensures.stopped

pub returns-clause-stopped : goal.returns-clause-stopped
returns-clause-stopped c =
    rw c.stop_at.ensures (trial-halted (listed_by c.args.listing.now) c.args.problem.now c.requires c.in_ok-tried.tried c.in_ok-tried.ensures c.args.pivots c.in-Err.halt c.in-Err.ensures.stopped)
