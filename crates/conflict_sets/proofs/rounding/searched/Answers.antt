-- At the end nothing is left to be tried, and what was needed is a conflict.
use Rattle.conflict_sets.proofs.Common.{◌+◌, List, drop, subst, drop_all, drop_more, RowName, SearchIs}
use Rattle.conflict_sets.proofs.StillLaws.{search-conflict}
use Rattle.conflict_sets.proofs.rounding.searched.Goals as goal

pub loop-name-preserved : goal.loop-name-preserved
loop-name-preserved g c =
    let names = c.args.names.now in
    let i = c.loop-name.name-index in
    record {
      even = c.in_ok-leave_out.ensures.even;
      searched = c.in_ok-leave_out.ensures.searched (drop (i + 1) names)
          (subst (λ (ls : List RowName). SearchIs c.args.problem.now.rows.now c.args.problem.now.vars.now c.loop-name.search ls) (drop_more names i _ c.loop-name-test.true) c.loop-name.invariant.searched);
    }

pub returns-clause-conflict : goal.returns-clause-conflict
returns-clause-conflict g c =
    let problem = c.args.problem.now in
    let s = c.loop-name.search in
    let known = rw (drop_all c.loop-name.name-index c.args.names.now c.loop-name-test.false) at c.loop-name.invariant.searched in
    search-conflict problem.rows.now problem.defs.now problem.vars.now c.requires.problem.problem s c.loop-name.invariant.even known c.in_ok-conflict.field-0 c.in_ok-conflict.ensures.members c.in_ok-conflict.ensures.plans
