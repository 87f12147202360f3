-- At the end nothing is left to be tried, and what was needed is a conflict.
use Rattle.conflict_sets.proofs.Common.{◌≡◌, ◌+◌, [], drop, ap, sym, ◌∙◌, subst, drop_all, drop_more, err_from_is_err_and, all_needed, walk_from, Stops}
use Rattle.conflict_sets.proofs.StillLaws.{search-conflict, search-found}
use Rattle.conflict_sets.proofs.WalkLaws.{walk-ends}
use Rattle.conflict_sets.proofs.explaining.searched.Goals as goal

pub returns-in_err-leave_out-clause-stopped : goal.returns-in_err-leave_out-clause-stopped
returns-in_err-leave_out-clause-stopped c =
    let names = c.args.names.now in
    let i = c.loop-name.name-index in
    let q = err_from_is_err_and c.from_residual.result c.from_residual.ensures.1 in
    rw (q.1, q.2)
    (subst (λ end. Stops end c.in_err-leave_out.field-0.0) (ap (walk_from c.args.problem.now.rows.now c.args.problem.now.defs.now c.args.problem.now.vars.now c.args.pivots c.loop-name.search) (sym (drop_more names i _ c.loop-name-test.true)) ∙ c.loop-name.invariant.walks)
    (c.in_err-leave_out.ensures.stopped (drop (i + 1) names)))

pub returns-clause-end : goal.returns-clause-end
returns-clause-end c =
    let problem = c.args.problem.now in
    let names = c.args.names.now in
    let s = c.loop-name.search in
    let over : drop c.loop-name.name-index names ≡ [] = drop_all c.loop-name.name-index names c.loop-name-test.false in
    let known = rw over at c.loop-name.invariant.searched in
    search-found problem.rows.now problem.defs.now problem.vars.now c.requires.problem.problem s c.loop-name.invariant.even known c.in_ok-conflict.field-0 c.in_ok-conflict.ensures.members c.in_ok-conflict.ensures.plans
    ∙ sym (walk-ends problem.rows.now problem.defs.now problem.vars.now c.args.pivots (s.trials + 1) s.multipliers (all_needed s))
    ∙ ap (walk_from problem.rows.now problem.defs.now problem.vars.now c.args.pivots s) (sym over)
    ∙ c.loop-name.invariant.walks

pub returns-clause-conflict : goal.returns-clause-conflict
returns-clause-conflict c =
    let problem = c.args.problem.now in
    let s = c.loop-name.search in
    let known = rw (drop_all c.loop-name.name-index c.args.names.now c.loop-name-test.false) at c.loop-name.invariant.searched in
    search-conflict problem.rows.now problem.defs.now problem.vars.now c.requires.problem.problem s c.loop-name.invariant.even known c.in_ok-conflict.field-0 c.in_ok-conflict.ensures.members c.in_ok-conflict.ensures.plans
