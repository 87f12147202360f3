-- A trial of the others, and what it leads to.
use Rattle.std.proofs.Common.{◌+◌, ap, ap₂, sym, ◌∙◌}
use Rattle.conflict_sets.proofs.Common.{all_needed, walk}
use Rattle.conflict_sets.proofs.SearchLaws.{search-goes, search-skips}
use Rattle.conflict_sets.proofs.WalkLaws.{walk-goes, walk-skips, walk-stops}
use Rattle.conflict_sets.proofs.searching.Search.leave_out.Goals as goal

pub returns-then-not-is_listed-clause-walks : goal.returns-then-not-is_listed-clause-walks
returns-then-not-is_listed-clause-walks c = λ left.
    let s = c.args.self.now in
    walk-skips c.args.problem.now.rows.now c.args.problem.now.defs.now c.args.problem.now.vars.now c.args.pivots (s.trials + 1) c.args.name left s.multipliers (all_needed s) (sym c.is_listed.ensures ∙ c.if-not-is_listed.true)

pub returns-then-not-is_listed-clause-searched : goal.returns-then-not-is_listed-clause-searched
returns-then-not-is_listed-clause-searched c = λ left known.
    let s = c.args.self.now in
    search-skips c.args.problem.now.rows.now c.args.problem.now.vars.now s.multipliers (all_needed s) c.args.name left known (sym c.is_listed.ensures ∙ c.if-not-is_listed.true)

pub returns-in_ok-learn-in-Ok-clause-walks : goal.returns-in_ok-learn-in-Ok-clause-walks
returns-in_ok-learn-in-Ok-clause-walks c = λ left.
    let rows = c.args.problem.now.rows.now in
    let defs = c.args.problem.now.defs.now in
    let vars = c.args.problem.now.vars.now in
    let s = c.args.self.now in
    let n = c.args.pivots in
    let new = c.learn.new.self in
    let learned = c.in_ok-learn-in-Ok.ensures in
    walk-goes rows defs vars n (s.trials + 1) c.args.name left s.multipliers (all_needed s) c.in-Ok.finding (sym c.is_listed.ensures ∙ c.if-not-is_listed.false) c.in-Ok.ensures.end
    ∙ ap₂ (λ m ones. walk rows defs vars n (s.trials + 1 + 1) left m ones) (sym learned.multipliers) (sym learned.needed)
    ∙ ap (λ k. walk rows defs vars n (k + 1) left new.multipliers (all_needed new)) (sym learned.counted)

pub returns-in_ok-learn-in-Ok-clause-searched : goal.returns-in_ok-learn-in-Ok-clause-searched
returns-in_ok-learn-in-Ok-clause-searched c = λ left known.
    let s = c.args.self.now in
    let new = c.learn.new.self in
    let learned = c.in_ok-learn-in-Ok.ensures in
    search-goes c.args.problem.now.rows.now c.args.problem.now.vars.now s.multipliers (all_needed s) c.args.name left known c.in-Ok.finding new.multipliers (all_needed new) learned.multipliers learned.needed c.in-Ok.ensures.worth

pub returns-in-Err-clause-stopped : goal.returns-in-Err-clause-stopped
returns-in-Err-clause-stopped c = λ left.
    let rows = c.args.problem.now.rows.now in
    let defs = c.args.problem.now.defs.now in
    let vars = c.args.problem.now.vars.now in
    let s = c.args.self.now in
    walk-stops rows defs vars c.args.pivots (s.trials + 1) c.args.name left s.multipliers (all_needed s) c.in-Err.stop c.trial_fail.result (sym c.is_listed.ensures ∙ c.if-not-is_listed.false) c.in-Err.ensures.stopped
    c.trial_fail.ensures
