-- A trial of the others, and what it leads to.
use Rattle.std.proofs.Common.{sym, ◌∙◌}
use Rattle.conflict_sets.specs.Searches.{all_needed}
use Rattle.conflict_sets.proofs.SearchLaws.{search-goes, search-skips}
use Rattle.conflict_sets.proofs.rounding.leave_out.Goals as goal

pub returns-then-not-is_listed-clause-searched : goal.returns-then-not-is_listed-clause-searched
returns-then-not-is_listed-clause-searched g c = λ left known.
    let s = c.args.search.now in
    search-skips c.args.problem.now.rows.now c.args.problem.now.vars.now s.multipliers (all_needed s) c.args.name left known (sym c.is_listed.ensures ∙ c.if-not-is_listed.true)

pub returns-in_ok-learn-in-Ok-clause-searched : goal.returns-in_ok-learn-in-Ok-clause-searched
returns-in_ok-learn-in-Ok-clause-searched g c = λ left known.
    let s = c.args.search.now in
    let new = c.learn.new.self in
    let learned = c.in_ok-learn-in-Ok.ensures in
    search-goes c.args.problem.now.rows.now c.args.problem.now.vars.now s.multipliers (all_needed s) c.args.name left known c.in-Ok.finding new.multipliers (all_needed new) learned.multipliers learned.needed c.in-Ok.ensures.worth
