-- The list of the last refutation is where the search begins.
use Rattle.std.proofs.Common.{◌∙◌}
use Rattle.conflict_sets.proofs.SearchLaws.{search-starts}
use Rattle.conflict_sets.proofs.rounding.shortened.Goals as goal

pub searched-requires-clause-searched : goal.searched-requires-clause-searched
searched-requires-clause-searched g c =
    let p = c.args.problem.now in
    rw (c.new.ensures.items, c.deref.ensures.value ∙ c.in_ok-names.ensures) (search-starts p.rows.now p.defs.now p.vars.now c.shrink.new.self.multipliers c.requires.problem.problem c.in_ok-shrink.ensures.refutation)
