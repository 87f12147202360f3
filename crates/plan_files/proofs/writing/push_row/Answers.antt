-- Each subscript that there is is the position of a member.
use Rattle.row_core.specs.Equations.{equation_at, equation_has}
use Rattle.plan_files.proofs.WithinLaws.{within_at, within_places}
use Rattle.plan_files.proofs.writing.push_row.Goals as goal

pub push_subscripts-requires-clause-within : goal.push_subscripts-requires-clause-within
push_subscripts-requires-clause-within c =
    within_places c.args.sets.now (equation_has c.args.name.eq) c.args.name.index c.places_of_equation.result c.places_of_equation.ensures (within_at c.args.sets.now c.args.name.index (equation_at c.args.name.eq).subscripts c.requires.within)
