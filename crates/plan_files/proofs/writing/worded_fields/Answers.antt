-- Each subscript that there is is the position of a member.
use Rattle.row_core.specs.Kinds.{kind_at, kind_has}
use Rattle.plan_files.proofs.WithinLaws.{within_at, within_places}
use Rattle.plan_files.proofs.writing.worded_fields.Goals as goal

pub push_subscripts-requires-clause-within : goal.push_subscripts-requires-clause-within
push_subscripts-requires-clause-within c =
    within_places c.args.sets.now (kind_has c.args.variable.kind) c.args.variable.index c.places_of_kind.result c.places_of_kind.ensures (within_at c.args.sets.now c.args.variable.index (kind_at c.args.variable.kind).subscripts c.requires.within)
