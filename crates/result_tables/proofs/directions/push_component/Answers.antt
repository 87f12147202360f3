-- Each subscript that there is is the position of a member.
use Rattle.result_tables.proofs.Common.{kind_at, kind_has, within_at, within_places}
use Rattle.result_tables.proofs.directions.push_component.Goals as goal

pub push_amount_record-requires-clause-within : goal.push_amount_record-requires-clause-within
push_amount_record-requires-clause-within c =
    within_places c.args.sets.now (kind_has c.args.var.kind) c.args.var.index c.places_of_kind.result c.places_of_kind.ensures (within_at c.args.sets.now c.args.var.index (kind_at c.args.var.kind).subscripts c.requires.within)
