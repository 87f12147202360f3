-- A subscript that the equation has is the position of a member.
use Rattle.std.proofs.Common.{sym, ◌∙◌}
use Rattle.row_core.specs.Equations.{equation_at}
use Rattle.plan_files.proofs.WithinLaws.{within_at}
use Rattle.price_tables.proofs.records.subscript_field.Goals as goal

pub member_at-requires : goal.member_at-requires
member_at-requires c =
    within_at c.args.sets.now c.args.name.index (equation_at c.args.name.eq).subscripts c.requires.within c.args.place (sym c.row_has.ensures ∙ c.if-row_has.true)
