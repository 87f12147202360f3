-- The step of a row, and that each subscript that there is is the position of a member.
use Rattle.result_tables.proofs.Common.{sym, within_at, within_places}
use Rattle.row_core.specs.Equations.{equation_at, equation_has}
use Rattle.result_tables.proofs.PriceLaws.{no_step, step_fits, step_stops}
use Rattle.result_tables.proofs.prices.push_price.Goals as goal

pub push_amount_record-requires-clause-within : goal.push_amount_record-requires-clause-within
push_amount_record-requires-clause-within c =
    within_places c.args.sets.now (equation_has c.args.row.now.name.eq) c.args.row.now.name.index c.places_of_equation.result c.places_of_equation.ensures (within_at c.args.sets.now c.args.row.now.name.index (equation_at c.args.row.now.name.eq).subscripts c.requires.within)

pub returns-then-row-ne-EBA11-clause-fits : goal.returns-then-row-ne-EBA11-clause-fits
returns-then-row-ne-EBA11-clause-fits c = no_step c.args.multipliers.now c.args.row.now c.if-row-ne-EBA11.true

pub returns-in_default-clause-stopped : goal.returns-in_default-clause-stopped
returns-in_default-clause-stopped c = step_stops c.args.multipliers.now c.args.row.now c.if-row-ne-EBA11.false (sym c.in_default.ensures.refused)

pub returns-then-is_zero-clause-fits : goal.returns-then-is_zero-clause-fits
returns-then-is_zero-clause-fits c = step_fits c.args.multipliers.now c.args.row.now c.if-row-ne-EBA11.false (sym c.in-Ok.ensures.refused)

pub returns-clause-fits : goal.returns-clause-fits
returns-clause-fits c = step_fits c.args.multipliers.now c.args.row.now c.if-row-ne-EBA11.false (sym c.in-Ok.ensures.refused)
