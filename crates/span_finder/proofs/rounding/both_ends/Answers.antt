-- One trial after the other, over the same rows with another cost.
use Rattle.row_problem.proofs.Common.{refl, Cost, Model, One, Least, IsProgramOf}
use Rattle.span_finder.proofs.ValueLaws.{capacity-among}
use Rattle.span_finder.proofs.rounding.both_ends.Goals as goal

pub rounded_trial-requires : goal.rounded_trial-requires
rounded_trial-requires g c =
    let rows = c.args.rows.now in
    let defs = c.args.defs.now in
    let vars = c.args.vars.now in
    let program = c.requires.program in
    record {
      posed = c.in_ok-first.ensures.program rows defs vars Model program (capacity-among rows defs vars Model c.args.reduced c.args.var program c.requires.capacity);
      cost = refl;
      capacity = c.requires.capacity;
    }

pub rounded_trial-requires-2 : goal.rounded_trial-requires-2
rounded_trial-requires-2 over c =
    let rows = c.args.rows.now in
    let defs = c.args.defs.now in
    let vars = c.args.vars.now in
    let program = c.requires.program in
    let cost : Cost = One c.args.var Least in
    let first : IsProgramOf rows defs vars cost c.in_ok-first.first = c.in_ok-first.ensures.program rows defs vars Model program (capacity-among rows defs vars Model c.args.reduced c.args.var program c.requires.capacity) in
    record {
      posed = c.in_ok-second.ensures.program rows defs vars cost first (capacity-among rows defs vars cost c.in_ok-first.first c.args.var first c.requires.capacity);
      cost = refl;
      capacity = c.requires.capacity;
    }
