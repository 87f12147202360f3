use Rattle.curve_command.proofs.RoundedPoints.{rounded-points}
use Rattle.curve_command.proofs.points.rounded_point.Goals as goal

pub returns : goal.returns
returns g c = λ sets.
    let worth = rw (c.rows.ensures.rows, c.vars.ensures.variables) at c.round_limit.ensures.worth in
    rounded-points sets c.args.book.now c.args.limit c.args.wanted c.requires c.round_limit.result worth c.round_limit.ensures.rounded
