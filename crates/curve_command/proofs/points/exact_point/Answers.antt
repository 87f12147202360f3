-- The point of the exact method, whose place can be named where it stops.
use Rattle.curve_command.proofs.Common.{◌≡◌, inl, definers, point_end, point_seen}
use Rattle.curve_command.proofs.PointPlaces.{exact-within}
use Rattle.curve_command.proofs.points.exact_point.Goals as goal

pub returns : goal.returns
returns g c =
    let book = c.args.book.now in
    let limit = c.args.limit in
    let point = c.in_ok-point.point in
    let end : point_seen point ≡ point_end book.rows (definers book.rows) book.vars limit c.args.wanted.pivots =
    cc (c.in_ok-point.ensures.end, c.rows.ensures.rows, c.vars.ensures.variables, c.deref.ensures.value, c.in_ok-defs.ensures, c.from-pivots.ensures) in
    record {
      worth = rw (c.rows.ensures.rows, c.vars.ensures.variables) at c.in_ok-point.ensures.worth;
      cause = inl (c.requires.within, end);
      within = rw end (exact-within c.args.sets.now book.rows book.vars limit c.args.wanted.pivots c.requires.listed c.vars.ensures.book c.requires.limit);
    }
