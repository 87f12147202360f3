use Rattle.command_answers.proofs.BookPlaces.{stop-within}
use Rattle.command_answers.proofs.stops.stop_on_book.Goals as goal

pub stop_at-requires : goal.stop_at-requires
stop_at-requires c =
    stop-within c.args.sets.now c.args.book.now.rows c.args.book.now.vars c.requires.listed c.vars.ensures.book c.args.pivots c.in-Width.place (rw c.in-Width.is at c.requires.stopped)
