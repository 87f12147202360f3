use Rattle.std.proofs.lemmas.Result.{IfOk-weaker}
use Rattle.command_answers.proofs.BookLists.{end-of-elimination}
use Rattle.command_answers.proofs.BookPlaces.{stop-within}
use Rattle.command_answers.proofs.stops.stop_on_elimination.Goals as goal

pub stop_at-requires : goal.stop_at-requires
stop_at-requires c =
    let rows = c.args.book.now.rows in
    let vars = c.args.book.now.vars in
    stop-within c.args.sets.now rows vars c.requires.listed c.vars.ensures.book 0 c.in-Width.place (end-of-elimination rows vars 0 c.in-Width.place (rw c.in-Width.is at c.requires.stopped))

pub returns-in-Width : goal.returns-in-Width
returns-in-Width c =
    IfOk-weaker c.stop_at.result _ _ (λ answer told. record { place = c.in-Width.place; wide = rw c.in-Width.is at c.requires.stopped; status_is = told.0; line_is = told.1 }) c.stop_at.ensures
