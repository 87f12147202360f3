use Rattle.command_answers.proofs.BookEnds.{refused_told}
use Rattle.command_answers.proofs.MadeBooks.{made-book}
use Rattle.command_answers.proofs.books.made_book.Goals as goal

pub returns-in-Ok : goal.returns-in-Ok
returns-in-Ok c =
    let made = c.in-Ok.ensures in
    made-book c.args.places c.args.model.now.facts c.in-Ok.book made.made made.rows made.exist made.variables.ascending made.whole made.within

pub returns-in_ok-answer-in-Err : goal.returns-in_ok-answer-in-Err
returns-in_ok-answer-in-Err c =
    let answer = c.in_ok-answer-in-Err.answer in
    refused_told c.args.places c.args.model.now.facts c.sets.result.now c.in-Err.fail answer.status answer.text.items c.in-Err.ensures.stopped c.sets.ensures.sets c.in_ok-answer-in-Err.ensures
