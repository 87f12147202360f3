-- What every book keeps is what a problem is, and what is asked of listed rows.
use Rattle.command_answers.proofs.BookProblems.{book-problem}
use Rattle.command_answers.proofs.methods.problem_laws.Goals as goal

pub returns-clause-problem : goal.returns-clause-problem
returns-clause-problem c = book-problem c.args.book.now.rows c.args.book.now.vars c.vars.ensures.book

pub returns-clause-variables : goal.returns-clause-variables
returns-clause-variables c = c.vars.ensures.book.variables

pub returns-clause-listed : goal.returns-clause-listed
returns-clause-listed c =
    let book = c.vars.ensures.book in
    record {
      named = book.ascending;
      ascending = book.variables.ascending;
      listed = λ v h. (book.variables.each v).1 h;
    }
