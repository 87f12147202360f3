-- The problem is what the elimination asks for, and what is left is its linear program.
use Rattle.row_problem.proofs.ProblemLaws.{problem-known}
use Rattle.row_problem.proofs.ProgramLaws.{program-answer}
use Rattle.row_problem.proofs.problem.left_of.Goals as goal

pub eliminate-requires-clause-known : goal.eliminate-requires-clause-known
eliminate-requires-clause-known c = problem-known c.args.rows.now c.args.defs.now c.args.vars.now c.requires.problem

pub returns-clause-program : goal.returns-clause-program
returns-clause-program c =
    let made = c.eliminate.ensures in
    program-answer c.args.rows.now c.args.defs.now c.args.vars.now c.requires.problem c.requires.variables c.eliminate.result made.rows made.columns made.cost made.reductions made.without made.whole made.ready
