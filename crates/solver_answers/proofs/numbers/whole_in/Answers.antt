-- The number is the one of the digits, or there is none.
use Rattle.solver_answers.proofs.NumberLaws.{no_whole, whole}
use Rattle.solver_answers.proofs.numbers.whole_in.Goals as goal

pub returns-in-Ok : goal.returns-in-Ok
returns-in-Ok c = whole c.args.word.now c.in-Ok.n c.in-Ok.ensures

pub returns-in-Err : goal.returns-in-Err
returns-in-Err c = no_whole c.args.word.now c.in-Err.ensures
