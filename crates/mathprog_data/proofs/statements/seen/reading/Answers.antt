use Rattle.std.proofs.Common.{Ok, Err}
use Rattle.mathprog_data.proofs.NumberReadingLaws.{reading-is}
use Rattle.mathprog_data.proofs.statements.seen.reading.Goals as goal

pub returns-in-Ok : goal.returns-in-Ok
returns-in-Ok c = reading-is c.args.bytes.now (Ok c.in-Ok.number) c.in-Ok.ensures.answer c.in-Ok.ensures.number

pub returns-in-Err : goal.returns-in-Err
returns-in-Err c = reading-is c.args.bytes.now (Err c.in-Err.field-0) c.in-Err.ensures.answer c.in-Err.ensures.number
