use Rattle.row_book.proofs.StopLaws.{made-no_stop, one-stop}
use Rattle.row_book.proofs.laws.stop_laws.Goals as goal

pub returns-clause-made : goal.returns-clause-made
returns-clause-made c = made-no_stop

pub returns-clause-one : goal.returns-clause-one
returns-clause-one c = one-stop
