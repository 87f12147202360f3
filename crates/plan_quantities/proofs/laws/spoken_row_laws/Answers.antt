use Rattle.plan_quantities.proofs.SpokenRowLaws.{moves-by-unit, rows-entered, rows-spoken}
use Rattle.plan_quantities.proofs.laws.spoken_row_laws.Goals as goal

pub returns : goal.returns
returns c = record { spoken = rows-spoken; entries = rows-entered; moves = moves-by-unit }
