use Rattle.mps_reading.proofs.ReadRows.{rows-read}
use Rattle.mps_reading.proofs.reading_law.Goals as goal

pub returns : goal.returns
returns c = record { reads = rows-read }
