use Rattle.std.proofs.Common.{refl}
use Rattle.mps_writer.proofs.GatheredLaws.{gathered-serves}
use Rattle.mps_writer.proofs.sent_columns.gather.Goals as goal

pub returns-clause-serves : goal.returns-clause-serves
returns-clause-serves g c vars served = gathered-serves (g.R.RowSource.rows c.args.rows.now) c.args.kind _ vars refl refl c.in-Ok.ensures.sorted
