use Rattle.mps_writer.proofs.Common.{◌++◌, arith, output, bound_line}
use Rattle.mps_writer.proofs.TakenLaws.{cuts-none}
use Rattle.mps_writer.proofs.sending.send_bound.Goals as goal

pub returns-in-Err : goal.returns-in-Err
returns-in-Err g c = (
  cuts-none (c.args.buffer.now.items ++ bound_line (c.args.column, c.args.var)) (output (g.K.Sink.written c.args.out.now) (g.K.Sink.accepted c.args.out.now)),
  omega arith,
)
