use Rattle.mps_writer.proofs.Common.{◌++◌, arith, contents_of, output, lines_in}
use Rattle.mps_writer.proofs.TakenLaws.{cuts-none}
use Rattle.mps_writer.proofs.sections.send_lines.Goals as goal

pub returns-in-Err : goal.returns-in-Err
returns-in-Err g c = (
  cuts-none (c.args.buffer.now.items ++ lines_in c.args.section c.args.sets.now (c.args.number, contents_of c.args.row.now)) (output (g.K.Sink.written c.args.out.now) (g.K.Sink.accepted c.args.out.now)),
  omega arith,
)
