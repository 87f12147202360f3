use Rattle.mps_writer.proofs.Common.{◌++◌, arith, output, entry_line}
use Rattle.mps_writer.proofs.TakenLaws.{cuts-none}
use Rattle.mps_writer.proofs.sent_columns.send_entry.Goals as goal

pub returns-in-Err : goal.returns-in-Err
returns-in-Err g c = (
  cuts-none (c.args.buffer.now.items ++ entry_line c.args.column c.args.entry.now.row c.args.entry.now.number) (output (g.K.Sink.written c.args.out.now) (g.K.Sink.accepted c.args.out.now)),
  omega arith,
)
