use Rattle.mps_writer.proofs.Common.{◌-◌, drop, length, take, arith, take_rest, common_steps, output, output-stays}
use Rattle.mps_writer.proofs.TakenLaws.{rose-earlier, send-end, send-more, stays-cut}
use Rattle.mps_writer.proofs.buffer.send.Goals as goal

pub loop-sent-preserved : goal.loop-sent-preserved
loop-sent-preserved g c = record {
  within = grind (arith, common_steps);
  taken = send-more c.args.text.now (take (length c.args.text.now - c.loop-sent.sent) (drop c.loop-sent.sent c.args.text.now)) (output (g.K.Sink.written c.args.out.now) (g.K.Sink.accepted c.args.out.now)) (output (g.K.Sink.written c.loop-sent.out) (g.K.Sink.accepted c.loop-sent.out)) (output (g.K.Sink.written c.write.new.self) (g.K.Sink.accepted c.write.new.self)) c.loop-sent.sent c.in-Ok.count
      (take_rest c.args.text.now c.loop-sent.sent) c.loop-sent.invariant.taken (record { accepted = c.in-Ok.ensures.accepted; written = c.in-Ok.ensures.appends });
  faults = grind (arith, common_steps);
}

pub returns-in-Err : goal.returns-in-Err
returns-in-Err g c = (
  stays-cut c.args.text.now (drop c.loop-sent.sent c.args.text.now) (output (g.K.Sink.written c.args.out.now) (g.K.Sink.accepted c.args.out.now)) (output (g.K.Sink.written c.loop-sent.out) (g.K.Sink.accepted c.loop-sent.out)) (output (g.K.Sink.written c.write.new.self) (g.K.Sink.accepted c.write.new.self)) c.loop-sent.invariant.taken
      (output-stays (g.K.Sink.written c.loop-sent.out) (g.K.Sink.written c.write.new.self) (g.K.Sink.accepted c.loop-sent.out) (g.K.Sink.accepted c.write.new.self) c.in-Err.ensures.stays c.in-Err.ensures.accepted_stays),
  omega (arith, c.loop-sent.invariant.faults, c.in-Err.ensures.faults),
  rose-earlier (g.K.Sink.faults c.args.out.now) (g.K.Sink.faults c.loop-sent.out) (g.K.Sink.faults c.write.new.self) c.loop-sent.invariant.faults c.in-Err.ensures.failed,
)

pub returns : goal.returns
returns g c = (
  send-end c.args.text.now c.loop-sent.sent (output (g.K.Sink.written c.args.out.now) (g.K.Sink.accepted c.args.out.now)) (output (g.K.Sink.written c.loop-sent.out) (g.K.Sink.accepted c.loop-sent.out)) (omega arith) c.loop-sent.invariant.taken,
  c.loop-sent.invariant.faults,
)
