use Rattle.osemosys_run.proofs.Common.{arith, subst, take, sym, Output, Took, TookPrefix, output-stays, took-nothing, sent}
use Rattle.std.proofs.lemmas.Grind.{common_steps}
use Rattle.osemosys_run.proofs.SentLaws.{at_error, sent_all, sent_more}
use Rattle.osemosys_run.proofs.sending.send.Goals as goal

pub loop-done-init : goal.loop-done-init
loop-done-init g c = record {
  within = grind (arith, common_steps);
  took = took-nothing (sent g.K.Sink c.args.out.now).output;
  faults = grind (arith, common_steps);
}

pub loop-done-preserved : goal.loop-done-preserved
loop-done-preserved g c = record {
  within = grind (arith, common_steps);
  took = sent_more (sent g.K.Sink c.args.out.now).output (sent g.K.Sink c.loop-done.out).output (sent g.K.Sink c.write.new.self).output c.args.text.now c.loop-done.done c.in_ok-done.field-0 _ (grind (arith, common_steps))
      c.loop-done.invariant.took (record { accepted = c.in_ok-done.ensures.accepted; written = c.in_ok-done.ensures.appends });
  faults = grind (arith, common_steps);
}

pub returns-in_err-done-clause-cut : goal.returns-in_err-done-clause-cut
returns-in_err-done-clause-cut g c =
    let sink = g.K.Sink in
    let start : Output = (sent sink c.args.out.now).output in
    at_error c.from_residual.result (TookPrefix start (sent sink c.write.new.self).output c.args.text.now) (
      c.loop-done.done,
      c.loop-done.invariant.within,
      subst (λ (o : Output). Took start o (take c.loop-done.done c.args.text.now))
          (sym (output-stays (sink.written c.loop-done.out) (sink.written c.write.new.self) (sink.accepted c.loop-done.out) (sink.accepted c.write.new.self) c.in_err-done.ensures.stays c.in_err-done.ensures.accepted_stays))
          c.loop-done.invariant.took,
    )

pub returns-clause-whole : goal.returns-clause-whole
returns-clause-whole g c = sent_all (sent g.K.Sink c.args.out.now).output (sent g.K.Sink c.loop-done.out).output c.args.text.now c.loop-done.done (omega arith) c.loop-done.invariant.took
