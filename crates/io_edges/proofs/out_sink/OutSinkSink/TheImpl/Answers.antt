use Rattle.io_edges.proofs.Common.{arith, common_steps}
use Rattle.io_edges.proofs.out_sink.OutSinkSink.TheImpl.Goals as goal

pub write-tells : goal.write-tells
write-tells g c = record {
  fits = c.ensures.fits;
  goes_on = c.ensures.goes_on;
  appends = grind (arith, common_steps);
  accepted = grind (arith, common_steps);
  failed = grind (arith, common_steps);
  stays = grind (arith, common_steps);
  accepted_stays = grind (arith, common_steps);
  faults = c.ensures.faults;
}
