use Rattle.io_edges.proofs.Common.{refl, arith, common_steps}
use Rattle.io_edges.proofs.disk_shelf.DiskShelfShelf.TheImpl.Goals as goal

pub begin-tells : goal.begin-tells
begin-tells g c = record {
  files = refl;
  opens = grind (arith, common_steps);
  told = λ told. told;
  refused = grind (arith, common_steps);
  no_file = λ told. c.ensures.told told;
  no_fault = λ told. absurd (c.ensures.told told);
  missing = λ lacks _. absurd lacks;
  failed = grind (arith, common_steps);
  faults = c.ensures.faults;
  begins = grind (arith, common_steps);
  taken = grind (arith, common_steps);
  moved = grind (arith, common_steps);
}

pub read-tells : goal.read-tells
read-tells g c = record {
  files = refl;
  begins = grind (arith, common_steps);
  fits = c.ensures.fits;
  moves = grind (arith, common_steps);
  taken = grind (arith, common_steps);
  moved = grind (arith, common_steps);
  failed = grind (arith, common_steps);
  rest_stays = grind (arith, common_steps);
  taken_stays = grind (arith, common_steps);
  moved_stays = grind (arith, common_steps);
  faults = c.ensures.faults;
}
