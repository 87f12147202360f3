use Rattle.param_tables.proofs.Common.{◌≡◌, drop, has_second, params_told}
use Rattle.param_tables.proofs.building.has_second.Given as goal

abbrev pub invariant-loop-block : goal.invariant-loop-block
invariant-loop-block l = has_second (params_told l.blocks) ≡ has_second (params_told (drop l.block-index l.blocks))
