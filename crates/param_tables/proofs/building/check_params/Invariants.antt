use Rattle.param_tables.proofs.Common.{◌≡◌, ◌-◌, Data, AreTablesFor}
use Rattle.param_tables.proofs.ParamLaws.{AreFreeUpTo}
use Rattle.param_tables.proofs.building.check_params.Given as goal

abbrev pub invariant-loop-param : goal.invariant-loop-param
invariant-loop-param l = (d : Data) → d.sets ≡ l.sets → d.second ≡ l.second → AreTablesFor d l.tables → AreFreeUpTo d (l.param - 1)
