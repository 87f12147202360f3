use Rattle.row_core.proofs.Common.{◌-◌, arith, described_equation, equations, no_equation}
use Rattle.row_core.proofs.Tables.{described_entry}
use Rattle.row_core.proofs.equations.look_up.Goals as goal

pub returns : goal.returns
returns c =
    described_entry described_equation c.args.table.now equations (c.args.eq - 1) _ no_equation c.requires.tabled (omega arith)
