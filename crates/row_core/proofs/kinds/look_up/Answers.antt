use Rattle.row_core.proofs.Common.{◌-◌, arith, described_kind, kinds, no_kind}
use Rattle.row_core.proofs.Tables.{described_entry}
use Rattle.row_core.proofs.kinds.look_up.Goals as goal

pub returns : goal.returns
returns c =
    described_entry described_kind c.args.table.now kinds (c.args.kind - 1) _ no_kind c.requires.tabled (omega arith)
