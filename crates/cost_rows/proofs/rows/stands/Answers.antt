-- Each number has its condition.
use Rattle.std.proofs.Common.{◌≢◌, rules}
use Rattle.row_core.specs.declared.equation_numbers.TheConstants.{SV1, SV2, SV3}
use Rattle.cost_rows.proofs.Meaning.{everywhere_else}
use Rattle.cost_rows.proofs.rows.stands.Goals as goal

pub returns-in_default : goal.returns-in_default
returns-in_default c =
    let a : c.args.eq ≢ SV1 = search rules in
    let b : c.args.eq ≢ SV2 = search rules in
    let e : c.args.eq ≢ SV3 = search rules in
    everywhere_else c.args.model.now.facts c.args.eq c.args.at c.requires.equation a b e
