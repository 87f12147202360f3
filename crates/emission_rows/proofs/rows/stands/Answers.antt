-- Each number has its condition.
use Rattle.std.proofs.Common.{◌≢◌, rules}
use Rattle.row_core.specs.declared.equation_numbers.TheConstants.{E1, E8, E9}
use Rattle.emission_rows.proofs.Meaning.{everywhere_else}
use Rattle.emission_rows.proofs.rows.stands.Goals as goal

pub returns-in_default : goal.returns-in_default
returns-in_default c =
    let a : c.args.eq ≢ E1 = search rules in
    let b : c.args.eq ≢ E8 = search rules in
    let d : c.args.eq ≢ E9 = search rules in
    everywhere_else c.args.model.now.facts c.args.eq c.args.at c.requires.equation a b d
