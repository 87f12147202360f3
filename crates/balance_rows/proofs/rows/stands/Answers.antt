-- Each number has its condition.
use Rattle.std.proofs.Common.{◌≢◌, rules}
use Rattle.row_core.specs.declared.equation_numbers.TheConstants.{EBA1, EBA2, EBA4, EBA5, ACC1, ACC2}
use Rattle.balance_rows.proofs.Meaning.{everywhere_else}
use Rattle.balance_rows.proofs.rows.stands.Goals as goal

pub returns-in_default : goal.returns-in_default
returns-in_default c =
    let a : c.args.eq ≢ EBA1 = search rules in
    let b : c.args.eq ≢ EBA2 = search rules in
    let d : c.args.eq ≢ EBA4 = search rules in
    let e : c.args.eq ≢ EBA5 = search rules in
    let f : c.args.eq ≢ ACC1 = search rules in
    let g : c.args.eq ≢ ACC2 = search rules in
    everywhere_else c.args.model.now.facts c.args.eq c.args.at c.requires.equation a b d e f g
