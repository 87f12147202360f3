-- Each number has its condition.
use Rattle.limit_rows.proofs.Common.{◌≡◌, ◌≢◌, ◌≤◌, true, refl, sym, subst, arith, rules, RM1, RE1, RE5, stands_at}
use Rattle.limit_rows.proofs.Meaning.{everywhere_else}
use Rattle.limit_rows.proofs.rows.stands.Goals as goal

pub returns-in_default : goal.returns-in_default
returns-in_default c =
    let a : c.args.eq ≢ RE1 = search rules in
    let b : c.args.eq ≢ RE5 = search rules in
    let from : RM1 ≤ c.args.eq = omega arith in
    everywhere_else c.args.model.now.facts c.args.eq c.args.at from c.requires.equation.1 a b

pub returns-in_default-2 : goal.returns-in_default-2
returns-in_default-2 c =
    let a : c.args.eq ≢ RE1 = search rules in
    let b : c.args.eq ≢ RE5 = search rules in
    let from : RM1 ≤ c.args.eq = omega arith in
    everywhere_else c.args.model.now.facts c.args.eq c.args.at from c.requires.equation.1 a b
