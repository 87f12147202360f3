use Rattle.param_tables.proofs.Common.{rules, ◌≡◌, sym, subst, keys, values, IsStrictlyIncreasing, IsStrictlyIncreasing-from_sorted}
use Rattle.param_tables.proofs.EntryLaws.{given_in-columns}
use Rattle.param_tables.proofs.param_table.ParamTable.new.Goals as goal

pub returns-clause-ascending : goal.returns-clause-ascending
returns-clause-ascending c =
    let places : c.in_ok-places.places.items ≡ keys c.args.given = search rules in
    subst IsStrictlyIncreasing (sym places) (IsStrictlyIncreasing-from_sorted (keys c.args.given) c.keys.ensures.ordered)

pub returns-clause-values : goal.returns-clause-values
returns-clause-values c place =
    let places : c.in_ok-places.places.items ≡ keys c.args.given = search rules in
    let vs : c.in_ok-values.values.items ≡ values c.args.given = search rules in
    given_in-columns c.args.given c.in_ok-places.places.items c.in_ok-values.values.items place places vs
