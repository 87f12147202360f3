use Rattle.model_sets.proofs.Common.{◌≡◌, ◌<◌, ◌≤◌, length, sym, ap, subst, ◌∙◌, arith, length-map, take_all, members, years, IsGreatest, greatest, number_of}
use Rattle.model_sets.proofs.EndLaws.{greatest_is}
use Rattle.model_sets.proofs.sets.Sets.last_year.Goals as goal

pub returns-clause-greatest : goal.returns-clause-greatest
returns-clause-greatest c =
    let all = years c.args.self.now in
    let long : length all ≡ length (members c.args.self.now 7) = length-map (members c.args.self.now 7) number_of in
    let ended : length all ≤ c.loop-i.i = omega (arith, c.loop-i-test.false, c.count-i-end.ensures.count) in
    let some : 0 < length all = omega (arith, c.requires) in
    subst (IsGreatest all) (sym (c.loop-i.invariant ∙ ap greatest (take_all c.loop-i.i all ended))) (greatest_is all some)
