use Rattle.model_sets.proofs.Common.{◌≡◌, ◌<◌, ◌≤◌, length, sym, ap, subst, ◌∙◌, arith, length-map, take_all, members, years, IsLeast, least, number_of}
use Rattle.model_sets.proofs.EndLaws.{least_is}
use Rattle.model_sets.proofs.sets.Sets.first_year.Goals as goal

pub returns-clause-least : goal.returns-clause-least
returns-clause-least c =
    let all = years c.args.self.now in
    let long : length all ≡ length (members c.args.self.now 7) = length-map (members c.args.self.now 7) number_of in
    let ended : length all ≤ c.loop-i.i = omega (arith, c.loop-i-test.false, c.count-i-end.ensures.count) in
    let some : 0 < length all = omega (arith, c.requires) in
    subst (IsLeast all) (sym (c.loop-i.invariant.first ∙ ap least (take_all c.loop-i.i all ended))) (least_is all some)
