use Rattle.param_tables.proofs.Common.{◌≡◌, map, nat_eq, ap, ◌∙◌, dedup, take_all, dedup_is, regrouped}
use Rattle.param_tables.proofs.NonzeroLaws.{grouped_from}
use Rattle.param_tables.proofs.ratio_places.grouped_places.Goals as goal

pub returns : goal.returns
returns c =
    let places = c.args.places.now in
    let pushed : c.loop-place.grouped.items ≡ map (regrouped c.args.sizes) places = c.loop-place.invariant ∙ ap (map (regrouped c.args.sizes)) (take_all c.loop-place.place-index places c.loop-place-test.false) in
    let sorted = c.sort_unstable.new.self.items in
    let left : c.dedup.new.self.items ≡ dedup nat_eq sorted = dedup_is nat_eq sorted c.dedup.new.self.items c.dedup.ensures.filtered in
    grouped_from c.args.sizes places c.loop-place.grouped.items sorted c.dedup.new.self.items pushed c.sort_unstable.ensures.permutation c.sort_unstable.ensures.sorted left
