use Rattle.param_tables.proofs.Common.{◌≡◌, ◌-◌, ◌≤◌, length, get_or, sym, ap, ◌∙◌, subst, arith, indices_of, IsSet, region, ratio_sizes, region_size, count_in, ratio_param, IsTable}
use Rattle.param_tables.proofs.PlaceLaws.{members-most}
use Rattle.param_tables.proofs.RatioFacts.{ratio_is_usable}
use Rattle.param_tables.proofs.RatioPlaceLaws.{places_below}
use Rattle.param_tables.proofs.ratio_places.places_in.Goals as goal

is_region : IsSet region
is_region = (omega arith, omega arith)

pub new-requires-clause-below : goal.new-requires-clause-below
new-requires-clause-below c k d below =
    let sets = c.args.sets.now in
    let ratio = c.args.ratio in
    let table = c.index-tables-from.result in
    let n : c.from.result ≡ ratio_param ratio - 1 = c.from.ensures ∙ ap (λ p. p - 1) c.param.ensures.number in
    let at : table ≡ get_or c.args.tables.now (ratio_param ratio - 1) table = c.index-tables-from.is ∙ ap (λ n. get_or c.args.tables.now n table) n in
    let shape : IsTable (length (indices_of sets (ratio_param ratio))) table = subst (IsTable (length (indices_of sets (ratio_param ratio)))) (sym at) (c.requires.shapes.each (ratio_param ratio) (ratio_is_usable ratio) table) in
    let most : count_in sets region ≤ 1000 = members-most sets region c.requires.sets is_region in
    let size : region_size c.new-sizes.result ≡ region_size (ratio_sizes sets ratio) = ap region_size c.new-sizes.ensures.sizes in
    places_below sets ratio (region_size c.new-sizes.result) (get_or table.places.items k d) size most (shape.below k d below)
