use Rattle.param_tables.proofs.Common.{◌≡◌, ◌-◌, ◌*◌, ◌+◌, false, get_or, sym, ap, ◌∙◌, IfOk-weaker, Built, AreBlocks, group_of, group_size, is_nonzero_value, places_of, nonzero_modes, ratio_param}
use Rattle.param_tables.proofs.RatioFacts.{modes_found}
use Rattle.param_tables.proofs.model_data.ModelData.nonzero_modes.Goals as goal

pub returns : goal.returns
returns c =
    let ratio = c.args.ratio in
    let s = c.new-sizes.result in
    let table = c.index.result.now in
    let is : table ≡ get_or c.self.inside.tables.items (ratio_param ratio - 1) table = c.index.ensures ∙ ap (λ n. get_or c.self.inside.tables.items n table) (c.from.ensures ∙ ap (λ p. p - 1) c.param.ensures.number) in
    let zero_by_default : is_nonzero_value table.default ≡ false = sym c.is_nonzero.ensures ∙ c.if-is_nonzero.false in
    let places : c.as_slice.result.now ≡ (places_of c.self.inside.ratios ratio).grouped.items = c.as_slice.ensures.value ∙ ap (λ p. p.grouped.items) c.of-places.ensures in
    let group : c.group_of-group.result ≡ group_of s c.args.region c.args.commodity c.args.year = c.group_of-group.ensures.group ∙ ap (λ r. group_of s r c.args.commodity c.args.year) c.from-2.ensures in
    let r = c.args.region in
    let t = c.args.technology in
    let k = c.args.commodity in
    let y = c.args.year in
    let d = c.args.self.now.facts in
    IfOk-weaker c.listed_modes.result
    (λ modes. AreBlocks c.as_slice.result.now (c.group_of-group.result * group_size s + t * s.modes) 1 s.modes modes.items)
    (λ modes. modes.items ≡ nonzero_modes d ratio r t k y)
    (λ modes blocks. modes_found c.self.inside.sets c.self.inside.tables.items c.self.inside.second c.self.inside.ratios c.self.invariant ratio table is zero_by_default d (ap (λ (b : Built). b.facts) c.self.view_is) s c.new-sizes.ensures.sizes r t k y c.group_of-group.result c.as_slice.result.now modes.items c.requires.members c.requires.technology places group blocks)
    c.listed_modes.ensures
