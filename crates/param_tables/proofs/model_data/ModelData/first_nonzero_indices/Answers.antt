use Rattle.param_tables.proofs.Common.{◌≡◌, ◌-◌, false, get_or, take, sym, ap, ◌∙◌, subst, IsStrictlyIncreasing, Built, is_nonzero_value, places_of, nonzero_indices, ratio_param}
use Rattle.param_tables.proofs.RatioFacts.{in_order_rises, indices_found}
use Rattle.param_tables.proofs.model_data.ModelData.first_nonzero_indices.Goals as goal

pub listed_indices-requires-clause-rising : goal.listed_indices-requires-clause-rising
listed_indices-requires-clause-rising c =
    let ratio = c.args.ratio in
    let table = c.index.result.now in
    let is : table ≡ get_or c.self.inside.tables.items (ratio_param ratio - 1) table = c.index.ensures ∙ ap (λ n. get_or c.self.inside.tables.items n table) (c.from.ensures ∙ ap (λ p. p - 1) c.param.ensures.number) in
    let places : c.as_slice.result.now ≡ (places_of c.self.inside.ratios ratio).in_order.items = c.as_slice.ensures.value ∙ ap (λ p. p.in_order.items) c.of-places.ensures in
    subst IsStrictlyIncreasing (sym places) (in_order_rises c.self.inside.sets c.self.inside.tables.items c.self.inside.second c.self.inside.ratios c.self.invariant ratio table is)

pub returns : goal.returns
returns c =
    let ratio = c.args.ratio in
    let s = c.new-sizes.result in
    let table = c.index.result.now in
    let is : table ≡ get_or c.self.inside.tables.items (ratio_param ratio - 1) table = c.index.ensures ∙ ap (λ n. get_or c.self.inside.tables.items n table) (c.from.ensures ∙ ap (λ p. p - 1) c.param.ensures.number) in
    let zero_by_default : is_nonzero_value table.default ≡ false = sym c.is_nonzero.ensures ∙ c.if-is_nonzero.false in
    let places : c.as_slice.result.now ≡ (places_of c.self.inside.ratios ratio).in_order.items = c.as_slice.ensures.value ∙ ap (λ p. p.in_order.items) c.of-places.ensures in
    let r = c.args.region in
    let d = c.args.self.now.facts in
    let found = c.in_ok-indices.indices.items in
    let listed : found ≡ nonzero_indices d ratio r =
    indices_found c.self.inside.sets c.self.inside.tables.items c.self.inside.second c.self.inside.ratios c.self.invariant ratio table is zero_by_default d (ap (λ (b : Built). b.facts) c.self.view_is) s c.new-sizes.ensures.sizes r c.as_slice.result.now found c.requires places c.in_ok-indices.ensures in
    c.truncate.ensures.items ∙ ap (take c.args.most) listed
