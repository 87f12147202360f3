-- Region by region.
use Rattle.std.proofs.Common.{◌≡◌, ℕ, ◌-◌, ◌<◌, ◌++◌, length, map, sym, ap, subst, ◌∙◌, arith}
use Rattle.std.specs.List.{flat_map, range_with_len}
use Rattle.model_sets.specs.Data.{Data, IsUsedParam}
use Rattle.model_sets.specs.Members.{members}
use Rattle.model_sets.specs.Names.{region}
use Rattle.model_sets.specs.Params.{subscript_sets}
use Rattle.param_tables.specs.Ratios.{count_in, positions_in, ratio_param}
use Rattle.data_tables.specs.ParamTables.{positions_over}
use Rattle.data_tables.specs.RatioWalks.{AreWithin, positions_of}
use Rattle.data_tables.proofs.RatioLaws.{nonzero_positions, nonzero_within, ratio_used, ratio_whole}
use Rattle.data_tables.proofs.WalkLaws.{cells_joined, cells_text}
use Rattle.data_tables.proofs.WrittenLaws.{ranged_next}
use Rattle.data_tables.proofs.ratio_cells.push_ratio.Goals as goal

pub loop-region-init : goal.loop-region-init
loop-region-init c =
    let d : Data = c.args.cells.model.now.facts in
    let all : c.count-region-end.result - 0 ≡ count_in d.sets region = omega (arith, c.count-region-end.ensures.count ∙ ap (λ s. length (members s region)) c.sets.ensures.sets) in
    ap (λ t. c.args.lines.now ++ t)
    (ap (λ n. cells_text c.args.cells.form d c.args.cells.param (flat_map (nonzero_positions d c.args.ratio) (range_with_len 0 n))) all
    ∙ subst (λ param. cells_text c.args.cells.form d param (flat_map (nonzero_positions d c.args.ratio) (positions_in d.sets region)) ≡ cells_text c.args.cells.form d param (positions_over d.sets (subscript_sets param)))
    c.requires (ratio_whole d c.args.cells.form c.args.ratio))

pub push_region-requires-clause-used : goal.push_region-requires-clause-used
push_region-requires-clause-used c = subst (IsUsedParam c.args.cells.model.now.facts) c.requires (ratio_used c.args.cells.model.now.facts c.args.ratio)

pub push_region-requires-clause-within : goal.push_region-requires-clause-within
push_region-requires-clause-within c =
    let d : Data = c.args.cells.model.now.facts in
    let all : c.count-region-end.result ≡ count_in d.sets region = c.count-region-end.ensures.count ∙ ap (λ s. length (members s region)) c.sets.ensures.sets in
    let here : c.loop-region.region < count_in d.sets region = subst (λ n. c.loop-region.region < n) all c.loop-region-test.true in
    subst (λ param. AreWithin d.sets param c.loop-region.region c.as_slice.result.now) c.requires
    (subst (AreWithin d.sets (ratio_param c.args.ratio) c.loop-region.region) (sym (c.as_slice.ensures.value ∙ c.in_ok-indices.ensures)) (nonzero_within d c.args.ratio c.loop-region.region here))

pub loop-region-preserved : goal.loop-region-preserved
loop-region-preserved c =
    let d : Data = c.args.cells.model.now.facts in
    let form = c.args.cells.form in
    let param : ℕ = c.args.cells.param in
    let r : ℕ = c.loop-region.region in
    ranged_next (cells_text form d param) (cells_joined form d param) (nonzero_positions d c.args.ratio) r c.count-region-end.result c.loop-region.lines c.push_region.new.lines _ c.loop-region-test.true c.loop-region.invariant
    (c.in_ok-push_region.ensures ∙ ap (λ is. c.loop-region.lines ++ cells_text form d param (map (positions_of r) is)) (c.as_slice.ensures.value ∙ c.in_ok-indices.ensures))
