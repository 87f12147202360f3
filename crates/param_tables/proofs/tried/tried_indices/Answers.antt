use Rattle.param_tables.proofs.Common.{◌≡◌, ◌≤◌, ◌≢◌, ◌+◌, ℕ, [], ◌∷◌, ◌++◌, length, map, take, sym, ap, ◌∙◌, arith, length-append, take_all, filter, range_with_len, Data, is_nonzero_in, nonzero_indices, index_at_offset, ratio_sizes, region_size, RatioSizes, ActivityRatio}
use Rattle.param_tables.proofs.AscendingLaws.{mapped_first, mapped_kept, mapped_left}
use Rattle.param_tables.proofs.RangeLists.{indices_by_place}
use Rattle.param_tables.proofs.tried.tried_indices.Goals as goal
use Rattle.param_tables.proofs.tried.tried_indices.Goals.{then-is_ratio_nonzero+in_ok-push, else-is_ratio_nonzero}

-- the indices that are tried are those of the region
all-tried : (d : Data) (ratio : ActivityRatio) (r : ℕ) (s : RatioSizes) → s ≡ ratio_sizes d.sets ratio
    → filter (is_nonzero_in d ratio r) (map (index_at_offset s) (range_with_len 0 (region_size s))) ≡ nonzero_indices d ratio r
all-tried d ratio r s is =
    ap (λ (sizes : RatioSizes). filter (is_nonzero_in d ratio r) (map (index_at_offset sizes) (range_with_len 0 (region_size sizes)))) is
    ∙ ap (filter (is_nonzero_in d ratio r)) (sym (indices_by_place d.sets ratio))

pub loop-offset-preserved : goal.loop-offset-preserved
loop-offset-preserved c =
    let s = c.new-sizes.result in
    let offset = c.loop-offset.offset in
    let so_far = c.loop-offset.indices.items in
    let test = is_nonzero_in c.args.model.now.facts c.args.ratio c.args.region in
    let index : c.index_at-index.result ≡ index_at_offset s offset = c.index_at-index.ensures.index in
    let tested : test (index_at_offset s offset) ≡ c.is_ratio_nonzero.result = ap test (sym index) ∙ sym c.is_ratio_nonzero.ensures in
    let fewer : length so_far ≢ c.args.most = λ full. c.if-len-most.false (c.len.ensures ∙ c.loop-offset.indices.ok.0 ∙ full) in
    elim c.if-is_ratio_nonzero.branch [
      | then-is_ratio_nonzero+in_ok-push w ↦
          record {
            found = ap (λ v. v.items) w.indices-is ∙ w.in_ok-push.ensures.items ∙ ap (λ i. so_far ++ i ∷ []) index ∙ mapped_kept test (index_at_offset s) offset so_far (tested ∙ w.if-is_ratio_nonzero.true) c.loop-offset.invariant.found;
            few =
                let more : length c.if-is_ratio_nonzero.indices.items ≡ length so_far + 1 = ap length (ap (λ v. v.items) w.indices-is ∙ w.in_ok-push.ensures.items) ∙ length-append so_far _ in
                omega (arith, more, fewer, c.loop-offset.invariant.few);
          }
      | else-is_ratio_nonzero w ↦
          record {
            found = ap (λ v. v.items) w.indices-is ∙ mapped_left test (index_at_offset s) offset so_far (tested ∙ w.if-is_ratio_nonzero.false) c.loop-offset.invariant.found;
            few = let same = ap (λ v. length v.items) w.indices-is in omega (arith, same, c.loop-offset.invariant.few);
          }
    ]

pub returns-then-len-most : goal.returns-then-len-most
returns-then-len-most c =
    let d = c.args.model.now.facts in
    let s = c.new-sizes.result in
    let so_far = c.loop-offset.indices.items in
    let test = is_nonzero_in d c.args.ratio c.args.region in
    let sizes : s ≡ ratio_sizes d.sets c.args.ratio = c.new-sizes.ensures.sizes ∙ ap (λ sets. ratio_sizes sets c.args.ratio) c.sets.ensures.sets in
    let inside : c.loop-offset.offset ≤ region_size s = omega (arith, c.loop-offset.auto.offset-end, c.region_size-offset-end.ensures.size) in
    let full : length so_far ≡ c.args.most = sym (c.len.ensures ∙ c.loop-offset.indices.ok.0) ∙ c.if-len-most.true in
    mapped_first test (index_at_offset s) c.loop-offset.offset (region_size s) c.args.most so_far inside full c.loop-offset.invariant.found
    ∙ ap (take c.args.most) (all-tried d c.args.ratio c.args.region s sizes)

pub returns : goal.returns
returns c =
    let d = c.args.model.now.facts in
    let s = c.new-sizes.result in
    let so_far = c.loop-offset.indices.items in
    let test = is_nonzero_in d c.args.ratio c.args.region in
    let sizes : s ≡ ratio_sizes d.sets c.args.ratio = c.new-sizes.ensures.sizes ∙ ap (λ sets. ratio_sizes sets c.args.ratio) c.sets.ensures.sets in
    let end : c.loop-offset.offset ≡ region_size s = omega (arith, c.loop-offset-test.false, c.loop-offset.auto.offset-end, c.region_size-offset-end.ensures.size) in
    let all : so_far ≡ nonzero_indices d c.args.ratio c.args.region =
    c.loop-offset.invariant.found ∙ ap (λ (n : ℕ). filter test (map (index_at_offset s) (range_with_len 0 n))) end ∙ all-tried d c.args.ratio c.args.region s sizes in
    sym (take_all c.args.most so_far c.loop-offset.invariant.few) ∙ ap (take c.args.most) all
