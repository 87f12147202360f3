-- Over the smaller denominator it is the same fraction.
use Rattle.param_tables.proofs.Common.{◌≡◌, ℕ, ◌*◌, ◌/◌, ◌%◌, pos, ap, ◌∙◌, arith, to_z, of_z, w128, billion}
use Rattle.exact_num.specs.Range.{InRange}
use Rattle.exact_num.specs.Rational.{lowest}
use Rattle.exact_num.proofs.RangeLaws.{back_in_range}
use Rattle.exact_num.proofs.RationalLaws.{lowest_same}
use Rattle.param_tables.proofs.model_data.narrow_amount.Goals as goal

whole : (v : ℕ) → v % 1000000000 ≡ 0 → lowest (pos (v / 1000000000)) (pos 1) ≡ lowest (pos v) (pos billion)
whole v h =
    let same : v / 1000000000 * 1000000000 ≡ v * 1 = omega (arith, h) in
    lowest_same (pos (v / 1000000000)) (pos 1) (pos v) (pos billion) (λ e. absurd (cc e)) (λ e. absurd (cc e)) (ap pos same)

four_places : (v : ℕ) → v % 100000 ≡ 0 → lowest (pos (v / 100000)) (pos 10000) ≡ lowest (pos v) (pos billion)
four_places v h =
    let same : v / 100000 * 1000000000 ≡ v * 10000 = omega (arith, h) in
    lowest_same (pos (v / 100000)) (pos 10000) (pos v) (pos billion) (λ e. absurd (cc e)) (λ e. absurd (cc e)) (ap pos same)

pub returns-then-billionths-eq0 : goal.returns-then-billionths-eq0
returns-then-billionths-eq0 c =
    let n : ℕ = c.args.billionths / 1000000000 in
    let fits : InRange (pos n) = omega (arith, c.ranges.billionths.fits) in
    c.ratio.ensures
    ∙ ap (λ z. lowest (to_z w128 (of_z w128 z)) (pos 1)) c.from.ensures
    ∙ ap (λ z. lowest z (pos 1)) (back_in_range (pos n) fits)
    ∙ whole c.args.billionths c.if-billionths-eq0.true

pub returns-then-billionths-eq0-2 : goal.returns-then-billionths-eq0-2
returns-then-billionths-eq0-2 c =
    let n : ℕ = c.args.billionths / 100000 in
    let fits : InRange (pos n) = omega (arith, c.ranges.billionths.fits) in
    c.ratio-then-billionths-eq0-2.ensures
    ∙ ap (λ z. lowest (to_z w128 (of_z w128 z)) (pos 10000)) c.from-then-billionths-eq0-2.ensures
    ∙ ap (λ z. lowest z (pos 10000)) (back_in_range (pos n) fits)
    ∙ four_places c.args.billionths c.if-billionths-eq0-2.true
