-- Both numbers fit, or one of them doesn't.
use Rattle.scaled_decimals.proofs.Common.{◌≡◌, pos, arith, sym, ap, ap₂, ◌∙◌, inl, inr, w128, to_z_pos, back_in_range, lowest, with_sign, above_of, below_of}
use Rattle.scaled_decimals.proofs.FractionLemmas.{fit_both, wide_above, wide_below}
use Rattle.scaled_decimals.proofs.reading.fraction.Goals as goal

pub returns-then-below-ge-CAP : goal.returns-then-below-ge-CAP
returns-then-below-ge-CAP c =
    λ f negative above below.
    elim c.if-below-ge-CAP.either [
      | inl wide ↦ wide_above f.negative (above_of f.form) (below_of f.form) (omega (arith, wide, above))
      | inr wide ↦ wide_below f.negative (above_of f.form) (below_of f.form) (omega (arith, wide.1, below))
    ]

pub returns-else-below-ge-CAP : goal.returns-else-below-ge-CAP
returns-else-below-ge-CAP c =
    λ f negative above below.
    let top : c.args.above ≡ above_of f.form = omega (arith, above) in
    let bottom : c.args.below ≡ below_of f.form = omega (arith, below) in (
      fit_both f.negative (above_of f.form) (below_of f.form) (omega (arith, above)) (omega (arith, below)),
      c.ratio.ensures
          ∙ ap₂ lowest
          (back_in_range c.signed.result c.signed.ensures.range ∙ c.signed.ensures.value ∙ ap₂ with_sign (sym negative) top)
          (to_z_pos w128 c.args.below c.if-below-ge-CAP.false.1 ∙ ap pos bottom),
    )
