-- One timeslice after another.
use Rattle.std.proofs.Common.{ℕ, ◌+◌, ◌<◌, sym, ap, ap₂, ◌∙◌, subst}
use Rattle.model_sets.specs.Names.{timeslice}
use Rattle.row_core.specs.Amounts.{Amount, Billionths, Product}
use Rattle.row_core.specs.Calculated.{product_of}
use Rattle.row_core.proofs.RepeatedLaws.{total_with_rest, total-begin, total-step}
use Rattle.named_equations.specs.Parameters.{capacity_factor, year_split}
use Rattle.named_equations.specs.Positions.{count_of}
use Rattle.capacity_rows.proofs.capacity.slices_capacity.Goals as goal

pub loop-l-init : goal.loop-l-init
loop-l-init c =
    let d = c.args.model.now.facts in
    let part : ℕ → Amount = λ i. Product (Billionths (capacity_factor d c.args.r c.args.t i c.args.y)) (Billionths (year_split d i c.args.y)) in
    let n = count_of d timeslice in (
      c.count-l-end.ensures.count ∙ ap (λ sets. count_of (record d { sets = sets }) timeslice) c.sets.ensures.sets,
      total-begin part n ∙ ap (total_with_rest part n 0) (sym c.zero-sum.ensures),
    )

pub loop-l-preserved : goal.loop-l-preserved
loop-l-preserved c =
    let d = c.args.model.now.facts in
    let part : ℕ → Amount = λ i. Product (Billionths (capacity_factor d c.args.r c.args.t i c.args.y)) (Billionths (year_split d i c.args.y)) in
    let n = count_of d timeslice in
    let i = c.loop-l.l in (
      c.loop-l.invariant.0,
      c.loop-l.invariant.1
          ∙ total-step part n i _ _ (subst (λ k. i < k) c.loop-l.invariant.0 c.loop-l-test.true)
          (c.times.ensures ∙ ap₂ product_of c.value.ensures c.year_split.ensures.number)
          ∙ ap (total_with_rest part n (i + 1)) (sym c.plus-sum.ensures),
    )
