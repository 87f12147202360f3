-- One timeslice after another.
use Rattle.limit_rows.proofs.Common.{ℕ, ◌+◌, ◌<◌, List, sym, ap, ◌∙◌, subst, timeslice, Var, Amount, count_of, target_production, with_rest_of, nested-step}
use Rattle.limit_rows.proofs.renewable_target.re3.Goals as goal

pub loop-l-preserved : goal.loop-l-preserved
loop-l-preserved c =
    let d = c.args.model.now.facts in
    let f : ℕ → List (Var × Amount) = λ i. target_production d c.args.name.index.region i c.args.name.index.year in
    let n = count_of d timeslice in
    let i = c.loop-l.l in (
      c.loop-l.invariant.0,
      c.loop-l.invariant.1
          ∙ nested-step f n i c.loop-l.left (subst (λ k. i < k) c.loop-l.invariant.0 c.loop-l-test.true)
          ∙ ap (with_rest_of f n (i + 1)) (sym c.in_ok-subtract_target_production.ensures),
    )
