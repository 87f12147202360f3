-- One fuel after another.
use Rattle.limit_rows.proofs.Common.{ℕ, ◌+◌, ◌<◌, List, sym, ap, ◌∙◌, subst, fuel, Var, Amount, count_of, renewable_production, with_rest_of, nested-step}
use Rattle.limit_rows.proofs.renewable_target.re2.Goals as goal

pub loop-f-preserved : goal.loop-f-preserved
loop-f-preserved c =
    let d = c.args.model.now.facts in
    let f : ℕ → List (Var × Amount) = λ i. renewable_production d c.args.name.index.region i c.args.name.index.year in
    let n = count_of d fuel in
    let i = c.loop-f.f in (
      c.loop-f.invariant.0,
      c.loop-f.invariant.1
          ∙ nested-step f n i c.loop-f.left (subst (λ k. i < k) c.loop-f.invariant.0 c.loop-f-test.true)
          ∙ ap (with_rest_of f n (i + 1)) (sym c.in_ok-subtract_renewable_production.ensures),
    )
