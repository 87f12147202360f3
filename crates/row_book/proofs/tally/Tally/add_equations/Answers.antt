use Rattle.row_book.proofs.Common.{◌≡◌, ℕ, ◌-◌, ◌<◌, ◌≤◌, subst, arith, places_of, AreTallied}
use Rattle.row_book.proofs.TallyLaws.{tally-more, tally-stops}
use Rattle.row_book.proofs.tally.Tally.add_equations.Goals as goal

pub returns-in-Err-clause-stopped : goal.returns-in-Err-clause-stopped
returns-in-Err-clause-stopped c =
    let inside : c.loop-eq.eq < 65 = omega (arith, c.loop-eq-test.true) in
    tally-stops (places_of c.args.factors.now) c.args.model.now.facts c.loop-eq.eq c.loop-eq.self c.in-Err.fail c.loop-eq.invariant.0 inside c.loop-eq.invariant.1 c.in-Err.ensures.stopped

pub loop-eq-preserved : goal.loop-eq-preserved
loop-eq-preserved c =
    let low : 1 ≤ c.loop-eq.eq = c.loop-eq.invariant.0 in (
      omega (arith, low),
      tally-more (places_of c.args.factors.now) c.args.model.now.facts c.loop-eq.eq c.loop-eq.self c.add_equation.new.self low c.loop-eq.invariant.1 c.in-Ok.ensures.more,
    )

pub returns-clause-tallied : goal.returns-clause-tallied
returns-clause-tallied c =
    let all : c.loop-eq.eq - 1 ≡ 64 = omega arith in
    subst (λ (n : ℕ). AreTallied (places_of c.args.factors.now) c.args.model.now.facts n c.loop-eq.self) all c.loop-eq.invariant.1
