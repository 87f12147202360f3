use Rattle.row_book.proofs.Common.{◌≡◌, ◌≤◌, ◌<◌, ◌+◌, ◌-◌, subst, arith, flat_map, range_with_len, instances_of, places_of, AddsRows}
use Rattle.row_book.proofs.RowsAddedLaws.{adds-nothing, range-adds, range-stops}
use Rattle.row_book.proofs.made_rows.MadeRows.add_equations.Goals as goal

pub loop-eq-init : goal.loop-eq-init
loop-eq-init c = (omega arith, adds-nothing (places_of c.args.factors.now) c.args.model.now.facts c.args.self.now)

pub returns-in-Err-clause-stopped : goal.returns-in-Err-clause-stopped
returns-in-Err-clause-stopped c =
    let inside : c.loop-eq.eq < 1 + 64 = omega (arith, c.loop-eq-test.true) in
    range-stops (places_of c.args.factors.now) c.args.model.now.facts (instances_of c.args.model.now.facts) 1 64 c.loop-eq.eq c.args.self.now c.loop-eq.self c.in-Err.fail
    c.loop-eq.invariant.0 inside c.loop-eq.invariant.1 c.in-Err.ensures.stopped

pub loop-eq-preserved : goal.loop-eq-preserved
loop-eq-preserved c =
    let low : 1 ≤ c.loop-eq.eq = c.loop-eq.invariant.0 in (
      omega (arith, low),
      range-adds (places_of c.args.factors.now) c.args.model.now.facts (instances_of c.args.model.now.facts) 1 c.loop-eq.eq c.args.self.now c.loop-eq.self c.add_equation.new.self low c.loop-eq.invariant.1 c.in-Ok.ensures.added,
    )

pub returns-clause-added : goal.returns-clause-added
returns-clause-added c =
    let all : c.loop-eq.eq - 1 ≡ 64 = omega arith in
    subst (λ n. AddsRows (places_of c.args.factors.now) c.args.model.now.facts (flat_map (instances_of c.args.model.now.facts) (range_with_len 1 n)) c.args.self.now c.loop-eq.self) all c.loop-eq.invariant.1
