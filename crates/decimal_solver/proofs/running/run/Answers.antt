-- Each end is that of what is left.
use Rattle.row_problem.proofs.Common.{◌≡◌, ◌<◌, ◌-◌, ◌+◌, ◌≤◌, suc, ℕ, refl, sym, ◌∙◌, arith, err_from_is_err_and}
use Rattle.decimal_solver.proofs.Words.{after, run, State, state_seen}
use Rattle.decimal_solver.proofs.Nothing.{nothing-later}
use Rattle.decimal_solver.proofs.RunLaws.{run-optimal, run-stuck}
use Rattle.decimal_solver.proofs.running.run.Goals as goal

pub returns-in-Optimal-clause-value : goal.returns-in-Optimal-clause-value
returns-in-Optimal-clause-value c =
    c.rounds.invariant.same ∙ run-optimal (c.args.pivots - c.rounds.state.pivots) (state_seen c.rounds.state) (sym c.in-Optimal.ensures)

pub returns-in-Stuck-clause-nothing : goal.returns-in-Stuck-clause-nothing
returns-in-Stuck-clause-nothing c =
    c.rounds.invariant.same ∙ run-stuck (c.args.pivots - c.rounds.state.pivots) (state_seen c.rounds.state) (sym c.in-Stuck.ensures)

pub returns-then-state-pivots-clause-nothing : goal.returns-then-state-pivots-clause-nothing
unfolding run
returns-then-state-pivots-clause-nothing c =
    let none : c.args.pivots - c.rounds.state.pivots ≡ 0 = omega (arith, c.if-state-pivots.true) in
    rw (c.rounds.invariant.same, none, sym c.in-Pivot.ensures) refl

pub returns-in_err-state-in-Pivot-clause-nothing : goal.returns-in_err-state-in-Pivot-clause-nothing
unfolding run
returns-in_err-state-in-Pivot-clause-nothing c =
    let s : State = state_seen c.rounds.state in
    let row = c.in-Pivot.row in
    let column = c.in-Pivot.column in
    let more : c.rounds.state.pivots < c.args.pivots = omega (arith, c.if-state-pivots.false) in
    let n : ℕ = c.args.pivots - (c.rounds.state.pivots + 1) in
    let left : c.args.pivots - c.rounds.state.pivots ≡ suc n = omega arith in
    let q = err_from_is_err_and c.from_residual.result c.from_residual.ensures.1 in
    rw (q.1, q.2)
    (nothing-later (after s row column) (run c.args.pivots (state_seen c.args.first)) c.in_err-state-in-Pivot.field-0.0
    (λ h. rw (c.rounds.invariant.same, left, sym c.in-Pivot.ensures, h) refl) c.in_err-state-in-Pivot.ensures.nothing)

pub rounds-preserved : goal.rounds-preserved
unfolding run
rounds-preserved c =
    let s : State = state_seen c.rounds.state in
    let row = c.in-Pivot.row in
    let column = c.in-Pivot.column in
    let next = c.in_ok-state-in-Pivot.state in
    let more : c.rounds.state.pivots < c.args.pivots = omega (arith, c.if-state-pivots.false) in
    let n : ℕ = c.args.pivots - (c.rounds.state.pivots + 1) in
    let left : c.args.pivots - c.rounds.state.pivots ≡ suc n = omega arith in
    let made : next.pivots ≡ c.rounds.state.pivots + 1 = c.in_ok-state-in-Pivot.ensures.made in
    let few : next.degenerate ≤ next.pivots = c.in_ok-state-in-Pivot.ensures.few in
    let after_is : c.args.pivots - next.pivots ≡ n = omega arith in
    record {
      same = rw (c.rounds.invariant.same, left, sym c.in-Pivot.ensures, c.in_ok-state-in-Pivot.ensures.value, after_is) refl;
      made = omega arith;
      few = few;
      counted = c.in_ok-state-in-Pivot.ensures.counted ∙ c.rounds.invariant.counted;
      slack = c.in_ok-state-in-Pivot.ensures.slack ∙ c.rounds.invariant.slack;
    }
