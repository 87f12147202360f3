-- Each end is that of what is left.
use Rattle.simplex_core.proofs.Common.{◌≡◌, ◌≢◌, ℕ, suc, ◌+◌, ◌-◌, ◌≤◌, sym, ap, ◌∙◌, subst, arith, err_from_is_err_and, all_fit, first_state, LinearProgram, program_of, State, after, step_of, Ended, answer, IsReached, IsReached-after, IsReached-first, answer-due, answer-no_column, answer-no_row, answer-pivot, answer-wide, IsSecond, IsRanOut, state_seen}
use Rattle.simplex_core.specs.Begun.{IsBegun}
use Rattle.simplex_core.proofs.KeptReachedLaws.{advanced-IsReached}
use Rattle.simplex_core.proofs.StepLaws.{IsRanOut-from, degenerate-bound, reached-IsMove}
use Rattle.simplex_core.proofs.running.run.Goals as goal

pub returns-in_err-begun-clause-stopped : goal.returns-in_err-begun-clause-stopped
returns-in_err-begun-clause-stopped c =
    let q = err_from_is_err_and c.from_residual.result c.from_residual.ensures.1 in
    rw (q.1, q.2) (subst (IsRanOut (answer c.args.pivots (first_state (program_of c.args.reduced.now)))) (sym c.in_err-begun.ensures.memory) tt)

pub returns-in-Over-clause-answered : goal.returns-in-Over-clause-answered
returns-in-Over-clause-answered c = subst (IsBegun c.args.pivots (first_state (program_of c.args.reduced.now))) c.in-Over.is c.in_ok-begun.ensures.begun

pub rounds-init : goal.rounds-init
rounds-init c =
    let p : LinearProgram = program_of c.args.reduced.now in
    let s : State = state_seen c.in-Rounds.progress in
    let w : IsSecond c.args.pivots (first_state p) s = subst (IsBegun c.args.pivots (first_state p)) c.in-Rounds.is c.in_ok-begun.ensures.begun in
    let made : c.pivots-made.result ≡ s.pivots = c.pivots-made.ensures in
    let whole : c.args.pivots ≡ c.args.pivots - 0 = omega arith in
    record {
      agrees = ap (λ n. answer n (first_state p)) whole ∙ w.agrees ∙ ap (λ n. answer (c.args.pivots - n) s) (sym made);
      reached = subst (IsReached p) (sym w.reached) (advanced-IsReached p (s.pivots - 0) (first_state p) c.requires.own_positive (IsReached-first p c.requires.own_positive));
      counted = sym made;
      degenerate = omega (arith, made, w.few);
      within = omega (arith, made, w.within);
    }

pub returns-in-NoColumn-clause-answered : goal.returns-in-NoColumn-clause-answered
returns-in-NoColumn-clause-answered c =
    let s : State = state_seen c.rounds.last in
    c.rounds.invariant.agrees
    ∙ answer-no_column (c.args.pivots - c.rounds.made) s (sym c.in-NoColumn.ensures)
    ∙ ap (λ e. Ended e s) (sym c.no_column-finish.ensures)

pub returns-in-NoRow-clause-answered : goal.returns-in-NoRow-clause-answered
returns-in-NoRow-clause-answered c =
    c.rounds.invariant.agrees ∙ answer-no_row (c.args.pivots - c.rounds.made) (state_seen c.rounds.last) c.in-NoRow.column (sym c.in-NoRow.ensures)

pub returns-then-made-pivots-clause-answered : goal.returns-then-made-pivots-clause-answered
returns-then-made-pivots-clause-answered c =
    let s : State = state_seen c.rounds.last in
    let none : c.args.pivots - c.rounds.made ≡ 0 = omega (arith, c.if-made-pivots.true) in
    c.rounds.invariant.agrees ∙ ap (λ n. answer n s) none ∙ answer-due s c.in-Pivot.row c.in-Pivot.column (sym c.in-Pivot.ensures)

pub after-requires-clause-movable : goal.after-requires-clause-movable
after-requires-clause-movable c =
    reached-IsMove (program_of c.args.reduced.now) (state_seen c.rounds.last) c.in-Pivot.row c.in-Pivot.column c.requires.own_positive c.rounds.invariant.reached (sym c.in-Pivot.ensures)

pub returns-in_err-last-in-Pivot-clause-stopped : goal.returns-in_err-last-in-Pivot-clause-stopped
returns-in_err-last-in-Pivot-clause-stopped c =
    let p : LinearProgram = program_of c.args.reduced.now in
    let s : State = state_seen c.rounds.last in
    let row = c.in-Pivot.row in
    let column = c.in-Pivot.column in
    let more : c.rounds.made ≢ c.args.pivots = c.if-made-pivots.false in
    let n : ℕ = c.args.pivots - (c.rounds.made + 1) in
    let within : c.rounds.made ≤ c.args.pivots = c.rounds.invariant.within in
    let left : c.args.pivots - c.rounds.made ≡ suc n = omega arith in
    let stop = IsRanOut-from (answer c.args.pivots (first_state p)) (step_of s row column).place (all_fit (step_of s row column).formed) c.in_err-last-in-Pivot.field-0.0
    (λ w. c.rounds.invariant.agrees ∙ ap (λ k. answer k s) left ∙ answer-wide n s row column (sym c.in-Pivot.ensures) w)
    c.in_err-last-in-Pivot.ensures.stopped in
    let q = err_from_is_err_and c.from_residual-in_err-last-in-Pivot.result c.from_residual-in_err-last-in-Pivot.ensures.1 in
    rw (q.1, q.2) stop

pub rounds-preserved : goal.rounds-preserved
rounds-preserved c =
    let p : LinearProgram = program_of c.args.reduced.now in
    let s : State = state_seen c.rounds.last in
    let row = c.in-Pivot.row in
    let column = c.in-Pivot.column in
    let more : c.rounds.made ≢ c.args.pivots = c.if-made-pivots.false in
    let n : ℕ = c.args.pivots - (c.rounds.made + 1) in
    let within : c.rounds.made ≤ c.args.pivots = c.rounds.invariant.within in
    let left : c.args.pivots - c.rounds.made ≡ suc n = omega arith in
    let value : state_seen c.in_ok-last-in-Pivot.last ≡ after s row column = c.in_ok-last-in-Pivot.ensures.value in
    record {
      agrees =
          c.rounds.invariant.agrees
          ∙ ap (λ k. answer k s) left
          ∙ answer-pivot n s row column (sym c.in-Pivot.ensures) c.in_ok-last-in-Pivot.ensures.fits
          ∙ ap (answer n) (sym value);
      reached = subst (IsReached p) (sym value) (IsReached-after p s row column c.requires.own_positive (sym c.in-Pivot.ensures) c.rounds.invariant.reached);
      counted = omega (arith, ap (λ (u : State). u.pivots) value, c.rounds.invariant.counted);
      degenerate = omega (arith, ap (λ (u : State). u.degenerate) value, degenerate-bound s row, c.rounds.invariant.degenerate);
      within = omega arith;
    }
