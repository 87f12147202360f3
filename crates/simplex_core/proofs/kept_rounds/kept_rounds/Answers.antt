-- Each end is that of what is left.
use Rattle.simplex_core.proofs.Common.{◌≡◌, ℕ, suc, ◌-◌, ◌<◌, refl, sym, ap, ◌∙◌, subst, arith, add-one, length-set, Tableau, rows_of, pivoted, without_x0, State, Counted, pivoted_once, swapped, IsNowhere, IsKept, shown_state, kept_state, second_phase, x0_in, IsOnWay, IsSecond}
use Rattle.std.specs.Prelude.{if◌then◌else◌}
use Rattle.simplex_core.specs.declared.running.Finish.TheVariants as finishes
use Rattle.simplex_core.proofs.KeptRoundLaws.{due-at, left-IsNowhere}
use Rattle.simplex_core.proofs.KeptWayLaws.{way-start, way-next, way-left, way-infeasible, way-due, IsKeptEnd-last}
use Rattle.simplex_core.proofs.kept_rounds.kept_rounds.Goals as goal
use Rattle.simplex_core.proofs.kept_rounds.kept_rounds.Goals.{then-flat, else-flat}

-- the state after the first pivot
abbrev start : (t : Tableau) (home : ℕ) → State
start t home = shown_state (kept_state t home (x0_in t) 1 0)

moved : (t : Tableau) (h d : ℕ) → d ≡ x0_in t → IsKept h (x0_in t) t → IsKept h d t
moved t h d e w = subst (λ k. IsKept h k t) (sym e) w

pub loop-made-init : goal.loop-made-init
loop-made-init c = record {
  way = way-start c.args.pivots (shown_state (kept_state c.args.tableau.tableau c.args.home (x0_in c.args.tableau.tableau) 1 0)) c.args.home c.args.tableau.tableau c.requires.kept refl;
  x0_is = ap (λ n. n - 1) c.columns-x0.ensures.count;
  counted = omega (arith, c.requires.none);
}

pub next_due-requires-clause-kept : goal.next_due-requires-clause-kept
next_due-requires-clause-kept c = moved c.loop-made.tableau.tableau c.args.home (c.columns-x0.result - 1) c.loop-made.invariant.x0_is c.loop-made.invariant.way.kept

pub over-requires-clause-kept : goal.over-requires-clause-kept
over-requires-clause-kept c = moved c.loop-made.tableau.tableau c.args.home (c.columns-x0.result - 1) c.loop-made.invariant.x0_is c.loop-made.invariant.way.kept

pub returns-in-NoColumn : goal.returns-in-NoColumn
returns-in-NoColumn c =
    let s : State = start c.args.tableau.tableau c.args.home in
    let t : Counted = c.loop-made.tableau in
    IsKeptEnd-last c.args.pivots s c.args.home t c.loop-made.made c.loop-made.degenerate finishes.Infeasible c.over.result c.loop-made.invariant.counted (omega arith)
    (way-infeasible c.args.pivots s c.args.home t.tableau c.loop-made.made c.loop-made.degenerate c.loop-made.invariant.way c.in-NoColumn.ensures) c.over.ensures

pub pivot-requires-clause-row : goal.pivot-requires-clause-row
pivot-requires-clause-row c = c.loop-made.invariant.way.kept.home_row

pub pivot-requires-clause-positive : goal.pivot-requires-clause-positive
pivot-requires-clause-positive c =
    let t : Tableau = c.loop-made.tableau.tableau in
    (due-at t c.args.home (x0_in t) c.in-Pivot.row c.in-Pivot.column c.loop-made.degenerate c.loop-made.invariant.way.kept c.in-Pivot.ensures.0).positive

pub without_x0-requires-clause-not_basic : goal.without_x0-requires-clause-not_basic
without_x0-requires-clause-not_basic c =
    let t : Tableau = c.loop-made.tableau.tableau in
    let is : c.in-Ok.next ≡ pivoted_once c.args.home c.in-Pivot.column c.loop-made.tableau = c.in-Ok.ensures.value in
    subst (λ (u : Counted). IsNowhere (u.tableau.columns - 1) u.tableau.basics) (sym is) (left-IsNowhere t c.args.home (x0_in t) c.in-Pivot.row c.in-Pivot.column c.loop-made.degenerate c.loop-made.invariant.way.kept c.in-Pivot.ensures.0)

pub returns-then-row-home : goal.returns-then-row-home
returns-then-row-home c =
    let s : State = start c.args.tableau.tableau c.args.home in
    let t : Counted = c.loop-made.tableau in
    let made = c.loop-made.made in
    let left : made < c.args.pivots = omega arith in
    let more : c.if-flat.degenerate ≡ (if c.in-Pivot.flat then suc c.loop-made.degenerate else 0) = elim c.if-flat.branch [
      | then-flat w ↦ w.degenerate-is ∙ add-one c.loop-made.degenerate ∙ ap (λ b. if b then suc c.loop-made.degenerate else 0) (sym w.if-flat.true)
      | else-flat w ↦ w.degenerate-is ∙ ap (λ b. if b then suc c.loop-made.degenerate else 0) (sym w.if-flat.false)
    ] in
    let is : c.counted.result.tableau ≡ without_x0 (pivoted c.args.home c.in-Pivot.column t.tableau) =
    ap (λ (u : Counted). u.tableau) c.counted.ensures ∙ ap (λ (u : Counted). u.tableau) c.without_x0.ensures.value ∙ ap (λ (u : Counted). without_x0 u.tableau) c.in-Ok.ensures.value in
    let pivots : c.counted.result.pivots ≡ suc made =
    ap (λ (u : Counted). u.pivots) c.counted.ensures ∙ ap (λ (u : Counted). suc u.pivots) c.without_x0.ensures.value ∙ ap (λ (u : Counted). suc u.pivots) c.in-Ok.ensures.value ∙ ap suc c.loop-made.invariant.counted in
    subst (λ n. IsSecond c.args.pivots s (second_phase c.counted.result.tableau n c.if-flat.degenerate)) (sym pivots)
    (way-left c.args.pivots s c.args.home t.tableau made c.loop-made.degenerate c.in-Pivot.row c.in-Pivot.column c.in-Pivot.flat c.counted.result.tableau c.if-flat.degenerate c.loop-made.invariant.way c.in-Pivot.ensures.0 c.if-row-home.true c.in-Pivot.ensures.3 left c.in-Pivot.ensures.2 is more)

pub loop-made-preserved : goal.loop-made-preserved
loop-made-preserved c =
    let s : State = start c.args.tableau.tableau c.args.home in
    let t : Counted = c.loop-made.tableau in
    let made = c.loop-made.made in
    let left : made < c.args.pivots = omega arith in
    let more : c.if-flat.degenerate ≡ (if c.in-Pivot.flat then suc c.loop-made.degenerate else 0) = elim c.if-flat.branch [
      | then-flat w ↦ w.degenerate-is ∙ add-one c.loop-made.degenerate ∙ ap (λ b. if b then suc c.loop-made.degenerate else 0) (sym w.if-flat.true)
      | else-flat w ↦ w.degenerate-is ∙ ap (λ b. if b then suc c.loop-made.degenerate else 0) (sym w.if-flat.false)
    ] in
    let is : c.swapped-tableau.result.tableau ≡ swapped c.args.home c.in-Pivot.row (pivoted c.args.home c.in-Pivot.column t.tableau) =
    ap (λ (u : Counted). u.tableau) c.swapped-tableau.ensures ∙ ap (λ (u : Counted). swapped c.args.home c.in-Pivot.row u.tableau) c.in-Ok.ensures.value in
    let pivots : suc c.swapped-tableau.result.pivots ≡ suc made =
    ap (λ (u : Counted). suc u.pivots) c.swapped-tableau.ensures ∙ ap (λ (u : Counted). suc u.pivots) c.in-Ok.ensures.value ∙ ap suc c.loop-made.invariant.counted in
    let columns : x0_in c.swapped-tableau.result.tableau ≡ x0_in t.tableau = ap x0_in is in
    record {
      way = subst (λ n. IsOnWay c.args.pivots s c.args.home c.swapped-tableau.result.tableau n c.if-flat.degenerate) (sym (add-one made))
          (way-next c.args.pivots s c.args.home t.tableau made c.loop-made.degenerate c.in-Pivot.row c.in-Pivot.column c.in-Pivot.flat c.swapped-tableau.result.tableau c.if-flat.degenerate c.loop-made.invariant.way c.in-Pivot.ensures.0 c.if-row-home.false c.in-Pivot.ensures.3 left c.in-Pivot.ensures.2 is more);
      x0_is = c.loop-made.invariant.x0_is ∙ sym columns;
      counted = pivots ∙ sym (add-one made);
    }

pub swapped-tableau-requires-clause-row : goal.swapped-tableau-requires-clause-row
swapped-tableau-requires-clause-row c =
    let t : Tableau = c.loop-made.tableau.tableau in
    let is : c.in-Ok.next ≡ pivoted_once c.args.home c.in-Pivot.column c.loop-made.tableau = c.in-Ok.ensures.value in
    let row : c.in-Pivot.row < rows_of t = (due-at t c.args.home (x0_in t) c.in-Pivot.row c.in-Pivot.column c.loop-made.degenerate c.loop-made.invariant.way.kept c.in-Pivot.ensures.0).row in
    omega (arith, row, ap (λ (u : Counted). rows_of u.tableau) is, length-set t.basics c.args.home c.in-Pivot.column)

pub returns-in-NoColumn-next_due : goal.returns-in-NoColumn-next_due
returns-in-NoColumn-next_due c =
    let s : State = start c.args.tableau.tableau c.args.home in
    let t : Counted = c.loop-made.tableau in
    IsKeptEnd-last c.args.pivots s c.args.home t c.loop-made.made c.loop-made.degenerate finishes.Infeasible c.over-in-NoColumn-next_due.result c.loop-made.invariant.counted (omega arith)
    (way-infeasible c.args.pivots s c.args.home t.tableau c.loop-made.made c.loop-made.degenerate c.loop-made.invariant.way c.in-NoColumn-next_due.ensures) c.over-in-NoColumn-next_due.ensures

pub returns-in-Pivot-next_due : goal.returns-in-Pivot-next_due
returns-in-Pivot-next_due c =
    let s : State = start c.args.tableau.tableau c.args.home in
    let t : Counted = c.loop-made.tableau in
    IsKeptEnd-last c.args.pivots s c.args.home t c.loop-made.made c.loop-made.degenerate finishes.PivotDue c.over-in-Pivot-next_due.result c.loop-made.invariant.counted (omega arith)
    (way-due c.args.pivots s c.args.home t.tableau c.loop-made.made c.loop-made.degenerate c.in-Pivot-next_due.field-0 c.in-Pivot-next_due.field-1 c.loop-made.invariant.way c.in-Pivot-next_due.ensures.0 (omega arith)) c.over-in-Pivot-next_due.ensures
