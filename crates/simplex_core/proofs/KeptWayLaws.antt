-- From one state of phase 1 that the kept tableau shows to the next, and to its ends.
use Rattle.simplex_core.proofs.Common.{◌≡◌, ◌≢◌, ℕ, zero, suc, ◌-◌, ◌<◌, ◌≤◌, Bool, true, false, refl, sym, ap, ap₂, ◌∙◌, subst, arith, if◌then◌else◌, is_zero, Tableau, pivoted, without_x0, State, Due, Pivot, NoColumn, NoRow, due, after, Ended, Infeasible, PivotDue, answer, IsKept, KeptState, shown_state, kept_due, Counted, swapped, x0_in, kept_state, rough_of, second_phase, FitsPivot, advanced, KeptEnd, ending_seen, IsSecond, IsOnWay, IsKeptEnd, IsLastEnd}
use Rattle.simplex_core.proofs.StateLaws.{due-kept}
use Rattle.simplex_core.proofs.AnswerLaws.{answer-infeasible, answer-budget}
use Rattle.simplex_core.specs.declared.kept_rounds.KeptEnd.TheVariants as ends
use Rattle.simplex_core.specs.declared.running.Finish.{Finish}
use Rattle.simplex_core.proofs.KeptRoundLaws.{IsNext, round-next, round-left, left-after}

-- ---- states after so many pivots

goes_on : ℕ → State → Due → State
goes_on n s d = elim d [ Pivot r c ↦ advanced n (after s r c) | NoColumn ↦ s | NoRow c ↦ s ]

advanced-suc : (n : ℕ) (s : State) → advanced (suc n) s ≡ goes_on n s (due s)
unfolding advanced goes_on
advanced-suc n s = refl

pub advanced-zero : (s : State) → advanced 0 s ≡ s
unfolding advanced
advanced-zero s = refl

pub stays : (n : ℕ) (s : State) (d : Due) → due s ≡ d → ((r c : ℕ) → d ≢ Pivot r c) → advanced n s ≡ s
unfolding goes_on
stays zero s d e none = advanced-zero s
stays (suc n) s (Pivot r c) e none = absurd (none r c refl)
stays (suc n) s NoColumn e none = advanced-suc n s ∙ ap (goes_on n s) e
stays (suc n) s (NoRow c) e none = advanced-suc n s ∙ ap (goes_on n s) e

-- one pivot more
pub advanced-more : (n : ℕ) (s : State) (r c : ℕ) → due (advanced n s) ≡ Pivot r c → advanced (suc n) s ≡ after (advanced n s) r c
unfolding goes_on
advanced-more zero s r c h =
    let first : due s ≡ Pivot r c = sym (ap due (advanced-zero s)) ∙ h in
    advanced-suc 0 s ∙ ap (goes_on 0 s) first ∙ advanced-zero (after s r c) ∙ ap (λ u. after u r c) (sym (advanced-zero s))
advanced-more (suc n) s r c h = cases (due s) refl (λ t q. advanced-more n t r c q)
  where
    cases : (d : Due) → due s ≡ d → ((t : State) → due (advanced n t) ≡ Pivot r c → advanced (suc n) t ≡ after (advanced n t) r c) → advanced (suc (suc n)) s ≡ after (advanced (suc n) s) r c
    cases (Pivot a b) e rest =
        let here : advanced (suc n) s ≡ advanced n (after s a b) = advanced-suc n s ∙ ap (goes_on n s) e in
        advanced-suc (suc n) s
        ∙ ap (goes_on (suc n) s) e
        ∙ rest (after s a b) (sym (ap due here) ∙ h)
        ∙ ap (λ u. after u r c) (sym here)
    cases NoColumn e rest = absurd (none (sym (ap due (stays (suc n) s NoColumn e (λ a b q. absurd (cc q)))) ∙ h))
      where
        none : due s ≡ Pivot r c → ⊥
        none q = cc (e, q)
    cases (NoRow d) e rest = absurd (none (sym (ap due (stays (suc n) s (NoRow d) e (λ a b q. absurd (cc q)))) ∙ h))
      where
        none : due s ≡ Pivot r c → ⊥
        none q = cc (e, q)

pub advanced-due : (n : ℕ) (s : State) (r c : ℕ) → due s ≡ Pivot r c → advanced (suc n) s ≡ advanced n (after s r c)
unfolding goes_on
advanced-due n s r c d = advanced-suc n s ∙ ap (goes_on n s) d

-- ---- on the way

-- the next state, after a pivot in another row
pub way-next : (pivots : ℕ) (s : State) (h : ℕ) (t : Tableau) (made deg r c : ℕ) (flat : Bool) (next : Tableau) (more : ℕ) → IsOnWay pivots s h t made deg → kept_due (kept_state t h (x0_in t) 0 deg) ≡ Pivot r c → r ≢ h
    → FitsPivot t h (x0_in t) r c → made < pivots → flat ≡ is_zero (rough_of t h (x0_in t) r).right → next ≡ swapped h r (pivoted h c t) → more ≡ (if flat then suc deg else 0) → IsOnWay pivots s h next (suc made) more
way-next pivots s h t made deg r c flat next more w d apart fits left flat_is next_is more_is =
    let n : ℕ = pivots - suc made in
    let count : pivots - made ≡ suc n = omega arith in
    let last : x0_in next ≡ x0_in t = ap x0_in next_is in
    let step : IsNext n t h (x0_in t) r c made deg next more = round-next n t h (x0_in t) r c made deg flat next more w.kept d apart fits flat_is next_is more_is in
    let since : s.pivots ≤ made = w.since in
    record {
      kept = subst (λ e. IsKept h e next) (sym last) step.kept;
      since = omega arith;
      reached =
          ap (λ e. shown_state (kept_state next h e (suc made) more)) last
          ∙ sym step.follows
          ∙ ap (λ u. after u r c) w.reached
          ∙ sym (advanced-more (made - s.pivots) s r c (sym (ap due w.reached) ∙ (due-kept (kept_state t h (x0_in t) made deg) w.kept ∙ d)))
          ∙ ap (λ m. advanced m s) (omega arith);
      agrees =
          w.agrees
          ∙ ap (λ m. answer m (shown_state (kept_state t h (x0_in t) made deg))) count
          ∙ step.agrees
          ∙ ap (λ e. answer n (shown_state (kept_state next h e (suc made) more))) (sym last);
      few = few flat more_is;
    }
  where
    few : (b : Bool) → more ≡ (if b then suc deg else 0) → more ≤ suc made
    few true e = let before : deg ≤ made = w.few in omega (arith, e)
    few false e = omega (arith, e)

-- phase 2 begins, after the pivot in x0's row
pub way-left : (pivots : ℕ) (s : State) (h : ℕ) (t : Tableau) (made deg r c : ℕ) (flat : Bool) (next : Tableau) (more : ℕ) → IsOnWay pivots s h t made deg → kept_due (kept_state t h (x0_in t) 0 deg) ≡ Pivot r c → r ≡ h
    → FitsPivot t h (x0_in t) r c → made < pivots → flat ≡ is_zero (rough_of t h (x0_in t) r).right → next ≡ without_x0 (pivoted h c t) → more ≡ (if flat then suc deg else 0) → IsSecond pivots s (second_phase next (suc made) more)
way-left pivots s h t made deg r c flat next more w d same fits left flat_is next_is more_is =
    let n : ℕ = pivots - suc made in
    let count : pivots - made ≡ suc n = omega arith in
    let since : s.pivots ≤ made = w.since in
    record {
      since = omega arith;
      within = omega arith;
      reached =
          sym (left-after t h (x0_in t) r c made deg flat next more w.kept d same flat_is next_is more_is)
          ∙ ap (λ u. after u r c) w.reached
          ∙ sym (advanced-more (made - s.pivots) s r c (sym (ap due w.reached) ∙ (due-kept (kept_state t h (x0_in t) made deg) w.kept ∙ d)))
          ∙ ap (λ m. advanced m s) (omega arith);
      agrees =
          w.agrees
          ∙ ap (λ m. answer m (shown_state (kept_state t h (x0_in t) made deg))) count
          ∙ round-left n t h (x0_in t) r c made deg flat next more w.kept d same fits flat_is next_is more_is;
      few = few flat more_is;
    }
  where
    few : (b : Bool) → more ≡ (if b then suc deg else 0) → more ≤ suc made
    few true e = let before : deg ≤ made = w.few in omega (arith, e)
    few false e = omega (arith, e)

-- no column can enter
pub way-infeasible : (pivots : ℕ) (s : State) (h : ℕ) (t : Tableau) (made deg : ℕ) → IsOnWay pivots s h t made deg → kept_due (kept_state t h (x0_in t) 0 deg) ≡ NoColumn
    → answer (pivots - s.pivots) s ≡ Ended Infeasible (shown_state (kept_state t h (x0_in t) made deg))
way-infeasible pivots s h t made deg w d = w.agrees ∙ answer-infeasible (pivots - made) (kept_state t h (x0_in t) made deg) w.kept d

-- a pivot is due after the last
pub way-due : (pivots : ℕ) (s : State) (h : ℕ) (t : Tableau) (made deg r c : ℕ) → IsOnWay pivots s h t made deg → kept_due (kept_state t h (x0_in t) 0 deg) ≡ Pivot r c → pivots ≤ made
    → answer (pivots - s.pivots) s ≡ Ended PivotDue (shown_state (kept_state t h (x0_in t) made deg))
way-due pivots s h t made deg r c w d none =
    let k : KeptState = kept_state t h (x0_in t) made deg in
    w.agrees ∙ ap (λ n. answer n (shown_state k)) (omega arith) ∙ answer-budget k r c w.kept d

-- the state at the start
pub way-start : (pivots : ℕ) (s : State) (h : ℕ) (t : Tableau) → IsKept h (x0_in t) t → s ≡ shown_state (kept_state t h (x0_in t) 1 0) → IsOnWay pivots s h t 1 0
way-start pivots s h t w e =
    let one : s.pivots ≡ 1 = ap (λ (u : State). u.pivots) e in
    record {
      kept = w;
      since = omega arith;
      reached = sym e ∙ sym (advanced-zero s) ∙ ap (λ m. advanced m s) (omega arith);
      agrees = ap₂ answer (omega arith) e;
      few = omega arith;
    }

-- the method's end in the state that the kept tableau shows
pub IsKeptEnd-last : (pivots : ℕ) (s : State) (h : ℕ) (t : Counted) (made deg : ℕ) (finish : Finish) (e : KeptEnd) → suc t.pivots ≡ made → made ≤ pivots
    → answer (pivots - s.pivots) s ≡ Ended (ending_seen finish) (shown_state (kept_state t.tableau h (x0_in t.tableau) made deg)) → IsLastEnd t h deg finish e → IsKeptEnd pivots s e
IsKeptEnd-last pivots s h t made deg finish (ends.Second last) m within a w = absurd w
IsKeptEnd-last pivots s h t made deg finish (ends.Over f) m within a w = (
  a
      ∙ ap (λ n. Ended (ending_seen finish) (shown_state (kept_state t.tableau h (x0_in t.tableau) n deg))) (sym m)
      ∙ ap₂ (λ (g : Finish) (u : State). Ended (ending_seen g) u) (sym w.0) (sym w.1),
  omega (arith, ap (λ (u : State). u.pivots) w.1, m, within),
)
IsKeptEnd-last pivots s h t made deg finish ends.Unsure m within a w = tt
IsKeptEnd-last pivots s h t made deg finish ends.Memory m within a w = tt

-- the first state follows itself
pub second-self : (pivots : ℕ) (s : State) → s.pivots ≡ 0 → s.degenerate ≡ 0 → IsSecond pivots s s
second-self pivots s none few = record {
  since = omega arith;
  within = omega arith;
  reached = sym (ap (λ m. advanced m s) (omega arith) ∙ advanced-zero s);
  agrees = refl;
  few = omega arith;
}
