-- Every state of a run is reached: what holds of the first state holds, phase by phase, of each later one.
use Rattle.written_method.proofs.Common.{◌≡◌, ◌≢◌, ℕ, zero, suc, ◌+◌, ◌-◌, ◌<◌, pos, Bool, true, false, Option, Some, None, ◌∷◌, length, arith, refl, sym, ap, ◌∙◌, subst, inl, inr, if◌then◌else◌, ◌<ℤ◌, ◌≤ℤ◌, ◌==◌, nat_tests, ints, first_wide, Place, MayLeave, least_right_from, rank_of, width_of, any_negative, tableau_with, first_state, Line, entry_of, LinearProgram, State, Phase, Start, One, Two, Due, Pivot, NoColumn, NoRow, right_sides, due, after, step_of, End, Optimal, Infeasible, Unbounded, PivotDue, Run, Answer, Ended, RanOut, ended, no_column, run, answer_of, answer, Tableau, line_of, basic_of, rows_of, pivoted, negated, without_x0}
use Rattle.written_method.proofs.BegunLaws.{begun, IsLowestRow, prepared-is, begun-IsReachedFrom, begun-HasArtificial, lowest-IsLowestRow, IsReachedFrom-first}
use Rattle.written_method.proofs.ChosenLaws.{due-start, due-one, due-two, deciding-one, x0-one, IsRound, round-IsRound, IsRound-MayLeave, IsStuck, round-NoRow}
use Rattle.written_method.proofs.LeavingLaws.{Leads}
use Rattle.written_method.proofs.PhaseLaws.{IsReachedFrom, IsReachedFrom-pivoted, HasArtificial, HasArtificial-pivoted, artificial-entry}
use Rattle.written_method.proofs.PivotLaws.{same_or_not}
use Rattle.written_method.proofs.SecondPhaseLaws.{IsReachedFrom-dropped}

-- what holds of the states of a run, by their phases
pub record IsReached (p : LinearProgram) (s : State) : Type 0 where
  pub start : s.phase ≡ Start → (s.tableau ≡ tableau_with p true) × (any_negative p.rows ≡ true)
  pub one : s.phase ≡ One → IsReachedFrom p true s.tableau × HasArtificial p s.tableau
  pub two : s.phase ≡ Two → IsReachedFrom p false s.tableau

pub IsReached-first : (p : LinearProgram) → pos 0 <ℤ p.cost_own → IsReached p (first_state p)
IsReached-first p positive = pick (any_negative p.rows) refl
  where
    pick : (b : Bool) → any_negative p.rows ≡ b → IsReached p (record { tableau = tableau_with p (any_negative p.rows); phase = if any_negative p.rows then Start else Two; pivots = 0; degenerate = 0 })
    pick b e = subst (λ c. IsReached p (record { tableau = tableau_with p c; phase = if c then Start else Two; pivots = 0; degenerate = 0 })) (sym e) (by_test b e)
      where
        by_test : (b : Bool) → any_negative p.rows ≡ b → IsReached p (record { tableau = tableau_with p b; phase = if b then Start else Two; pivots = 0; degenerate = 0 })
        by_test true e = record { start = λ h. (refl, e); one = λ h. absurd (cc h); two = λ h. absurd (cc h) }
        by_test false e = record { start = λ h. absurd (cc h); one = λ h. absurd (cc h); two = λ h. IsReachedFrom-first p positive e }

-- ---- the state after a pivot

in_phase : State → Phase → State
in_phase s phase = record { tableau = s.tableau; phase = phase; pivots = s.pivots; degenerate = s.degenerate }

pub tableau-start : (s : State) (r c : ℕ) → s.phase ≡ Start → (after s r c).tableau ≡ pivoted r c (negated r s.tableau)
unfolding in_phase
tableau-start s r c h = ap (λ p. (after (in_phase s p) r c).tableau) h

pub phase-start : (s : State) (r c : ℕ) → s.phase ≡ Start → (after s r c).phase ≡ One
unfolding in_phase
phase-start s r c h = ap (λ p. (after (in_phase s p) r c).phase) h

eq_yes : (a b : ℕ) → a ≡ b → (a == b) ≡ true
eq_yes a b h = grind (arith, nat_tests)

eq_no : (a b : ℕ) → a ≢ b → (a == b) ≡ false
eq_no a b h = grind (arith, nat_tests)

pub tableau-stays : (s : State) (r c : ℕ) → s.phase ≡ One → basic_of s.tableau r ≢ s.tableau.columns - 1 → (after s r c).tableau ≡ pivoted r c s.tableau
unfolding in_phase
tableau-stays s r c h n =
    ap (λ p. (after (in_phase s p) r c).tableau) h
    ∙ ap (λ b. if b then without_x0 (pivoted r c s.tableau) else pivoted r c s.tableau) (eq_no (basic_of s.tableau r) (s.tableau.columns - 1) n)

pub phase-stays : (s : State) (r c : ℕ) → s.phase ≡ One → basic_of s.tableau r ≢ s.tableau.columns - 1 → (after s r c).phase ≡ One
unfolding in_phase
phase-stays s r c h n =
    ap (λ p. (after (in_phase s p) r c).phase) h ∙ ap (λ b. if b then Two else One) (eq_no (basic_of s.tableau r) (s.tableau.columns - 1) n)

pub tableau-leaves : (s : State) (r c : ℕ) → s.phase ≡ One → basic_of s.tableau r ≡ s.tableau.columns - 1 → (after s r c).tableau ≡ without_x0 (pivoted r c s.tableau)
unfolding in_phase
tableau-leaves s r c h e =
    ap (λ p. (after (in_phase s p) r c).tableau) h
    ∙ ap (λ b. if b then without_x0 (pivoted r c s.tableau) else pivoted r c s.tableau) (eq_yes (basic_of s.tableau r) (s.tableau.columns - 1) e)

pub phase-leaves : (s : State) (r c : ℕ) → s.phase ≡ One → basic_of s.tableau r ≡ s.tableau.columns - 1 → (after s r c).phase ≡ Two
unfolding in_phase
phase-leaves s r c h e =
    ap (λ p. (after (in_phase s p) r c).phase) h ∙ ap (λ b. if b then Two else One) (eq_yes (basic_of s.tableau r) (s.tableau.columns - 1) e)

pub tableau-two : (s : State) (r c : ℕ) → s.phase ≡ Two → (after s r c).tableau ≡ pivoted r c s.tableau
unfolding in_phase
tableau-two s r c h = ap (λ p. (after (in_phase s p) r c).tableau) h

pub phase-two : (s : State) (r c : ℕ) → s.phase ≡ Two → (after s r c).phase ≡ Two
unfolding in_phase
phase-two s r c h = ap (λ p. (after (in_phase s p) r c).phase) h

in_one : (p : LinearProgram) (s : State) → s.phase ≡ One → IsReachedFrom p true s.tableau → HasArtificial p s.tableau → IsReached p s
in_one p s h u w = record { start = λ e. absurd (cc (h, e)); one = λ e. (u, w); two = λ e. absurd (cc (h, e)) }

in_two : (p : LinearProgram) (s : State) → s.phase ≡ Two → IsReachedFrom p false s.tableau → IsReached p s
in_two p s h u = record { start = λ e. absurd (cc (h, e)); one = λ e. absurd (cc (h, e)); two = λ e. u }

pivot_same : (a b c d : ℕ) → Pivot a b ≡ Pivot c d → (a ≡ c) × (b ≡ d)
pivot_same a b c d h = (cc, cc)

-- the line of w has no entry at x0 while that is basic
pub enters-below : (p : LinearProgram) (t : Tableau) (c : ℕ) → IsReachedFrom p true t → HasArtificial p t → c < t.columns → pos 0 <ℤ entry_of (line_of t (rows_of t + 1)) c → c < t.columns - 1
enters-below p t c u w within enters = elim (same_or_not c (t.columns - 1)) [
  | inl e ↦
      let last : rows_of t + 1 < length t.lines = omega (arith, u.lines, u.rows) in
      let none : entry_of (line_of t (rows_of t + 1)) c ≡ pos 0 = ap (λ d. entry_of (line_of t (rows_of t + 1)) d) (e ∙ sym w.home_basic) ∙ u.basic.others (rows_of t + 1) w.home last w.home_row (λ q. omega (arith, w.home_row)) in
      absurd (omega (arith, ints))
  | inr n ↦ omega arith
]

-- the entry in the line of w is that of the deciding line
pub enters-one : (s : State) (r c : ℕ) → s.phase ≡ One → IsRound s r c → pos 0 <ℤ entry_of (line_of s.tableau (rows_of s.tableau + 1)) c
enters-one s r c h m = subst (λ (l : Line). pos 0 <ℤ entry_of l c) (deciding-one s h) m.entering

reached-start : (p : LinearProgram) (s : State) (r c : ℕ) → pos 0 <ℤ p.cost_own → due s ≡ Pivot r c → IsReached p s → s.phase ≡ Start → IsReached p (after s r c)
reached-start p s r c positive d u h =
    let w = u.start h in
    let same = pivot_same (least_right_from 0 0 (pos 0) (right_sides s.tableau)) (s.tableau.columns - 1) r c (sym (due-start s h) ∙ d) in
    let row : least_right_from 0 0 (pos 0) (right_sides (tableau_with p true)) ≡ r = ap (λ (t : Tableau). least_right_from 0 0 (pos 0) (right_sides t)) (sym w.0) ∙ same.0 in
    let column : width_of p.columns + length p.rows ≡ c = omega (arith, ap (λ (t : Tableau). t.columns) w.0, same.1) in
    let lowest = subst (λ k. IsLowestRow p k) row (lowest-IsLowestRow p w.1) in
    let ready = prepared-is p r positive lowest.row in
    let is : begun p r ≡ (after s r c).tableau = ap (λ k. pivoted r k (negated r (tableau_with p true))) column ∙ ap (λ t. pivoted r c (negated r t)) (sym w.0) ∙ sym (tableau-start s r c h) in
    in_one p (after s r c) (phase-start s r c h) (subst (IsReachedFrom p true) is (begun-IsReachedFrom p r ready lowest)) (subst (HasArtificial p) is (begun-HasArtificial p r ready lowest))

reached-one : (p : LinearProgram) (s : State) (r c : ℕ) → due s ≡ Pivot r c → IsReached p s → s.phase ≡ One → IsReached p (after s r c)
reached-one p s r c d u h =
    let w = u.one h in
    let t : Tableau = s.tableau in
    let m : IsRound s r c = round-IsRound s r c w.0.shaped (sym (due-one s h) ∙ d) in
    let may : MayLeave t r c = IsRound-MayLeave s r c m in
    let enters = enters-one s r c h m in
    let next : IsReachedFrom p true (pivoted r c t) = IsReachedFrom-pivoted p true t r c w.0 may m.column in
    elim (same_or_not (basic_of t r) (t.columns - 1)) [
      | inl e ↦ in_two p (after s r c) (phase-leaves s r c h e)
          (subst (IsReachedFrom p false) (sym (tableau-leaves s r c h e)) (IsReachedFrom-dropped p t r c w.0.shaped w.0.basic m.row (enters-below p t c w.0 w.1 m.column enters) e next))
      | inr n ↦
          let apart : r ≢ w.1.home = λ e. n (ap (λ k. basic_of t k) e ∙ w.1.home_basic) in
          let leads : pos 0 <ℤ entry_of (line_of t w.1.home) c → Leads (line_of t r).right (entry_of (line_of t r) c) (rank_of (Some (t.columns - 1)) (basic_of t r)) (line_of t w.1.home).right (entry_of (line_of t w.1.home) c) (rank_of (Some (t.columns - 1)) (basic_of t w.1.home)) =
          λ positive. subst (λ o. Leads (line_of t r).right (entry_of (line_of t r) c) (rank_of o (basic_of t r)) (line_of t w.1.home).right (entry_of (line_of t w.1.home) c) (rank_of o (basic_of t w.1.home))) (x0-one s h) (m.leads w.1.home w.1.home_row positive) in
          in_one p (after s r c) (phase-stays s r c h n) (subst (IsReachedFrom p true) (sym (tableau-stays s r c h n)) next)
          (subst (HasArtificial p) (sym (tableau-stays s r c h n)) (HasArtificial-pivoted p t r c w.1 w.0 may apart enters leads))
    ]

reached-two : (p : LinearProgram) (s : State) (r c : ℕ) → due s ≡ Pivot r c → IsReached p s → s.phase ≡ Two → IsReached p (after s r c)
reached-two p s r c d u h =
    let w : IsReachedFrom p false s.tableau = u.two h in
    let m : IsRound s r c = round-IsRound s r c w.shaped (sym (due-two s h) ∙ d) in
    in_two p (after s r c) (phase-two s r c h) (subst (IsReachedFrom p false) (sym (tableau-two s r c h)) (IsReachedFrom-pivoted p false s.tableau r c w (IsRound-MayLeave s r c m) m.column))

pub IsReached-after : (p : LinearProgram) (s : State) (r c : ℕ) → pos 0 <ℤ p.cost_own → due s ≡ Pivot r c → IsReached p s → IsReached p (after s r c)
IsReached-after p s r c positive d u = pick s.phase refl
  where
    pick : (phase : Phase) → s.phase ≡ phase → IsReached p (after s r c)
    pick Start h = reached-start p s r c positive d u h
    pick One h = reached-one p s r c d u h
    pick Two h = reached-two p s r c d u h

-- ---- the last state of a run

-- what each pivot keeps holds of the last state of a run
pub run-keeps : (P : State → Type 0) (n : ℕ) (s : State) → ((u : State) (r c : ℕ) → due u ≡ Pivot r c → P u → P (after u r c)) → P s → P (run n s).last
unfolding run
run-keeps P zero s keeps p = pick (due s)
  where
    pick : (d : Due) → P (elim d as (λ _. Run) [ Pivot r c ↦ ended PivotDue s | NoColumn ↦ ended (no_column s.phase) s | NoRow c ↦ ended (Unbounded c) s ]).last
    pick (Pivot r c) = p
    pick NoColumn = p
    pick (NoRow c) = p
run-keeps P (suc n) s keeps p = pick (due s) refl (λ r c d. run-keeps P n (after s r c) keeps (keeps s r c d p))
  where
    pick : (d : Due) → due s ≡ d → ((r c : ℕ) → due s ≡ Pivot r c → P (run n (after s r c)).last) → P (elim d as (λ _. Run) [ Pivot r c ↦ record { steps = step_of s r c ∷ (run n (after s r c)).steps; ending = (run n (after s r c)).ending; last = (run n (after s r c)).last } | NoColumn ↦ ended (no_column s.phase) s | NoRow c ↦ ended (Unbounded c) s ]).last
    pick (Pivot r c) e ih = ih r c e
    pick NoColumn e ih = p
    pick (NoRow c) e ih = p

-- why a run ended: what is due in its last state
abbrev pub IsEnd : End → State → Type 0
IsEnd Optimal s = (due s ≡ NoColumn) × (s.phase ≡ Two)
IsEnd Infeasible s = (due s ≡ NoColumn) × (s.phase ≢ Two)
IsEnd (Unbounded c) s = due s ≡ NoRow c
IsEnd PivotDue s = (r : ℕ) × (c : ℕ) × (due s ≡ Pivot r c)

no_column-IsEnd : (s : State) → due s ≡ NoColumn → IsEnd (no_column s.phase) s
no_column-IsEnd s d = pick s.phase refl
  where
    pick : (phase : Phase) → s.phase ≡ phase → IsEnd (no_column phase) s
    pick Start h = (d, λ e. cc (h, e))
    pick One h = (d, λ e. cc (h, e))
    pick Two h = (d, h)

pub run-IsEnd : (n : ℕ) (s : State) → IsEnd (run n s).ending (run n s).last
unfolding run
run-IsEnd zero s = pick (due s) refl
  where
    pick : (d : Due) → due s ≡ d → IsEnd (elim d as (λ _. Run) [ Pivot r c ↦ ended PivotDue s | NoColumn ↦ ended (no_column s.phase) s | NoRow c ↦ ended (Unbounded c) s ]).ending (elim d as (λ _. Run) [ Pivot r c ↦ ended PivotDue s | NoColumn ↦ ended (no_column s.phase) s | NoRow c ↦ ended (Unbounded c) s ]).last
    pick (Pivot r c) e = (r, c, e)
    pick NoColumn e = no_column-IsEnd s e
    pick (NoRow c) e = e
run-IsEnd (suc n) s = pick (due s) refl (λ r c. run-IsEnd n (after s r c))
  where
    pick : (d : Due) → due s ≡ d → ((r c : ℕ) → IsEnd (run n (after s r c)).ending (run n (after s r c)).last)
        → IsEnd (elim d as (λ _. Run) [ Pivot r c ↦ record { steps = step_of s r c ∷ (run n (after s r c)).steps; ending = (run n (after s r c)).ending; last = (run n (after s r c)).last } | NoColumn ↦ ended (no_column s.phase) s | NoRow c ↦ ended (Unbounded c) s ]).ending
        (elim d as (λ _. Run) [ Pivot r c ↦ record { steps = step_of s r c ∷ (run n (after s r c)).steps; ending = (run n (after s r c)).ending; last = (run n (after s r c)).last } | NoColumn ↦ ended (no_column s.phase) s | NoRow c ↦ ended (Unbounded c) s ]).last
    pick (Pivot r c) e ih = ih r c
    pick NoColumn e ih = no_column-IsEnd s e
    pick (NoRow c) e ih = e

last-of : (n : ℕ) (s u : State) (e : End) → answer n s ≡ Ended e u → ((run n s).last ≡ u) × ((run n s).ending ≡ e)
unfolding answer answer_of
last-of n s u e h = pick (first_wide (run n s).steps) h
  where
    pick : (o : Option Place) → elim o as (λ _. Answer) [ None ↦ Ended (run n s).ending (run n s).last | Some place ↦ RanOut place ] ≡ Ended e u → ((run n s).last ≡ u) × ((run n s).ending ≡ e)
    pick None g = (cc, cc)
    pick (Some k) g = absurd (cc g)

-- the state in which an answer came is reached, and its end is what is due there
pub answer-IsReached : (p : LinearProgram) (n : ℕ) (u : State) (e : End) → pos 0 <ℤ p.cost_own → answer n (first_state p) ≡ Ended e u → IsReached p u × IsEnd e u
answer-IsReached p n u e positive a =
    let w = last-of n (first_state p) u e a in (
      subst (IsReached p) w.0 (run-keeps (IsReached p) n (first_state p) (λ v r c d q. IsReached-after p v r c positive d q) (IsReached-first p positive)),
      subst (λ x. IsEnd x u) w.1 (subst (λ x. IsEnd (run n (first_state p)).ending x) w.0 (run-IsEnd n (first_state p))),
    )

-- ---- the ends

-- in phase 1 some row can leave for each column that can enter
pub never-NoRow : (p : LinearProgram) (s : State) (c : ℕ) → IsReached p s → due s ≡ NoRow c → s.phase ≡ Two
never-NoRow p s c u d = pick s.phase refl
  where
    pick : (phase : Phase) → s.phase ≡ phase → s.phase ≡ Two
    pick Start h = absurd (cc (due-start s h, d))
    pick One h =
        let w = u.one h in
        let stuck : IsStuck s c = round-NoRow s c w.0.shaped (sym (due-one s h) ∙ d) in
        let enters : pos 0 <ℤ entry_of (line_of s.tableau (rows_of s.tableau + 1)) c = subst (λ (l : Line). pos 0 <ℤ entry_of l c) (deciding-one s h) stuck.entering in
        let some : pos 0 <ℤ entry_of (line_of s.tableau w.1.home) c = artificial-entry p s.tableau c w.1 w.0 enters in
        let none : entry_of (line_of s.tableau w.1.home) c ≤ℤ pos 0 = stuck.rows w.1.home w.1.home_row in
        absurd (omega (arith, ints))
    pick Two h = h

pub infeasible-one : (p : LinearProgram) (s : State) → IsReached p s → IsEnd Infeasible s → s.phase ≡ One
infeasible-one p s u e = pick s.phase refl
  where
    pick : (phase : Phase) → s.phase ≡ phase → s.phase ≡ One
    pick Start h = absurd (cc (due-start s h, e.0))
    pick One h = h
    pick Two h = absurd (e.1 h)
