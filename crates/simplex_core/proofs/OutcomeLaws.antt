-- What an answer of the method means, and why it stops before.
use Rattle.simplex_core.proofs.Common.{◌≡◌, ℕ, ◌+◌, ◌<◌, ◌≤◌, pos, Bool, true, false, Option, Some, None, List, [], ◌++◌, length, arith, refl, sym, ap, ap₂, ◌∙◌, subst, inl, inr, if◌then◌else◌, cases_lt, nat_tests, ints, get_or_past, Step, first_wide, first_wide-append, first_wide-nil, Place, Stopped, Width, Memory, first_state, width_of, Line, entry_of, LinearProgram, State, Answer, Ended, RanOut, End, Optimal, Infeasible, Unbounded, PivotDue, answer, IsTooWide, checked_end, direction_of, direction_steps, end_steps, optimal_multipliers, outcome_of, outcome_of_end, refuting_multipliers, solved, value_steps, values_of, Tableau, has_x0, line_of, rows_of, IsStuck, deciding-two, due-two, round-NoRow, IsReachedFrom, IsEnd, IsReached, answer-IsReached, infeasible-one, never-NoRow, IsEnding, IsLast, IsHalt, IsProved, halt_of, outcome_seen, IsFirst, IsRanOut}
use Rattle.std.specs.Option.{option_or}
use Rattle.std.specs.Prelude.{◌<ℤ◌, ◌⊎◌, nat_lt}
use Rattle.written_method.specs.Certificates.{AreOverFrom, ValuesAreOver}
use Rattle.written_method.specs.Ready.{IsPosed}
use Rattle.written_method.proofs.CertificateLaws.{infeasible-Refutes, optimal-Bounds}
use Rattle.written_method.proofs.CostLaws.{IsRay, direction-Descends, direction-Meets, optimal-HasBoundAsCost, unbounded-IsRay}
use Rattle.written_method.proofs.MeetsLaws.{plan-Meets}
use Rattle.simplex_core.specs.declared.ends.End.{End as Answered}
use Rattle.simplex_core.specs.declared.ends.End.TheVariants as ends

-- ---- the last tableau

last-of : (p : LinearProgram) (there : Bool) (t : Tableau) → IsReachedFrom p there t → (has_x0 t ≡ there) × IsLast p t
last-of p there t u =
    let here : has_x0 t ≡ there = cases there u in (
      here,
      record { shaped = u.shaped; basic = u.basic; rows = u.rows; columns = u.columns ∙ ap (λ b. width_of p.columns + length p.rows + (if b then 1 else 0)) (sym here) },
    )
  where
    cases : (there : Bool) → IsReachedFrom p there t → has_x0 t ≡ there
    cases true u = more (length t.basics) (length t.lines) (omega (arith, u.lines, u.rows))
      where
        more : (n k : ℕ) → n + 1 < k → nat_lt (n + 1) k ≡ true
        more n k h = grind (arith, nat_tests)
    cases false u = fewer (length t.basics) (length t.lines) (omega (arith, u.lines, u.rows))
      where
        fewer : (n k : ℕ) → k ≤ n + 1 → nat_lt (n + 1) k ≡ false
        fewer n k h = grind (arith, nat_tests)

-- a column with a positive entry is one of the line's
positive-within : (l : Line) (c : ℕ) → pos 0 <ℤ entry_of l c → c < length l.entries
positive-within l c h = cases (cases_lt c (length l.entries))
  where
    cases : ((c < length l.entries) ⊎ (length l.entries ≤ c)) → c < length l.entries
    cases (inl k) = k
    cases (inr k) = absurd (omega (arith, ints, get_or_past l.entries c (pos 0) k, h))

pub ended-IsEnding : (p : LinearProgram) (n : ℕ) (e : End) (s : State) → pos 0 <ℤ p.cost_own → answer n (first_state p) ≡ Ended e s → IsEnding p e s.tableau
ended-IsEnding p n e s positive a = let w = answer-IsReached p n s e positive a in cases e w.0 w.1
  where
    t : Tableau
    t = s.tableau

    cases : (e : End) → IsReached p s → IsEnd e s → IsEnding p e t
    cases Optimal u d =
        let from = u.two d.1 in
        let lines : rows_of t < length t.lines = from.shaped.lines in
        ((last-of p false t from).1, from.costs (rows_of t) (omega arith) lines)
    cases Infeasible u d = let w = last-of p true t (u.one (infeasible-one p s u d)).0 in (w.1, w.0)
    cases (Unbounded c) u d =
        let two = never-NoRow p s c u d in
        let from = u.two two in
        let lines : rows_of t < length t.lines = from.shaped.lines in
        let stuck : IsStuck s c = round-NoRow s c from.shaped (sym (due-two s two) ∙ d) in
        let enters : pos 0 <ℤ entry_of (line_of t (rows_of t)) c = subst (λ (l : Line). pos 0 <ℤ entry_of l c) (deciding-two s two) stuck.entering in
        ((last-of p false t from).1, subst (λ m. c < m) (from.shaped.entries (rows_of t) lines) (positive-within (line_of t (rows_of t)) c enters))
    cases PivotDue u d = tt

-- ---- the outcome of an end

pub outcome-fits : (p : LinearProgram) (e : End) (s : State) → first_wide (end_steps p e s) ≡ None → outcome_of p (Ended e s) ≡ outcome_of_end p e s
outcome-fits p e s h = ap (λ (o : Option Place). checked_end p e s o) h

pub outcome-none : (p : LinearProgram) (e : End) (s : State) → end_steps p e s ≡ [] → outcome_of p (Ended e s) ≡ outcome_of_end p e s
outcome-none p e s h = outcome-fits p e s (ap (λ (ss : List (Step Place)). first_wide ss) h ∙ first_wide-nil)

pub unbounded-fits : (p : LinearProgram) (c : ℕ) (s : State) → first_wide (value_steps p s.tableau) ≡ None → first_wide (direction_steps p s.tableau c) ≡ None → outcome_of p (Ended (Unbounded c) s) ≡ outcome_of_end p (Unbounded c) s
unbounded-fits p c s v d = outcome-fits p (Unbounded c) s (first_wide-append (value_steps p s.tableau) (direction_steps p s.tableau c) ∙ ap₂ option_or v d)

pub first-IsHalt : (p : LinearProgram) (e : End) (s : State) (stop : Stopped) → IsFirst (first_wide (end_steps p e s)) stop → IsHalt (outcome_of p (Ended e s)) (halt_of stop)
first-IsHalt p e s (Width place) h = ap (λ (o : Option Place). checked_end p e s o) h
first-IsHalt p e s Memory h = tt

pub left-IsFirst : (ss ts : List (Step Place)) (stop : Stopped) → IsFirst (first_wide ss) stop → IsFirst (first_wide (ss ++ ts)) stop
left-IsFirst ss ts (Width place) h = first_wide-append ss ts ∙ ap (λ o. option_or o (first_wide ts)) h
left-IsFirst ss ts Memory h = tt

pub right-IsFirst : (ss ts : List (Step Place)) (stop : Stopped) → first_wide ss ≡ None → IsFirst (first_wide ts) stop → IsFirst (first_wide (ss ++ ts)) stop
right-IsFirst ss ts (Width place) n h = first_wide-append ss ts ∙ ap₂ option_or n h
right-IsFirst ss ts Memory n h = tt

pub ran_out-IsHalt : (n : ℕ) (p : LinearProgram) (stop : Stopped) → IsRanOut (answer n (first_state p)) stop → IsHalt (solved n p) (halt_of stop)
ran_out-IsHalt n p (Width place) h = ap (λ (a : Answer). outcome_of p a) h
ran_out-IsHalt n p Memory h = tt

-- ---- what each end says of the linear program

proved-end : (p : LinearProgram) (e : End) (s : State) (r : Answered) → IsPosed p → IsReached p s → IsEnd e s → outcome_seen r ≡ outcome_of_end p e s → IsProved p r
proved-end p Optimal s (ends.Optimal values lambda pivots) posed u d h =
    let v : values ≡ values_of p s.tableau = cc in
    let l : lambda ≡ optimal_multipliers p s.tableau = cc in (
      λ q x positive over. plan-Meets p s.tableau q x posed (u.two d.1) positive (subst (ValuesAreOver q x) v over),
      λ q x dd y positive over dpos multipliers. (
        optimal-Bounds p s dd y posed.cost_positive u d dpos (subst (AreOverFrom dd y 0) l multipliers),
        optimal-HasBoundAsCost p s q x dd y posed u d (subst (ValuesAreOver q x) v over) (subst (AreOverFrom dd y 0) l multipliers),
      ),
    )
proved-end p Optimal s (ends.Infeasible lambda pivots) posed u d h = absurd (cc h)
proved-end p Optimal s (ends.Unbounded values direction pivots) posed u d h = absurd (cc h)
proved-end p Infeasible s (ends.Optimal values lambda pivots) posed u d h = absurd (cc h)
proved-end p Infeasible s (ends.Infeasible lambda pivots) posed u d h =
    let l : lambda ≡ refuting_multipliers p s.tableau = cc in
    λ dd y dpos multipliers. infeasible-Refutes p s dd y u d dpos (subst (AreOverFrom dd y 0) l multipliers)
proved-end p Infeasible s (ends.Unbounded values direction pivots) posed u d h = absurd (cc h)
proved-end p (Unbounded c) s (ends.Optimal values lambda pivots) posed u d h = absurd (cc h)
proved-end p (Unbounded c) s (ends.Infeasible lambda pivots) posed u d h = absurd (cc h)
proved-end p (Unbounded c) s (ends.Unbounded values direction pivots) posed u d h =
    let v : values ≡ values_of p s.tableau = cc in
    let k : direction ≡ direction_of p s.tableau c = cc in
    let ray : IsRay p s.tableau c = unbounded-IsRay p s c u d in (
      λ q x positive over. plan-Meets p s.tableau q x posed ray.from positive (subst (ValuesAreOver q x) v over),
      λ q x positive over. (
        direction-Meets p s.tableau c q x posed ray positive (subst (ValuesAreOver q x) k over),
        direction-Descends p s.tableau c q x posed ray positive (subst (ValuesAreOver q x) k over),
      ),
    )
proved-end p PivotDue s (ends.Optimal values lambda pivots) posed u d h = absurd (cc h)
proved-end p PivotDue s (ends.Infeasible lambda pivots) posed u d h = absurd (cc h)
proved-end p PivotDue s (ends.Unbounded values direction pivots) posed u d h = absurd (cc h)

not-wide : (r : Answered) (place : Place) → outcome_seen r ≡ IsTooWide place → ⊥
not-wide (ends.Optimal values lambda pivots) place h = cc h
not-wide (ends.Infeasible lambda pivots) place h = cc h
not-wide (ends.Unbounded values direction pivots) place h = cc h

pub solved-IsProved : (n : ℕ) (p : LinearProgram) (r : Answered) → IsPosed p → outcome_seen r ≡ solved n p → IsProved p r
solved-IsProved n p r posed h = by_answer (answer n (first_state p)) refl h
  where
    by_first : (e : End) (s : State) (o : Option Place) → IsReached p s → IsEnd e s → outcome_seen r ≡ checked_end p e s o → IsProved p r
    by_first e s None u d k = proved-end p e s r posed u d k
    by_first e s (Some place) u d k = absurd (not-wide r place k)

    by_answer : (a : Answer) → answer n (first_state p) ≡ a → outcome_seen r ≡ outcome_of p a → IsProved p r
    by_answer (Ended e s) q k = let w = answer-IsReached p n s e posed.cost_positive q in by_first e s (first_wide (end_steps p e s)) w.0 w.1 k
    by_answer (RanOut place) q k = absurd (not-wide r place k)
