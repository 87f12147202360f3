-- One round of the code's loop.
use Rattle.simplex_core.proofs.Common.{◌≡◌, ◌≢◌, ℕ, zero, suc, ◌<◌, Bool, List, [], ◌∷◌, length, get_or, set, arith, sym, ap, ap₂, ◌∙◌, subst, if◌then◌else◌, eq-eqb, ne_eqb, is_zero, Line, Tableau, line_of, rows_of, pivoted, without_x0, Pivot, after, answer, IsKept, exchanged, KeptState, shown_state, kept_due, rough_line, IsNowhere, swapped, kept_state, rough_of, second_phase, FitsPivot, kept_entering, kept_leaving, x0_in, IsKeptDue, Candidate, Some}
use Rattle.simplex_core.proofs.StateLaws.{after-kept, after-left}
use Rattle.simplex_core.proofs.AnswerLaws.{IsDue, kept_due-IsDue, answer-next, answer-left}
use Rattle.simplex_core.proofs.KeptSwapLaws.{swapped-pivoted}
use Rattle.simplex_core.specs.declared.kept_due.KeptDue.TheVariants as dues
use Rattle.simplex_core.proofs.KeptChoiceLaws.{due-is, leaving-right}

-- what a pivot that is due shows, for a state with any number of pivots
pub due-at : (t : Tableau) (h d r c deg : ℕ) → IsKept h d t → kept_due (kept_state t h d 0 deg) ≡ Pivot r c → IsDue (kept_state t h d 0 deg) r c
due-at t h d r c deg w e = kept_due-IsDue (kept_state t h d 0 deg) r c w e

rows_in : (t : Tableau) (h d i : ℕ) → IsKept h d t → i < rows_of t → i < length t.lines
rows_in t h d i w k = let more : rows_of t < length t.lines = w.shaped.lines in omega arith

pub record IsNext (n : ℕ) (t : Tableau) (h d r c made deg : ℕ) (next : Tableau) (more : ℕ) : Type 0 where
  pub follows : after (shown_state (kept_state t h d made deg)) r c ≡ shown_state (kept_state next h d (suc made) more)
  pub agrees : answer (suc n) (shown_state (kept_state t h d made deg)) ≡ answer n (shown_state (kept_state next h d (suc made) more))
  pub kept : IsKept h d next

pub round-next : (n : ℕ) (t : Tableau) (h d r c made deg : ℕ) (flat : Bool) (next : Tableau) (more : ℕ) → IsKept h d t → kept_due (kept_state t h d 0 deg) ≡ Pivot r c → r ≢ h → FitsPivot t h d r c
    → flat ≡ is_zero (rough_of t h d r).right → next ≡ swapped h r (pivoted h c t) → more ≡ (if flat then suc deg else 0) → IsNext n t h d r c made deg next more
round-next n t h d r c made deg flat next more w due apart fits flat_is next_is more_is =
    let k : KeptState = kept_state t h d made deg in
    let row : r < rows_of t = (due-at t h d r c deg w due).row in
    let same : next ≡ exchanged h r c t = next_is ∙ swapped-pivoted t h r c (rows_in t h d h w w.home_row) (rows_in t h d r w row) w.home_row row apart in
    let rough : rough_of t h d r ≡ rough_line d (line_of t h) (line_of t r) = ap (λ b. if b then line_of t h else rough_line d (line_of t h) (line_of t r)) (ne_eqb r h apart) in
    let degenerate : more ≡ (if is_zero (rough_line d (line_of t h) (line_of t r)).right then suc deg else 0) = more_is ∙ ap (λ b. if b then suc deg else 0) (flat_is ∙ ap (λ (l : Line). is_zero l.right) rough) in
    let step = answer-next n k r c w due apart (fits made deg) in
    record {
      follows = after-kept k r c w ((due-at t h d r c deg w due).chosen apart) ∙ ap₂ (λ (u : Tableau) (m : ℕ). shown_state (kept_state u h d (suc made) m)) (sym same) (sym degenerate);
      agrees = step.0 ∙ ap₂ (λ (u : Tableau) (m : ℕ). answer n (shown_state (kept_state u h d (suc made) m))) (sym same) (sym degenerate);
      kept = subst (IsKept h d) (sym same) step.1;
    }

pub round-left : (n : ℕ) (t : Tableau) (h d r c made deg : ℕ) (flat : Bool) (next : Tableau) (more : ℕ) → IsKept h d t → kept_due (kept_state t h d 0 deg) ≡ Pivot r c → r ≡ h → FitsPivot t h d r c
    → flat ≡ is_zero (rough_of t h d r).right → next ≡ without_x0 (pivoted h c t) → more ≡ (if flat then suc deg else 0)
    → answer (suc n) (shown_state (kept_state t h d made deg)) ≡ answer n (second_phase next (suc made) more)
round-left n t h d r c made deg flat next more w due same fits flat_is next_is more_is =
    let k : KeptState = kept_state t h d made deg in
    let due_home : kept_due k ≡ Pivot h c = due ∙ ap (λ i. Pivot i c) same in
    let rough : rough_of t h d r ≡ line_of t h = ap (λ b. if b then line_of t h else rough_line d (line_of t h) (line_of t r)) (eq-eqb r h same) in
    let degenerate : more ≡ (if is_zero (line_of t h).right then suc deg else 0) = more_is ∙ ap (λ b. if b then suc deg else 0) (flat_is ∙ ap (λ (l : Line). is_zero l.right) rough) in
    answer-left n k c w due_home (subst (λ i. FitsPivot t h d i c) same fits made deg)
    ∙ ap₂ (λ (u : Tableau) (m : ℕ). answer n (second_phase u (suc made) m)) (sym next_is) (sym degenerate)

-- the state after it
pub left-after : (t : Tableau) (h d r c made deg : ℕ) (flat : Bool) (next : Tableau) (more : ℕ) → IsKept h d t → kept_due (kept_state t h d 0 deg) ≡ Pivot r c → r ≡ h
    → flat ≡ is_zero (rough_of t h d r).right → next ≡ without_x0 (pivoted h c t) → more ≡ (if flat then suc deg else 0)
    → after (shown_state (kept_state t h d made deg)) r c ≡ second_phase next (suc made) more
left-after t h d r c made deg flat next more w due same flat_is next_is more_is =
    let k : KeptState = kept_state t h d made deg in
    let due_home : kept_due k ≡ Pivot h c = due ∙ ap (λ i. Pivot i c) same in
    let rough : rough_of t h d r ≡ line_of t h = ap (λ b. if b then line_of t h else rough_line d (line_of t h) (line_of t r)) (eq-eqb r h same) in
    let degenerate : more ≡ (if is_zero (line_of t h).right then suc deg else 0) = more_is ∙ ap (λ b. if b then suc deg else 0) (flat_is ∙ ap (λ (l : Line). is_zero l.right) rough) in
    ap (λ i. after (shown_state k) i c) same
    ∙ after-left k c w (kept_due-IsDue k h c w due_home).positive
    ∙ ap₂ (λ (u : Tableau) (m : ℕ). second_phase u (suc made) m) (sym next_is) (sym degenerate)

-- a column that is basic nowhere
nowhere-of : (c : ℕ) (cs : List ℕ) → ((i : ℕ) → i < length cs → get_or cs i 0 ≢ c) → IsNowhere c cs
nowhere-of c [] f = tt
nowhere-of c (d ∷ ds) f = (f 0 (omega arith), nowhere-of c ds (λ i k. f (suc i) (omega arith)))

nowhere-set : (c : ℕ) (cs : List ℕ) (j d : ℕ) → d ≢ c → IsNowhere c cs → IsNowhere c (set cs j d)
nowhere-set c [] j d n h = tt
nowhere-set c (e ∷ es) zero d n h = (n, h.1)
nowhere-set c (e ∷ es) (suc j) d n h = (h.0, nowhere-set c es j d n h.1)

-- after the last pivot x0 isn't basic
pub left-IsNowhere : (t : Tableau) (h d r c deg : ℕ) → IsKept h d t → kept_due (kept_state t h d 0 deg) ≡ Pivot r c → IsNowhere d (pivoted h c t).basics
left-IsNowhere t h d r c deg w due = nowhere-set d t.basics h c (due-at t h d r c deg w due).column (nowhere-of d t.basics w.not_basic)

-- what is due, from what the code knows of x0's row
pub due-from : (t : Tableau) (h k row column deg : ℕ) (a : Candidate) (flat : Bool) → IsKept h (x0_in t) t → h ≡ row → k ≡ column → kept_entering (kept_state t row (x0_in t) 0 deg) ≡ Some column
    → kept_leaving (kept_state t h (x0_in t) 0 0) k ≡ Some a → FitsPivot t h (x0_in t) a.row k → flat ≡ is_zero a.right → column < t.columns → IsKeptDue t row deg (dues.Pivot a.row column flat)
due-from t h k row column deg a flat w eh ek enters leaves fits flat_is below =
    let d : ℕ = x0_in t in
    let leaves_row : kept_leaving (kept_state t row d 0 0) column ≡ Some a = subst (λ i. kept_leaving (kept_state t i d 0 0) column ≡ Some a) eh (subst (λ j. kept_leaving (kept_state t h d 0 0) j ≡ Some a) ek leaves) in
    let kept : IsKept row d t = subst (λ i. IsKept i d t) eh w in (
      due-is t row d deg column a enters leaves_row,
      below,
      flat_is ∙ ap is_zero (leaving-right t row d column a kept leaves_row),
      subst (λ i. FitsPivot t i d a.row column) eh (subst (λ j. FitsPivot t h d a.row j) ek fits),
    )
