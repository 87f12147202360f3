-- The answer, pivot by pivot: this is all that the loop of the code needs.
use Rattle.written_method.proofs.Common.{◌≡◌, ℕ, zero, suc, true, false, Option, Some, None, ◌∷◌, ap, ◌∙◌, first_wide, all_fit, Place, State, Due, Pivot, NoColumn, NoRow, due, after, step_of, Unbounded, PivotDue, Run, Answer, Ended, RanOut, ended, no_column, run, answer_of, answer}
use Rattle.exact_num.proofs.StepLaws.{first_wide-fits, first_wide-stops}
use Rattle.row_core.specs.declared.place.Place.TheVariants as places

-- a pivot that fits leads on
pub answer-pivot : (n : ℕ) (s : State) (r c : ℕ) → due s ≡ Pivot r c → all_fit (step_of s r c).formed ≡ true → answer (suc n) s ≡ answer n (after s r c)
unfolding answer answer_of run
answer-pivot n s r c d fits =
    let P : Run = record { steps = step_of s r c ∷ (run n (after s r c)).steps; ending = (run n (after s r c)).ending; last = (run n (after s r c)).last } in
    let e : run (suc n) s ≡ P = ap {B = Run} (λ (u : Due). elim u [ Pivot a b ↦ record { steps = step_of s a b ∷ (run n (after s a b)).steps; ending = (run n (after s a b)).ending; last = (run n (after s a b)).last } | NoColumn ↦ ended (no_column s.phase) s | NoRow b ↦ ended (Unbounded b) s ]) d in
    ap answer_of e
    ∙ ap {B = Answer} (λ (o : Option Place). elim o [ None ↦ Ended P.ending P.last | Some place ↦ RanOut place ]) (first_wide-fits (step_of s r c) (run n (after s r c)).steps fits)

-- one that doesn't is the answer
pub answer-wide : (n : ℕ) (s : State) (r c : ℕ) → due s ≡ Pivot r c → all_fit (step_of s r c).formed ≡ false → answer (suc n) s ≡ RanOut (places.Pivot (suc s.pivots))
unfolding answer answer_of run
answer-wide n s r c d wide =
    let P : Run = record { steps = step_of s r c ∷ (run n (after s r c)).steps; ending = (run n (after s r c)).ending; last = (run n (after s r c)).last } in
    let e : run (suc n) s ≡ P = ap {B = Run} (λ (u : Due). elim u [ Pivot a b ↦ record { steps = step_of s a b ∷ (run n (after s a b)).steps; ending = (run n (after s a b)).ending; last = (run n (after s a b)).last } | NoColumn ↦ ended (no_column s.phase) s | NoRow b ↦ ended (Unbounded b) s ]) d in
    ap answer_of e
    ∙ ap {B = Answer} (λ (o : Option Place). elim o [ None ↦ Ended P.ending P.last | Some place ↦ RanOut place ]) (first_wide-stops (step_of s r c) (run n (after s r c)).steps wide)

-- the ends
pub answer-no_column : (n : ℕ) (s : State) → due s ≡ NoColumn → answer n s ≡ Ended (no_column s.phase) s
unfolding answer answer_of run first_wide
answer-no_column zero s d = ap answer_of (ap {B = Run} (λ (u : Due). elim u [ Pivot a b ↦ ended PivotDue s | NoColumn ↦ ended (no_column s.phase) s | NoRow b ↦ ended (Unbounded b) s ]) d)
answer-no_column (suc n) s d = ap answer_of (ap {B = Run} (λ (u : Due). elim u [ Pivot a b ↦ record { steps = step_of s a b ∷ (run n (after s a b)).steps; ending = (run n (after s a b)).ending; last = (run n (after s a b)).last } | NoColumn ↦ ended (no_column s.phase) s | NoRow b ↦ ended (Unbounded b) s ]) d)

pub answer-no_row : (n : ℕ) (s : State) (c : ℕ) → due s ≡ NoRow c → answer n s ≡ Ended (Unbounded c) s
unfolding answer answer_of run first_wide
answer-no_row zero s c d = ap answer_of (ap {B = Run} (λ (u : Due). elim u [ Pivot a b ↦ ended PivotDue s | NoColumn ↦ ended (no_column s.phase) s | NoRow b ↦ ended (Unbounded b) s ]) d)
answer-no_row (suc n) s c d = ap answer_of (ap {B = Run} (λ (u : Due). elim u [ Pivot a b ↦ record { steps = step_of s a b ∷ (run n (after s a b)).steps; ending = (run n (after s a b)).ending; last = (run n (after s a b)).last } | NoColumn ↦ ended (no_column s.phase) s | NoRow b ↦ ended (Unbounded b) s ]) d)

-- a pivot is due after the last one
pub answer-due : (s : State) (r c : ℕ) → due s ≡ Pivot r c → answer 0 s ≡ Ended PivotDue s
unfolding answer answer_of run first_wide
answer-due s r c d = ap answer_of (ap {B = Run} (λ (u : Due). elim u [ Pivot a b ↦ ended PivotDue s | NoColumn ↦ ended (no_column s.phase) s | NoRow b ↦ ended (Unbounded b) s ]) d)
