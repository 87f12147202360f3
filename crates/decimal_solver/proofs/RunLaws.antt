-- The rounds, pivot by pivot, and a pivot part by part.
use Rattle.row_problem.proofs.Common.{◌≡◌, ℕ, zero, suc, ◌≤◌, ℤ, List, [], ◌∷◌, Option, Some, None, length, get_or, set, refl, ap, ◌∙◌, arith, map-set}
use Rattle.decimal_solver.proofs.Words.{GridRow as KeptRow, and_then, Line, entry_in, pivot_line, scaled_entries, Optimal, Stuck, after, at_due, due, factor_in, no_row, run, with_pivot, Phase, State, row_seen, rows_seen}
use Rattle.decimal_solver.specs.States.{GridRow}

pub run-optimal : (n : ℕ) (s : State) → due s ≡ Optimal → run n s ≡ Some s
unfolding run
run-optimal zero s e = ap (at_due s (λ r c. None)) e
run-optimal (suc n) s e = ap (at_due s (λ r c. and_then (after s r c) (run n))) e

pub run-stuck : (n : ℕ) (s : State) → due s ≡ Stuck → run n s ≡ None
unfolding run
run-stuck zero s e = ap (at_due s (λ r c. None)) e
run-stuck (suc n) s e = ap (at_due s (λ r c. and_then (after s r c) (run n))) e

-- ---- a pivot

pub same-state : (rows rows' : List GridRow) (cost a a' : Line) (f f' : Phase) (slack k k' n n' d d' : ℕ) → rows' ≡ rows → a' ≡ a → f' ≡ f → k' ≡ k → n' ≡ n → d' ≡ d
    → ◌≡◌ {A = Option State} (Some (record { rows = rows; cost = cost; artificial = a; phase = f; slack = slack; columns = k; pivots = n; degenerate = d }))
    (Some (record { rows = rows'; cost = cost; artificial = a'; phase = f'; slack = slack; columns = k'; pivots = n'; degenerate = d' }))
same-state rows rows' cost a a' f f' slack k k' n n' d d' p q r t u w = cc

-- the new row in its place
pub rows-pivot : (items : List KeptRow) (r : ℕ) (row : KeptRow) (c : ℕ) (pivot : Line) (scale : ℤ) → row_seen row ≡ record { line = pivot; basic = c; scale = scale } → rows_seen (set items r row) ≡ with_pivot r c pivot scale (rows_seen items)
rows-pivot items r row c pivot scale e = map-set row_seen items r row ∙ ap (λ (x : GridRow). set (rows_seen items) r x) e

-- ---- a pivot in no row

beyond : {X : Type 0} (xs : List X) (i : ℕ) (d : X) → length xs ≤ i → get_or xs i d ≡ d
beyond [] i d h = refl
beyond (x ∷ xs) zero d h = absurd (omega arith)
beyond (x ∷ xs) (suc i) d h = beyond xs i d (omega arith)

no_pivot : (f : ℤ) (c limit : ℕ) → pivot_line f c limit no_row.line ≡ None
unfolding entry_in scaled_entries
no_pivot f c limit = refl

pub after-beyond : (s : State) (r c : ℕ) → length s.rows ≤ r → after s r c ≡ None
after-beyond s r c h = rw (beyond s.rows r no_row h, no_pivot (factor_in s.phase) c s.columns) refl
