-- A pivot that is due in a state that is reached can be made.
use Rattle.simplex_core.proofs.Common.{◌≡◌, ◌≢◌, ℕ, zero, suc, ◌+◌, ◌-◌, ◌<◌, ◌≤◌, pos, Bool, true, false, List, [], ◌∷◌, length, get_or, set, arith, refl, sym, ap, ◌∙◌, subst, inl, inr, if◌then◌else◌, ◌<ℤ◌, nat_lt, nat_tests, is_zero, Place, Stopped, Width, Memory, least_right_from, any_negative, first_tableau, tableau_with, width_of, entry_of, LinearProgram, State, Phase, Start, One, Two, Pivot, degenerate_after, due, prepared, right_sides, Answer, RanOut, Tableau, line_of, basic_of, rows_of, has_x0, negated, IsLowestRow, lowest-IsLowestRow, prepared-is, prepared-positive, due-start, due-one, due-two, IsRound, round-IsRound, IsShaped-first, length-lines, length-tail, rows_of-first, IsReachedFrom, HasArtificial, basic_apart, same_or_not, set_other, IsReached, enters-below, enters-one, IsNowhere, IsRanOut}
use Rattle.row_core.specs.Stops.{IsStop}
use Rattle.simplex_core.specs.Steps.{IsDropped, IsMove}

in_phase : State → Phase → State
in_phase s phase = record { tableau = s.tableau; phase = phase; pivots = s.pivots; degenerate = s.degenerate }

prepared-start : (s : State) (r : ℕ) → s.phase ≡ Start → prepared s r ≡ negated r s.tableau
unfolding in_phase
prepared-start s r h = ap (λ p. prepared (in_phase s p) r) h

prepared-one : (s : State) (r : ℕ) → s.phase ≡ One → prepared s r ≡ s.tableau
unfolding in_phase
prepared-one s r h = ap (λ p. prepared (in_phase s p) r) h

prepared-two : (s : State) (r : ℕ) → s.phase ≡ Two → prepared s r ≡ s.tableau
unfolding in_phase
prepared-two s r h = ap (λ p. prepared (in_phase s p) r) h

pivot_same : (a b c d : ℕ) → Pivot a b ≡ Pivot c d → (a ≡ c) × (b ≡ d)
pivot_same a b c d h = (cc, cc)

-- a pivot into which x0 is taken
move-start : (p : LinearProgram) (s : State) (r c : ℕ) → pos 0 <ℤ p.cost_own → IsReached p s → due s ≡ Pivot r c → s.phase ≡ Start → IsMove s r c
move-start p s r c positive u d h =
    let w = u.start h in
    let same = pivot_same (least_right_from 0 0 (pos 0) (right_sides s.tableau)) (s.tableau.columns - 1) r c (sym (due-start s h) ∙ d) in
    let row : least_right_from 0 0 (pos 0) (right_sides (tableau_with p true)) ≡ r = ap (λ (t : Tableau). least_right_from 0 0 (pos 0) (right_sides t)) (sym w.0) ∙ same.0 in
    let column : width_of p.columns + length p.rows ≡ c = omega (arith, ap (λ (t : Tableau). t.columns) w.0, same.1) in
    let lowest = subst (λ k. IsLowestRow p k) row (lowest-IsLowestRow p w.1) in
    record {
      line = subst (λ (t : Tableau). r < length t.lines) (sym w.0) (let m : r < length p.rows = lowest.row in let more : rows_of (tableau_with p true) < length (tableau_with p true).lines = (IsShaped-first p true).lines in omega (arith, rows_of-first p true));
      row = subst (λ (t : Tableau). r < rows_of t) (sym w.0) (let m : r < length p.rows = lowest.row in omega (arith, rows_of-first p true));
      column = omega (arith, ap (λ (t : Tableau). t.columns) w.0);
      positive =
          subst (λ (t : Tableau). pos 0 <ℤ entry_of (line_of t r) c) (sym (prepared-start s r h ∙ ap (λ t. negated r t) w.0))
          (subst (λ k. pos 0 <ℤ entry_of (line_of (negated r (tableau_with p true)) r) k) column (prepared-positive p r (prepared-is p r positive lowest.row)));
      dropped = λ e. absurd (cc (h, e));
    }

nowhere : (x : ℕ) (bs : List ℕ) → ((i : ℕ) → i < length bs → get_or bs i 0 ≢ x) → IsNowhere x bs
nowhere x [] h = tt
nowhere x (b ∷ bs) h = (h 0 (omega arith), nowhere x bs (λ i k. h (suc i) (omega arith)))

set_length : (bs : List ℕ) (r c : ℕ) → length (set bs r c) ≡ length bs
set_length [] r c = refl
set_length (b ∷ bs) zero c = refl
set_length (b ∷ bs) (suc r) c = ap suc (set_length bs r c)

set_here : (bs : List ℕ) (r c : ℕ) → r < length bs → get_or (set bs r c) r 0 ≡ c
set_here [] r c h = absurd (omega arith)
set_here (b ∷ bs) zero c h = refl
set_here (b ∷ bs) (suc r) c h = set_here bs r c (omega arith)

less_test : (a b : ℕ) → a < b → nat_lt a b ≡ true
less_test a b h = grind (arith, nat_tests)

-- where x0 leaves, no other row has it
dropped-one : (p : LinearProgram) (s : State) (r c : ℕ) → IsReachedFrom p true s.tableau → HasArtificial p s.tableau → s.phase ≡ One → IsRound s r c → basic_of s.tableau r ≡ s.tableau.columns - 1 → IsDropped s.tableau r c
dropped-one p s r c from has h m e =
    let t : Tableau = s.tableau in
    let below : c < t.columns - 1 = enters-below p t c from has m.column (enters-one s r c h m) in
    let row : r < rows_of t = m.row in (
      less_test (length t.basics + 1) (length t.lines) (omega (arith, from.lines, from.rows)),
      nowhere (t.columns - 1) (set t.basics r c) (λ i k.
          let there : i < rows_of t = omega (arith, set_length t.basics r c) in
          elim (same_or_not i r) [
            | inl q ↦ λ z. let at : get_or (set t.basics r c) r 0 ≡ c = set_here t.basics r c row in omega (arith, ap (λ j. get_or (set t.basics r c) j 0) q)
            | inr n ↦ λ z. basic_apart t i r from.shaped from.basic there row n (sym (set_other t.basics r i c 0 n) ∙ z ∙ sym e)
          ]),
    )

move-round : (s : State) (r c : ℕ) → rows_of s.tableau < length s.tableau.lines → IsRound s r c → prepared s r ≡ s.tableau → (s.phase ≡ One → basic_of s.tableau r ≡ s.tableau.columns - 1 → IsDropped s.tableau r c) → IsMove s r c
move-round s r c lines m e d = record {
  line = let row : r < rows_of s.tableau = m.row in omega arith;
  row = m.row;
  column = m.column;
  positive = subst (λ (t : Tableau). pos 0 <ℤ entry_of (line_of t r) c) (sym e) m.positive;
  dropped = d;
}

pub reached-IsMove : (p : LinearProgram) (s : State) (r c : ℕ) → pos 0 <ℤ p.cost_own → IsReached p s → due s ≡ Pivot r c → IsMove s r c
reached-IsMove p s r c positive u d = pick s.phase refl
  where
    pick : (phase : Phase) → s.phase ≡ phase → IsMove s r c
    pick Start h = move-start p s r c positive u d h
    pick One h =
        let w = u.one h in
        let m : IsRound s r c = round-IsRound s r c w.0.shaped (sym (due-one s h) ∙ d) in
        move-round s r c w.0.shaped.lines m (prepared-one s r h) (λ k e. dropped-one p s r c w.0 w.1 h m e)
    pick Two h =
        let m : IsRound s r c = round-IsRound s r c (u.two h).shaped (sym (due-two s h) ∙ d) in
        move-round s r c (u.two h).shaped.lines m (prepared-two s r h) (λ k e. absurd (cc (h, k)))

-- x0 is there at first where some right side is negative
pub has_x0-first : (p : LinearProgram) → has_x0 (first_tableau p) ≡ any_negative p.rows
has_x0-first p = cases (any_negative p.rows)
  where
    count : (there : Bool) → length (tableau_with p there).lines ≡ length p.rows + suc (if there then 1 else 0)
    count there = length-lines p there ∙ ap (λ n. length p.rows + n) (length-tail p there)

    more : (n k m : ℕ) → m ≡ n → k ≡ n + 2 → nat_lt (m + 1) k ≡ true
    more n k m e f = less_test (m + 1) k (omega arith)

    fewer : (n k m : ℕ) → m ≡ n → k ≡ n + 1 → nat_lt (m + 1) k ≡ false
    fewer n k m e f = grind (arith, nat_tests)

    cases : (there : Bool) → has_x0 (tableau_with p there) ≡ there
    cases true = more (length p.rows) (length (tableau_with p true).lines) (rows_of (tableau_with p true)) (rows_of-first p true) (count true)
    cases false = fewer (length p.rows) (length (tableau_with p false).lines) (rows_of (tableau_with p false)) (rows_of-first p false) (count false)

-- ---- what is left after a pivot

pub degenerate-bound : (s : State) (r : ℕ) → degenerate_after s r ≤ s.degenerate + 1
degenerate-bound s r = cases (is_zero (line_of s.tableau r).right)
  where
    cases : (b : Bool) → (if b then suc s.degenerate else 0) ≤ s.degenerate + 1
    cases true = omega arith
    cases false = omega arith

pub IsRanOut-from : (a : Answer) (place : Place) (fits : Bool) (e : Stopped) → (fits ≡ false → a ≡ RanOut place) → IsStop place fits e → IsRanOut a e
IsRanOut-from a place fits (Width at) h w = h w.1 ∙ ap RanOut (sym w.0)
IsRanOut-from a place fits Memory h w = tt
