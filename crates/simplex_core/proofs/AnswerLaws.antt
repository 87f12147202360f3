-- The method's answer, round by round over kept tableaus: this is all that the loop of the code needs.
use Rattle.simplex_core.proofs.Common.{◌≡◌, ◌≢◌, ℕ, suc, ◌+◌, ◌<◌, ℤ, pos, Bool, true, false, Option, Some, None, List, [], ◌∷◌, length, get_or, set, map, arith, refl, sym, ap, ◌∙◌, subst, if◌then◌else◌, ◌⊎◌, inl, inr, ◌<ℤ◌, ◌≤ℤ◌, int_lt, nat_lt, ints, get_or-set_same, get_or-set_other, get_or-map, length-set, all_fit, Line, entry_of, cleared, line_of, rows_of, no_line, Candidate, greatest_from, first_positive_from, Due, Pivot, NoColumn, NoRow, step_of, Infeasible, PivotDue, Ended, answer, IsLeast, leaving-IsLeast, answer-pivot, answer-no_column, answer-due, KeptState, shown_state, home_line, rough_line, rough_lines, kept_entering, kept_leaving, kept_due, next_kept, left_kept, zero-*ℤ}
use Rattle.simplex_core.proofs.PrimitiveLaws.{AreProportional}
use Rattle.simplex_core.proofs.KeptLaws.{IsChosen}
use Rattle.simplex_core.proofs.KeepingLaws.{IsKept-exchanged}
use Rattle.simplex_core.proofs.ScaledChoiceLaws.{lt_fact, less_scaled}
use Rattle.simplex_core.proofs.StateLaws.{IsKeptState, in_lines, rough-AreProportional, due-kept, after-kept, after-left}

-- ---- what a choice shows

-- the column that was found has a positive entry, unless it was chosen before
greatest-some : (zs : List ℤ) (at : ℕ) (best : ℤ) (chosen : Option ℕ) (c : ℕ) → pos 0 ≤ℤ best → greatest_from at best chosen zs ≡ Some c → (chosen ≡ Some c) ⊎ ((i : ℕ) × (c ≡ at + i) × (pos 0 <ℤ get_or zs i (pos 0)))
greatest-some [] at best chosen c p h = inl h
greatest-some (z ∷ zs) at best chosen c p h = pick (int_lt best z) refl (λ q. greatest-some zs (suc at) z (Some at) c q) (greatest-some zs (suc at) best chosen c p) h
  where
    later : (i : ℕ) × (c ≡ suc at + i) × (pos 0 <ℤ get_or zs i (pos 0)) → (chosen ≡ Some c) ⊎ ((i : ℕ) × (c ≡ at + i) × (pos 0 <ℤ get_or (z ∷ zs) i (pos 0)))
    later m = inr (suc m.0, omega (arith, m.1), m.2)

    pick : (t : Bool) → int_lt best z ≡ t
        → (pos 0 ≤ℤ z → greatest_from (suc at) z (Some at) zs ≡ Some c → (Some at ≡ Some c) ⊎ ((i : ℕ) × (c ≡ suc at + i) × (pos 0 <ℤ get_or zs i (pos 0))))
        → (greatest_from (suc at) best chosen zs ≡ Some c → (chosen ≡ Some c) ⊎ ((i : ℕ) × (c ≡ suc at + i) × (pos 0 <ℤ get_or zs i (pos 0))))
        → (if t then greatest_from (suc at) z (Some at) zs else greatest_from (suc at) best chosen zs) ≡ Some c
        → (chosen ≡ Some c) ⊎ ((i : ℕ) × (c ≡ at + i) × (pos 0 <ℤ get_or (z ∷ zs) i (pos 0)))
    pick true e f g h =
        let above : best <ℤ z = lt_fact best z e in
        elim (f (omega (arith, ints, above, p)) h) [
          | inl s ↦ inr (0, same at c s, omega (arith, ints, above, p))
          | inr m ↦ later m
        ]
      where
        same : (a b : ℕ) → Some a ≡ Some b → b ≡ a + 0
        same a b s = let e : a ≡ b = cc s in omega (arith, e)
    pick false e f g h = elim (g h) [ inl s ↦ inl s | inr m ↦ later m ]

first_positive-some : (zs : List ℤ) (at c : ℕ) → first_positive_from at zs ≡ Some c → (i : ℕ) × (c ≡ at + i) × (pos 0 <ℤ get_or zs i (pos 0))
first_positive-some [] at c h = absurd (cc h)
first_positive-some (z ∷ zs) at c h = pick (int_lt (pos 0) z) refl (first_positive-some zs (suc at) c) h
  where
    pick : (t : Bool) → int_lt (pos 0) z ≡ t → (first_positive_from (suc at) zs ≡ Some c → (i : ℕ) × (c ≡ suc at + i) × (pos 0 <ℤ get_or zs i (pos 0)))
        → (if t then Some at else first_positive_from (suc at) zs) ≡ Some c → (i : ℕ) × (c ≡ at + i) × (pos 0 <ℤ get_or (z ∷ zs) i (pos 0))
    pick true e f h = (0, same at c h, lt_fact (pos 0) z e)
      where
        same : (a b : ℕ) → Some a ≡ Some b → b ≡ a + 0
        same a b s = let e : a ≡ b = cc s in omega (arith, e)
    pick false e f h = let m = f h in (suc m.0, omega (arith, m.1), m.2)

entering-positive : (k : KeptState) (c : ℕ) → kept_entering k ≡ Some c → pos 0 <ℤ get_or (set (home_line k).entries k.x0 (pos 0)) c (pos 0)
entering-positive k c h = pick (nat_lt k.degenerate 50) h
  where
    found : (i : ℕ) → c ≡ 0 + i → pos 0 <ℤ get_or (set (home_line k).entries k.x0 (pos 0)) i (pos 0) → pos 0 <ℤ get_or (set (home_line k).entries k.x0 (pos 0)) c (pos 0)
    found i e p = subst (λ j. pos 0 <ℤ get_or (set (home_line k).entries k.x0 (pos 0)) j (pos 0)) (omega (arith, e)) p

    pick : (t : Bool) → (if t then greatest_from 0 (pos 0) None (set (home_line k).entries k.x0 (pos 0)) else first_positive_from 0 (set (home_line k).entries k.x0 (pos 0))) ≡ Some c → pos 0 <ℤ get_or (set (home_line k).entries k.x0 (pos 0)) c (pos 0)
    pick true g = elim (greatest-some (set (home_line k).entries k.x0 (pos 0)) 0 (pos 0) None c (omega (arith, ints)) g) [
      | inl e ↦ absurd (cc e)
      | inr m ↦ found m.0 m.1 m.2
    ]
    pick false g = let m = first_positive-some (set (home_line k).entries k.x0 (pos 0)) 0 c g in found m.0 m.1 m.2

-- the column isn't x0's, and x0's row has a positive entry there
pub record IsEntering (k : KeptState) (c : ℕ) : Type 0 where
  pub column : c ≢ k.x0
  pub positive : pos 0 <ℤ entry_of (home_line k) c

pub entering-IsEntering : (k : KeptState) (c : ℕ) → IsKeptState k → kept_entering k ≡ Some c → IsEntering k c
entering-IsEntering k c w h =
    let p : pos 0 <ℤ get_or (set (home_line k).entries k.x0 (pos 0)) c (pos 0) = entering-positive k c h in
    let within : k.x0 < length (home_line k).entries = omega (arith, w.shaped.entries k.home (in_lines k k.home w w.home_row), w.last_column) in
    let apart : c ≢ k.x0 = λ e. absurd (omega (arith, ints, subst (λ j. pos 0 <ℤ get_or (set (home_line k).entries k.x0 (pos 0)) j (pos 0)) e p, get_or-set_same (home_line k).entries k.x0 (pos 0) (pos 0) within)) in
    record {
      column = apart;
      positive = subst (λ z. pos 0 <ℤ z) (get_or-set_other (home_line k).entries k.x0 c (pos 0) (pos 0) apart) p;
    }

-- a pivot that is due: in x0's row, or in another with what the laws of the tableau need
pub record IsDue (k : KeptState) (r c : ℕ) : Type 0 where
  pub row : r < rows_of k.tableau
  pub column : c ≢ k.x0
  pub positive : pos 0 <ℤ entry_of (home_line k) c
  pub chosen : r ≢ k.home → IsChosen k.home k.x0 r c k.tableau

leaving-IsDue : (k : KeptState) (c : ℕ) (a : Candidate) → IsKeptState k → IsEntering k c → kept_leaving k c ≡ Some a → IsDue k a.row c
leaving-IsDue k c a w m h =
    let l : IsLeast (Some k.x0) c 0 None (rough_lines k) (set k.tableau.basics k.home k.x0) a = leaving-IsLeast (Some k.x0) c 0 None (rough_lines k) (set k.tableau.basics k.home k.x0) a (λ b e. absurd (cc e)) h in
    elim l.origin [
      | inl e ↦ absurd (cc e)
      | inr n ↦
          let row : a.row < rows_of k.tableau = omega (arith, n.1.in_basics, n.1.row, length-set k.tableau.basics k.home k.x0) in
          let same : n.0 ≡ a.row = omega (arith, n.1.row) in
          let entry : pos 0 <ℤ entry_of (get_or (rough_lines k) a.row no_line) c = subst (λ j. pos 0 <ℤ entry_of (get_or (rough_lines k) j no_line) c) same (subst (λ z. pos 0 <ℤ z) n.1.entry l.positive) in
          record {
            row = row;
            column = m.column;
            positive = m.positive;
            chosen = λ apart. record {
              row = row;
              apart = apart;
              column = m.column;
              entering = m.positive;
              pivot = pivot a.row row apart entry;
            };
          }
    ]
  where
    pivot : (r : ℕ) → r < rows_of k.tableau → r ≢ k.home → pos 0 <ℤ entry_of (get_or (rough_lines k) r no_line) c → pos 0 <ℤ entry_of (cleared k.x0 (home_line k) (line_of k.tableau r)) c
    pivot r row apart h =
        let there : r < length k.tableau.lines = in_lines k r w row in
        let p : AreProportional (cleared k.x0 (home_line k) (line_of k.tableau r)) (rough_line k.x0 (home_line k) (line_of k.tableau r)) = rough-AreProportional k.x0 (home_line k) (line_of k.tableau r) (w.shaped.entries r there ∙ sym (w.shaped.entries k.home (in_lines k k.home w w.home_row))) w.positive in
        let rough : get_or (rough_lines k) r no_line ≡ rough_line k.x0 (home_line k) (line_of k.tableau r) =
        get_or-set_other (map (rough_line k.x0 (home_line k)) k.tableau.lines) k.home r (home_line k) no_line apart ∙ get_or-map (rough_line k.x0 (home_line k)) k.tableau.lines r no_line no_line there in
        less_scaled (pos 0) (entry_of (rough_line k.x0 (home_line k) (line_of k.tableau r)) c) (pos 0) (entry_of (cleared k.x0 (home_line k) (line_of k.tableau r)) c) p.second p.first p.second_pos p.first_pos
        (zero-*ℤ p.second ∙ sym (zero-*ℤ p.first)) (sym (p.entries c)) (subst (λ (x : Line). pos 0 <ℤ entry_of x c) rough h)

pub kept_due-IsDue : (k : KeptState) (r c : ℕ) → IsKeptState k → kept_due k ≡ Pivot r c → IsDue k r c
kept_due-IsDue k r c w h = column (kept_entering k) refl h
  where
    row : (d : ℕ) (o : Option Candidate) → kept_entering k ≡ Some d → kept_leaving k d ≡ o → elim o as (λ _. Due) [ None ↦ NoRow d | Some a ↦ Pivot a.row d ] ≡ Pivot r c → IsDue k r c
    row d None e f g = absurd (cc g)
    row d (Some a) e f g =
        let rows : a.row ≡ r = cc in
        let columns : d ≡ c = cc in
        subst (λ j. IsDue k j c) rows (subst (λ j. IsDue k a.row j) columns (leaving-IsDue k d a w (entering-IsEntering k d w e) f))

    column : (o : Option ℕ) → kept_entering k ≡ o → elim o as (λ _. Due) [ None ↦ NoColumn | Some d ↦ elim (kept_leaving k d) as (λ _. Due) [ None ↦ NoRow d | Some a ↦ Pivot a.row d ] ] ≡ Pivot r c → IsDue k r c
    column None e g = absurd (cc g)
    column (Some d) e g = row d (kept_leaving k d) e refl g

-- ---- the answer

-- a pivot in another row
pub answer-next : (n : ℕ) (k : KeptState) (r c : ℕ) → IsKeptState k → kept_due k ≡ Pivot r c → r ≢ k.home → all_fit (step_of (shown_state k) r c).formed ≡ true
    → (answer (suc n) (shown_state k) ≡ answer n (shown_state (next_kept k r c))) × IsKeptState (next_kept k r c)
answer-next n k r c w d apart fits =
    let m : IsChosen k.home k.x0 r c k.tableau = (kept_due-IsDue k r c w d).chosen apart in (
      answer-pivot n (shown_state k) r c (due-kept k w ∙ d) fits ∙ ap (answer n) (after-kept k r c w m),
      IsKept-exchanged k.tableau k.home k.x0 r c w m,
    )

-- the pivot in x0's row: phase 2 begins
pub answer-left : (n : ℕ) (k : KeptState) (c : ℕ) → IsKeptState k → kept_due k ≡ Pivot k.home c → all_fit (step_of (shown_state k) k.home c).formed ≡ true → answer (suc n) (shown_state k) ≡ answer n (left_kept k c)
answer-left n k c w d fits = answer-pivot n (shown_state k) k.home c (due-kept k w ∙ d) fits ∙ ap (answer n) (after-left k c w (kept_due-IsDue k k.home c w d).positive)

-- the ends
pub answer-infeasible : (n : ℕ) (k : KeptState) → IsKeptState k → kept_due k ≡ NoColumn → answer n (shown_state k) ≡ Ended Infeasible (shown_state k)
answer-infeasible n k w d = answer-no_column n (shown_state k) (due-kept k w ∙ d)

pub answer-budget : (k : KeptState) (r c : ℕ) → IsKeptState k → kept_due k ≡ Pivot r c → answer 0 (shown_state k) ≡ Ended PivotDue (shown_state k)
answer-budget k r c w d = answer-due (shown_state k) r c (due-kept k w ∙ d)
